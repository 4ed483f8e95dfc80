-- 2^255 - 19 is prime, by Pratt's certificate: of each prime q a generator, the bits of its powers, and the primes of q - 1.
-- Made by generate/certificates.py, with its certificates.
use Rattle.std.proofs.Common.{[], ◌∷◌, refl}
use Rattle.curve25519.proofs.PrimalityTest.{IsPrime, prime_by_certificate}

prime_2 : IsPrime 2
prime_2 =
    prime_by_certificate 2 1 2
    ([])
    tt
    refl

prime_3 : IsPrime 3
prime_3 =
    prime_by_certificate 3 2 2
    (2 ∷ [])
    (prime_2, tt)
    refl

prime_5 : IsPrime 5
prime_5 =
    prime_by_certificate 5 2 3
    (2 ∷ 2 ∷ [])
    (prime_2, (prime_2, tt))
    refl

prime_7 : IsPrime 7
prime_7 =
    prime_by_certificate 7 3 3
    (2 ∷ 3 ∷ [])
    (prime_2, (prime_3, tt))
    refl

prime_11 : IsPrime 11
prime_11 =
    prime_by_certificate 11 2 4
    (2 ∷ 5 ∷ [])
    (prime_2, (prime_5, tt))
    refl

prime_13 : IsPrime 13
prime_13 =
    prime_by_certificate 13 2 4
    (2 ∷ 2 ∷ 3 ∷ [])
    (prime_2, (prime_2, (prime_3, tt)))
    refl

prime_17 : IsPrime 17
prime_17 =
    prime_by_certificate 17 3 5
    (2 ∷ 2 ∷ 2 ∷ 2 ∷ [])
    (prime_2, (prime_2, (prime_2, (prime_2, tt))))
    refl

prime_19 : IsPrime 19
prime_19 =
    prime_by_certificate 19 2 5
    (2 ∷ 3 ∷ 3 ∷ [])
    (prime_2, (prime_3, (prime_3, tt)))
    refl

prime_23 : IsPrime 23
prime_23 =
    prime_by_certificate 23 5 5
    (2 ∷ 11 ∷ [])
    (prime_2, (prime_11, tt))
    refl

prime_29 : IsPrime 29
prime_29 =
    prime_by_certificate 29 2 5
    (2 ∷ 2 ∷ 7 ∷ [])
    (prime_2, (prime_2, (prime_7, tt)))
    refl

prime_31 : IsPrime 31
prime_31 =
    prime_by_certificate 31 3 5
    (2 ∷ 3 ∷ 5 ∷ [])
    (prime_2, (prime_3, (prime_5, tt)))
    refl

prime_37 : IsPrime 37
prime_37 =
    prime_by_certificate 37 2 6
    (2 ∷ 2 ∷ 3 ∷ 3 ∷ [])
    (prime_2, (prime_2, (prime_3, (prime_3, tt))))
    refl

prime_41 : IsPrime 41
prime_41 =
    prime_by_certificate 41 6 6
    (2 ∷ 2 ∷ 2 ∷ 5 ∷ [])
    (prime_2, (prime_2, (prime_2, (prime_5, tt))))
    refl

prime_43 : IsPrime 43
prime_43 =
    prime_by_certificate 43 3 6
    (2 ∷ 3 ∷ 7 ∷ [])
    (prime_2, (prime_3, (prime_7, tt)))
    refl

prime_47 : IsPrime 47
prime_47 =
    prime_by_certificate 47 5 6
    (2 ∷ 23 ∷ [])
    (prime_2, (prime_23, tt))
    refl

prime_53 : IsPrime 53
prime_53 =
    prime_by_certificate 53 2 6
    (2 ∷ 2 ∷ 13 ∷ [])
    (prime_2, (prime_2, (prime_13, tt)))
    refl

prime_59 : IsPrime 59
prime_59 =
    prime_by_certificate 59 2 6
    (2 ∷ 29 ∷ [])
    (prime_2, (prime_29, tt))
    refl

prime_83 : IsPrime 83
prime_83 =
    prime_by_certificate 83 2 7
    (2 ∷ 41 ∷ [])
    (prime_2, (prime_41, tt))
    refl

prime_97 : IsPrime 97
prime_97 =
    prime_by_certificate 97 5 7
    (2 ∷ 2 ∷ 2 ∷ 2 ∷ 2 ∷ 3 ∷ [])
    (prime_2, (prime_2, (prime_2, (prime_2, (prime_2, (prime_3, tt))))))
    refl

prime_103 : IsPrime 103
prime_103 =
    prime_by_certificate 103 5 7
    (2 ∷ 3 ∷ 17 ∷ [])
    (prime_2, (prime_3, (prime_17, tt)))
    refl

prime_107 : IsPrime 107
prime_107 =
    prime_by_certificate 107 2 7
    (2 ∷ 53 ∷ [])
    (prime_2, (prime_53, tt))
    refl

prime_127 : IsPrime 127
prime_127 =
    prime_by_certificate 127 3 7
    (2 ∷ 3 ∷ 3 ∷ 7 ∷ [])
    (prime_2, (prime_3, (prime_3, (prime_7, tt))))
    refl

prime_131 : IsPrime 131
prime_131 =
    prime_by_certificate 131 2 8
    (2 ∷ 5 ∷ 13 ∷ [])
    (prime_2, (prime_5, (prime_13, tt)))
    refl

prime_173 : IsPrime 173
prime_173 =
    prime_by_certificate 173 2 8
    (2 ∷ 2 ∷ 43 ∷ [])
    (prime_2, (prime_2, (prime_43, tt)))
    refl

prime_223 : IsPrime 223
prime_223 =
    prime_by_certificate 223 3 8
    (2 ∷ 3 ∷ 37 ∷ [])
    (prime_2, (prime_3, (prime_37, tt)))
    refl

prime_239 : IsPrime 239
prime_239 =
    prime_by_certificate 239 7 8
    (2 ∷ 7 ∷ 17 ∷ [])
    (prime_2, (prime_7, (prime_17, tt)))
    refl

prime_353 : IsPrime 353
prime_353 =
    prime_by_certificate 353 3 9
    (2 ∷ 2 ∷ 2 ∷ 2 ∷ 2 ∷ 11 ∷ [])
    (prime_2, (prime_2, (prime_2, (prime_2, (prime_2, (prime_11, tt))))))
    refl

prime_419 : IsPrime 419
prime_419 =
    prime_by_certificate 419 2 9
    (2 ∷ 11 ∷ 19 ∷ [])
    (prime_2, (prime_11, (prime_19, tt)))
    refl

prime_479 : IsPrime 479
prime_479 =
    prime_by_certificate 479 13 9
    (2 ∷ 239 ∷ [])
    (prime_2, (prime_239, tt))
    refl

prime_487 : IsPrime 487
prime_487 =
    prime_by_certificate 487 3 9
    (2 ∷ 3 ∷ 3 ∷ 3 ∷ 3 ∷ 3 ∷ [])
    (prime_2, (prime_3, (prime_3, (prime_3, (prime_3, (prime_3, tt))))))
    refl

prime_991 : IsPrime 991
prime_991 =
    prime_by_certificate 991 6 10
    (2 ∷ 3 ∷ 3 ∷ 5 ∷ 11 ∷ [])
    (prime_2, (prime_3, (prime_3, (prime_5, (prime_11, tt)))))
    refl

prime_1723 : IsPrime 1723
prime_1723 =
    prime_by_certificate 1723 3 11
    (2 ∷ 3 ∷ 7 ∷ 41 ∷ [])
    (prime_2, (prime_3, (prime_7, (prime_41, tt))))
    refl

prime_2437 : IsPrime 2437
prime_2437 =
    prime_by_certificate 2437 2 12
    (2 ∷ 2 ∷ 3 ∷ 7 ∷ 29 ∷ [])
    (prime_2, (prime_2, (prime_3, (prime_7, (prime_29, tt)))))
    refl

prime_3727 : IsPrime 3727
prime_3727 =
    prime_by_certificate 3727 3 12
    (2 ∷ 3 ∷ 3 ∷ 3 ∷ 3 ∷ 23 ∷ [])
    (prime_2, (prime_3, (prime_3, (prime_3, (prime_3, (prime_23, tt))))))
    refl

prime_4153 : IsPrime 4153
prime_4153 =
    prime_by_certificate 4153 5 13
    (2 ∷ 2 ∷ 2 ∷ 3 ∷ 173 ∷ [])
    (prime_2, (prime_2, (prime_2, (prime_3, (prime_173, tt)))))
    refl

prime_9463 : IsPrime 9463
prime_9463 =
    prime_by_certificate 9463 3 14
    (2 ∷ 3 ∷ 19 ∷ 83 ∷ [])
    (prime_2, (prime_3, (prime_19, (prime_83, tt))))
    refl

prime_32573 : IsPrime 32573
prime_32573 =
    prime_by_certificate 32573 2 15
    (2 ∷ 2 ∷ 17 ∷ 479 ∷ [])
    (prime_2, (prime_2, (prime_17, (prime_479, tt))))
    refl

prime_37853 : IsPrime 37853
prime_37853 =
    prime_by_certificate 37853 2 16
    (2 ∷ 2 ∷ 9463 ∷ [])
    (prime_2, (prime_2, (prime_9463, tt)))
    refl

prime_57467 : IsPrime 57467
prime_57467 =
    prime_by_certificate 57467 2 16
    (2 ∷ 59 ∷ 487 ∷ [])
    (prime_2, (prime_59, (prime_487, tt)))
    refl

prime_65147 : IsPrime 65147
prime_65147 =
    prime_by_certificate 65147 2 16
    (2 ∷ 32573 ∷ [])
    (prime_2, (prime_32573, tt))
    refl

prime_75707 : IsPrime 75707
prime_75707 =
    prime_by_certificate 75707 2 17
    (2 ∷ 37853 ∷ [])
    (prime_2, (prime_37853, tt))
    refl

prime_132049 : IsPrime 132049
prime_132049 =
    prime_by_certificate 132049 26 18
    (2 ∷ 2 ∷ 2 ∷ 2 ∷ 3 ∷ 3 ∷ 7 ∷ 131 ∷ [])
    (prime_2, (prime_2, (prime_2, (prime_2, (prime_3, (prime_3, (prime_7, (prime_131, tt))))))))
    refl

prime_430751 : IsPrime 430751
prime_430751 =
    prime_by_certificate 430751 17 19
    (2 ∷ 5 ∷ 5 ∷ 5 ∷ 1723 ∷ [])
    (prime_2, (prime_5, (prime_5, (prime_5, (prime_1723, tt)))))
    refl

prime_569003 : IsPrime 569003
prime_569003 =
    prime_by_certificate 569003 2 20
    (2 ∷ 7 ∷ 97 ∷ 419 ∷ [])
    (prime_2, (prime_7, (prime_97, (prime_419, tt))))
    refl

prime_1923133 : IsPrime 1923133
prime_1923133 =
    prime_by_certificate 1923133 2 21
    (2 ∷ 2 ∷ 3 ∷ 43 ∷ 3727 ∷ [])
    (prime_2, (prime_2, (prime_3, (prime_43, (prime_3727, tt)))))
    refl

prime_8574133 : IsPrime 8574133
prime_8574133 =
    prime_by_certificate 8574133 2 24
    (2 ∷ 2 ∷ 3 ∷ 7 ∷ 103 ∷ 991 ∷ [])
    (prime_2, (prime_2, (prime_3, (prime_7, (prime_103, (prime_991, tt))))))
    refl

prime_2773320623 : IsPrime 2773320623
prime_2773320623 =
    prime_by_certificate 2773320623 5 32
    (2 ∷ 2437 ∷ 569003 ∷ [])
    (prime_2, (prime_2437, (prime_569003, tt)))
    refl

prime_72106336199 : IsPrime 72106336199
prime_72106336199 =
    prime_by_certificate 72106336199 7 37
    (2 ∷ 13 ∷ 2773320623 ∷ [])
    (prime_2, (prime_13, (prime_2773320623, tt)))
    refl

prime_16_digits : IsPrime 1919519569386763
prime_16_digits =
    prime_by_certificate 1919519569386763 2 51
    (2 ∷ 3 ∷ 7 ∷ 19 ∷ 47 ∷ 47 ∷ 127 ∷ 8574133 ∷ [])
    (prime_2, (prime_3, (prime_7, (prime_19, (prime_47, (prime_47, (prime_127, (prime_8574133, tt))))))))
    refl

prime_17_digits : IsPrime 31757755568855353
prime_17_digits =
    prime_by_certificate 31757755568855353 10 55
    (2 ∷ 2 ∷ 2 ∷ 3 ∷ 31 ∷ 107 ∷ 223 ∷ 4153 ∷ 430751 ∷ [])
    (prime_2, (prime_2, (prime_2, (prime_3, (prime_31, (prime_107, (prime_223, (prime_4153, (prime_430751, tt)))))))))
    refl

prime_35_digits : IsPrime 75445702479781427272750846543864801
prime_35_digits =
    prime_by_certificate 75445702479781427272750846543864801 7 116
    (2 ∷ 2 ∷ 2 ∷ 2 ∷ 2 ∷ 3 ∷ 3 ∷ 5 ∷ 5 ∷ 75707 ∷ 72106336199 ∷ 1919519569386763 ∷ [])
    (prime_2, (prime_2, (prime_2, (prime_2, (prime_2, (prime_3, (prime_3, (prime_5, (prime_5, (prime_75707, (prime_72106336199, (prime_16_digits, tt))))))))))))
    refl

prime_71_digits : IsPrime 74058212732561358302231226437062788676166966415465897661863160754340907
prime_71_digits =
    prime_by_certificate 74058212732561358302231226437062788676166966415465897661863160754340907 2 236
    (2 ∷ 3 ∷ 353 ∷ 57467 ∷ 132049 ∷ 1923133 ∷ 31757755568855353 ∷ 75445702479781427272750846543864801 ∷ [])
    (prime_2, (prime_3, (prime_353, (prime_57467, (prime_132049, (prime_1923133, (prime_17_digits, (prime_35_digits, tt))))))))
    refl

pub prime_certified : IsPrime 57896044618658097711785492504343953926634992332820282019728792003956564819949
prime_certified =
    prime_by_certificate 57896044618658097711785492504343953926634992332820282019728792003956564819949 2 255
    (2 ∷ 2 ∷ 3 ∷ 65147 ∷ 74058212732561358302231226437062788676166966415465897661863160754340907 ∷ [])
    (prime_2, (prime_2, (prime_3, (prime_65147, (prime_71_digits, tt)))))
    refl
