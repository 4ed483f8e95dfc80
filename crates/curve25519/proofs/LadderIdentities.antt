-- The identities of a step of the ladder: each follows from its premises by cofactors, which the checker multiplies out.
-- Made by generate/certificates.py, with its certificates.
use Rattle.std.proofs.Common.{ℕ, ◌+◌, ◌*◌, [], ◌∷◌, refl}
use Rattle.curve25519.specs.Field.{prime}
use Rattle.curve25519.proofs.Congruence.{Congruent}
use Rattle.curve25519.proofs.CurveConstants.{d, minus_d, minus_one}
use Rattle.curve25519.proofs.Polynomials.{lit, var, plus, times, premise, sum_of, term, nth, follows}

-- 1 + y and 1 - y of P + Q and of P - Q, multiplied out
pub differential_addition : (x1 y1 x2 y2 : ℕ)
    → Congruent prime (x1 * x1 + y1 * y1) (1 + d * (x1 * x1 * (y1 * y1)))
    → Congruent prime (x2 * x2 + y2 * y2) (1 + d * (x2 * x2 * (y2 * y2)))
    → Congruent prime ((1 + minus_d * (x1 * x2 * (y1 * y2)) + (y1 * y2 + minus_one * (x1 * x2))) * (1 + d * (x1 * x2 * (y1 * y2)) + (y1 * y2 + x1 *
    x2)) * ((y1 + minus_one * y2) * (y1 + minus_one * y2))) ((1 + minus_d * (x1 * x2 * (y1 * y2)) + minus_one * (y1 * y2 + minus_one * (x1 * x2))) *
    (1 + d * (x1 * x2 * (y1 * y2)) + minus_one * (y1 * y2 + x1 * x2)) * ((y1 + y2) * (y1 + y2)))
unfolding prime d minus_d minus_one
differential_addition x1 y1 x2 y2 on1 on2 =
    follows prime (nth (x1 ∷ y1 ∷ x2 ∷ y2 ∷ []))
    (times (times (plus (plus (lit 1) (times (lit minus_d) (times (times (var 0) (var 2)) (times (var 1) (var 3))))) (plus (times (var 1) (var 3))
    (times (lit minus_one) (times (var 0) (var 2))))) (plus (plus (lit 1) (times (lit d) (times (times (var 0) (var 2)) (times (var 1) (var 3)))))
    (plus (times (var 1) (var 3)) (times (var 0) (var 2))))) (times (plus (var 1) (times (lit minus_one) (var 3))) (plus (var 1) (times (lit
    minus_one) (var 3)))))
    (times (times (plus (plus (lit 1) (times (lit minus_d) (times (times (var 0) (var 2)) (times (var 1) (var 3))))) (times (lit minus_one) (plus
    (times (var 1) (var 3)) (times (lit minus_one) (times (var 0) (var 2)))))) (plus (plus (lit 1) (times (lit d) (times (times (var 0) (var 2))
    (times (var 1) (var 3))))) (times (lit minus_one) (plus (times (var 1) (var 3)) (times (var 0) (var 2)))))) (times (plus (var 1) (var 3)) (plus
    (var 1) (var 3))))
    (premise (sum_of (term 25305310117296535762804143478013601021736521479087969993631233879525933325627 (2 ∷ 2 ∷ 1 ∷ 3 ∷ 3 ∷ 3 ∷ []) ∷ term
    57896044618658097711785492504343953926634992332820282019728792003956564819945 (2 ∷ 2 ∷ 1 ∷ 3 ∷ []) ∷ [])) (plus (times (var 0) (var 0)) (times
    (var 1) (var 1))) (plus (lit 1) (times (lit d) (times (times (var 0) (var 0)) (times (var 1) (var 1))))) ∷ premise (sum_of (term 4 (1 ∷ 1 ∷ 1 ∷ 3
    ∷ []) ∷ term 57896044618658097711785492504343953926634992332820282019728792003956564819945 (1 ∷ 3 ∷ []) ∷ [])) (plus (times (var 2) (var 2))
    (times (var 3) (var 3))) (plus (lit 1) (times (lit d) (times (times (var 2) (var 2)) (times (var 3) (var 3))))) ∷ [])
    refl (on1, (on2, tt))

-- 1 + y and 1 - y of 2 P, multiplied out
pub doubling : (x y : ℕ)
    → Congruent prime (x * x + y * y) (1 + d * (x * x * (y * y)))
    → Congruent prime ((1 + minus_d * (x * x * (y * y)) + (y * y + minus_one * (x * x))) * ((1 + minus_one * (y * y)) * (1 + 121665 * (1 + minus_one *
    (y * y))))) ((1 + minus_d * (x * x * (y * y)) + minus_one * (y * y + minus_one * (x * x))) * (y * y))
unfolding prime d minus_d minus_one
doubling x y on =
    follows prime (nth (x ∷ y ∷ []))
    (times (plus (plus (lit 1) (times (lit minus_d) (times (times (var 0) (var 0)) (times (var 1) (var 1))))) (plus (times (var 1) (var 1)) (times
    (lit minus_one) (times (var 0) (var 0))))) (times (plus (lit 1) (times (lit minus_one) (times (var 1) (var 1)))) (plus (lit 1) (times (lit 121665)
    (plus (lit 1) (times (lit minus_one) (times (var 1) (var 1))))))))
    (times (plus (plus (lit 1) (times (lit minus_d) (times (times (var 0) (var 0)) (times (var 1) (var 1))))) (times (lit minus_one) (plus (times (var
    1) (var 1)) (times (lit minus_one) (times (var 0) (var 0)))))) (times (var 1) (var 1)))
    (premise (sum_of (term 121666 ([]) ∷ term 57896044618658097711785492504343953926634992332820282019728792003956564698284 (1 ∷ 1 ∷ 1 ∷ 1 ∷ []) ∷
    [])) (plus (times (var 0) (var 0)) (times (var 1) (var 1))) (plus (lit 1) (times (lit d) (times (times (var 0) (var 0)) (times (var 1) (var 1)))))
    ∷ [])
    refl (on, tt)

-- k = e / dm and y1 = g / dp: from the identity without fractions to that of k and y1
pub join_differential_addition : (k y1 t y2 dm dp e g : ℕ)
    → Congruent prime (k * dm) (e)
    → Congruent prime (y1 * dp) (g)
    → Congruent prime ((dm + e) * (dp + g) * ((t + minus_one * y2) * (t + minus_one * y2))) ((dm + minus_one * e) * (dp + minus_one * g) * ((t + y2) *
    (t + y2)))
    → Congruent prime ((1 + k) * (1 + y1) * ((t + minus_one * y2) * (t + minus_one * y2)) * (dm * dp)) ((1 + minus_one * k) * (1 + minus_one * y1) *
    ((t + y2) * (t + y2)) * (dm * dp))
unfolding prime minus_one
join_differential_addition k y1 t y2 dm dp e g hk hy hi =
    follows prime (nth (k ∷ y1 ∷ t ∷ y2 ∷ dm ∷ dp ∷ e ∷ g ∷ []))
    (times (times (times (plus (lit 1) (var 0)) (plus (lit 1) (var 1))) (times (plus (var 2) (times (lit minus_one) (var 3))) (plus (var 2) (times
    (lit minus_one) (var 3))))) (times (var 4) (var 5)))
    (times (times (times (plus (lit 1) (times (lit minus_one) (var 0))) (plus (lit 1) (times (lit minus_one) (var 1)))) (times (plus (var 2) (var 3))
    (plus (var 2) (var 3)))) (times (var 4) (var 5)))
    (premise (times (lit minus_one) (plus (times (plus (var 5) (times (var 1) (var 5))) (times (plus (var 2) (times (lit minus_one) (var 3))) (plus
    (var 2) (times (lit minus_one) (var 3))))) (times (plus (var 5) (times (lit minus_one) (times (var 1) (var 5)))) (times (plus (var 2) (var 3))
    (plus (var 2) (var 3)))))) (times (var 0) (var 4)) (var 6) ∷ premise (times (lit minus_one) (plus (times (plus (var 4) (var 6)) (times (plus (var
    2) (times (lit minus_one) (var 3))) (plus (var 2) (times (lit minus_one) (var 3))))) (times (plus (var 4) (times (lit minus_one) (var 6))) (times
    (plus (var 2) (var 3)) (plus (var 2) (var 3)))))) (times (var 1) (var 5)) (var 7) ∷ premise (lit minus_one) (times (times (plus (var 4) (var 6))
    (plus (var 5) (var 7))) (times (plus (var 2) (times (lit minus_one) (var 3))) (plus (var 2) (times (lit minus_one) (var 3))))) (times (times (plus
    (var 4) (times (lit minus_one) (var 6))) (plus (var 5) (times (lit minus_one) (var 7)))) (times (plus (var 2) (var 3)) (plus (var 2) (var 3)))) ∷
    [])
    refl (hk, (hy, (hi, tt)))

-- k = e / dm: from the identity without fractions to that of k
pub join_doubling : (k dm e g h : ℕ)
    → Congruent prime (k * dm) (e)
    → Congruent prime ((dm + e) * g) ((dm + minus_one * e) * h)
    → Congruent prime ((1 + k) * g * dm) ((1 + minus_one * k) * h * dm)
unfolding prime minus_one
join_doubling k dm e g h hk hi =
    follows prime (nth (k ∷ dm ∷ e ∷ g ∷ h ∷ []))
    (times (times (plus (lit 1) (var 0)) (var 3)) (var 1))
    (times (times (plus (lit 1) (times (lit minus_one) (var 0))) (var 4)) (var 1))
    (premise (times (lit minus_one) (plus (var 3) (var 4))) (times (var 0) (var 1)) (var 2) ∷ premise (lit minus_one) (times (plus (var 1) (var 2))
    (var 3)) (times (plus (var 1) (times (lit minus_one) (var 2))) (var 4)) ∷ [])
    refl (hk, (hi, tt))

-- doubling: b = a y gives X - Z = (X + Z) k, where k is the y of the double
pub doubled_ratio : (a b y k : ℕ)
    → Congruent prime (b) (a * y)
    → Congruent prime ((1 + k) * ((1 + minus_one * (y * y)) * (1 + 121665 * (1 + minus_one * (y * y))))) ((1 + minus_one * k) * (y * y))
    → Congruent prime (a * a * (b * b) + minus_one * ((a * a + minus_one * (b * b)) * (a * a + 121665 * (a * a + minus_one * (b * b))))) ((a * a * (b
    * b) + (a * a + minus_one * (b * b)) * (a * a + 121665 * (a * a + minus_one * (b * b)))) * k)
unfolding prime minus_one
doubled_ratio a b y k hb hd =
    follows prime (nth (a ∷ b ∷ y ∷ k ∷ []))
    (plus (times (times (var 0) (var 0)) (times (var 1) (var 1))) (times (lit minus_one) (times (plus (times (var 0) (var 0)) (times (lit minus_one)
    (times (var 1) (var 1)))) (plus (times (var 0) (var 0)) (times (lit 121665) (plus (times (var 0) (var 0)) (times (lit minus_one) (times (var 1)
    (var 1)))))))))
    (times (plus (times (times (var 0) (var 0)) (times (var 1) (var 1))) (times (plus (times (var 0) (var 0)) (times (lit minus_one) (times (var 1)
    (var 1)))) (plus (times (var 0) (var 0)) (times (lit 121665) (plus (times (var 0) (var 0)) (times (lit minus_one) (times (var 1) (var 1))))))))
    (var 3))
    (premise (sum_of (term 57896044618658097711785492504343953926634992332820282019728792003956564576617 (0 ∷ 0 ∷ 1 ∷ []) ∷ term 121665 (1 ∷ 1 ∷ 1 ∷
    []) ∷ term 57896044618658097711785492504343953926634992332820282019728792003956564576619 (0 ∷ 0 ∷ 1 ∷ 3 ∷ []) ∷ term 121665 (1 ∷ 1 ∷ 1 ∷ 3 ∷ []) ∷
    term 57896044618658097711785492504343953926634992332820282019728792003956564576617 (0 ∷ 0 ∷ 0 ∷ 2 ∷ []) ∷ term 121665 (0 ∷ 1 ∷ 1 ∷ 2 ∷ []) ∷ term
    57896044618658097711785492504343953926634992332820282019728792003956564576619 (0 ∷ 0 ∷ 0 ∷ 3 ∷ 2 ∷ []) ∷ term 121665 (0 ∷ 1 ∷ 1 ∷ 3 ∷ 2 ∷ []) ∷
    term 121665 (0 ∷ 0 ∷ 1 ∷ 2 ∷ 2 ∷ []) ∷ term 121665 (0 ∷ 0 ∷ 1 ∷ 3 ∷ 2 ∷ 2 ∷ []) ∷ term 121665 (0 ∷ 0 ∷ 0 ∷ 2 ∷ 2 ∷ 2 ∷ []) ∷ term 121665 (0 ∷ 0 ∷
    0 ∷ 3 ∷ 2 ∷ 2 ∷ 2 ∷ []) ∷ [])) (var 1) (times (var 0) (var 2)) ∷ premise (times (times (var 0) (var 0)) (times (var 0) (var 0))) (times (plus (lit
    1) (var 3)) (times (plus (lit 1) (times (lit minus_one) (times (var 2) (var 2)))) (plus (lit 1) (times (lit 121665) (plus (lit 1) (times (lit
    minus_one) (times (var 2) (var 2)))))))) (times (plus (lit 1) (times (lit minus_one) (var 3))) (times (var 2) (var 2))) ∷ [])
    refl (hb, (hd, tt))

-- doubling: X + Z = 0 leaves y^2 + G = 0 or a = 0
pub doubled_zero : (a b y : ℕ)
    → Congruent prime (b) (a * y)
    → Congruent prime (a * a * (b * b) + (a * a + minus_one * (b * b)) * (a * a + 121665 * (a * a + minus_one * (b * b)))) (0)
    → Congruent prime ((y * y + (1 + minus_one * (y * y)) * (1 + 121665 * (1 + minus_one * (y * y)))) * (a * a * (a * a))) (0)
unfolding prime minus_one
doubled_zero a b y hb hs =
    follows prime (nth (a ∷ b ∷ y ∷ []))
    (times (plus (times (var 2) (var 2)) (times (plus (lit 1) (times (lit minus_one) (times (var 2) (var 2)))) (plus (lit 1) (times (lit 121665) (plus
    (lit 1) (times (lit minus_one) (times (var 2) (var 2)))))))) (times (times (var 0) (var 0)) (times (var 0) (var 0))))
    (lit 0)
    (premise (sum_of (term 57896044618658097711785492504343953926634992332820282019728792003956564576619 (0 ∷ 0 ∷ 1 ∷ []) ∷ term 121665 (1 ∷ 1 ∷ 1 ∷
    []) ∷ term 57896044618658097711785492504343953926634992332820282019728792003956564576619 (0 ∷ 0 ∷ 0 ∷ 2 ∷ []) ∷ term 121665 (0 ∷ 1 ∷ 1 ∷ 2 ∷ []) ∷
    term 121665 (0 ∷ 0 ∷ 1 ∷ 2 ∷ 2 ∷ []) ∷ term 121665 (0 ∷ 0 ∷ 0 ∷ 2 ∷ 2 ∷ 2 ∷ []) ∷ [])) (var 1) (times (var 0) (var 2)) ∷ premise (lit minus_one)
    (plus (times (times (var 0) (var 0)) (times (var 1) (var 1))) (times (plus (times (var 0) (var 0)) (times (lit minus_one) (times (var 1) (var
    1)))) (plus (times (var 0) (var 0)) (times (lit 121665) (plus (times (var 0) (var 0)) (times (lit minus_one) (times (var 1) (var 1)))))))) (lit 0)
    ∷ [])
    refl (hb, (hs, tt))

-- doubling: y^2 + G = 0 would make a constant 0
pub doubled_zero_constant : (y k : ℕ)
    → Congruent prime ((1 + k) * ((1 + minus_one * (y * y)) * (1 + 121665 * (1 + minus_one * (y * y))))) ((1 + minus_one * k) * (y * y))
    → Congruent prime (y * y + (1 + minus_one * (y * y)) * (1 + 121665 * (1 + minus_one * (y * y)))) (0)
    → Congruent prime (243332) (0)
unfolding prime minus_one
doubled_zero_constant y k hd hs =
    follows prime (nth (y ∷ k ∷ []))
    (lit 243332)
    (lit 0)
    (premise (times (lit minus_one) (plus (lit 1) (plus (times (lit 121665) (times (var 0) (var 0))) (times (lit minus_one) (lit 243331))))) (times
    (plus (lit 1) (var 1)) (times (plus (lit 1) (times (lit minus_one) (times (var 0) (var 0)))) (plus (lit 1) (times (lit 121665) (plus (lit 1)
    (times (lit minus_one) (times (var 0) (var 0)))))))) (times (plus (lit 1) (times (lit minus_one) (var 1))) (times (var 0) (var 0))) ∷ premise
    (times (lit minus_one) (plus (plus (lit 1) (times (lit minus_one) (var 1))) (times (lit minus_one) (times (plus (times (lit 121665) (times (var 0)
    (var 0))) (times (lit minus_one) (lit 243331))) (plus (lit 1) (var 1)))))) (plus (times (var 0) (var 0)) (times (plus (lit 1) (times (lit
    minus_one) (times (var 0) (var 0)))) (plus (lit 1) (times (lit 121665) (plus (lit 1) (times (lit minus_one) (times (var 0) (var 0)))))))) (lit 0)
    ∷ [])
    refl (hd, (hs, tt))

-- addition: X - Z = (X + Z) k, where k is the y of the sum, times 1 - y of the difference
pub added_ratio : (a b c f y1 y2 y3 k u : ℕ)
    → Congruent prime (b) (a * y2)
    → Congruent prime (f) (c * y3)
    → Congruent prime (u * (1 + minus_one * y1)) (1 + y1)
    → Congruent prime ((1 + k) * (1 + y1) * ((y3 + minus_one * y2) * (y3 + minus_one * y2))) ((1 + minus_one * k) * (1 + minus_one * y1) * ((y3 + y2)
    * (y3 + y2)))
    → Congruent prime (((f * a + c * b) * (f * a + c * b) + minus_one * (u * ((f * a + minus_one * (c * b)) * (f * a + minus_one * (c * b))))) * (1 +
    minus_one * y1)) (((f * a + c * b) * (f * a + c * b) + u * ((f * a + minus_one * (c * b)) * (f * a + minus_one * (c * b)))) * k * (1 + minus_one *
    y1))
unfolding prime minus_one
added_ratio a b c f y1 y2 y3 k u hb hf hu hs =
    follows prime (nth (a ∷ b ∷ c ∷ f ∷ y1 ∷ y2 ∷ y3 ∷ k ∷ u ∷ []))
    (times (plus (times (plus (times (var 3) (var 0)) (times (var 2) (var 1))) (plus (times (var 3) (var 0)) (times (var 2) (var 1)))) (times (lit
    minus_one) (times (var 8) (times (plus (times (var 3) (var 0)) (times (lit minus_one) (times (var 2) (var 1)))) (plus (times (var 3) (var 0))
    (times (lit minus_one) (times (var 2) (var 1)))))))) (plus (lit 1) (times (lit minus_one) (var 4))))
    (times (times (plus (times (plus (times (var 3) (var 0)) (times (var 2) (var 1))) (plus (times (var 3) (var 0)) (times (var 2) (var 1)))) (times
    (var 8) (times (plus (times (var 3) (var 0)) (times (lit minus_one) (times (var 2) (var 1)))) (plus (times (var 3) (var 0)) (times (lit minus_one)
    (times (var 2) (var 1))))))) (var 7)) (plus (lit 1) (times (lit minus_one) (var 4))))
    (premise (sum_of (term 57896044618658097711785492504343953926634992332820282019728792003956564819947 (0 ∷ 2 ∷ 3 ∷ []) ∷ term 2 (0 ∷ 2 ∷ 3 ∷ 4 ∷
    []) ∷ term 57896044618658097711785492504343953926634992332820282019728792003956564819948 (1 ∷ 2 ∷ 2 ∷ []) ∷ term 1 (1 ∷ 2 ∷ 2 ∷ 4 ∷ []) ∷ term
    57896044618658097711785492504343953926634992332820282019728792003956564819947 (0 ∷ 2 ∷ 3 ∷ 8 ∷ []) ∷ term 2 (0 ∷ 2 ∷ 3 ∷ 8 ∷ 4 ∷ []) ∷ term 1 (1 ∷
    2 ∷ 2 ∷ 8 ∷ []) ∷ term 57896044618658097711785492504343953926634992332820282019728792003956564819948 (1 ∷ 2 ∷ 2 ∷ 8 ∷ 4 ∷ []) ∷ term 2 (0 ∷ 2 ∷ 3
    ∷ 7 ∷ []) ∷ term 57896044618658097711785492504343953926634992332820282019728792003956564819947 (0 ∷ 2 ∷ 3 ∷ 7 ∷ 4 ∷ []) ∷ term 1 (1 ∷ 2 ∷ 2 ∷ 7 ∷
    []) ∷ term 57896044618658097711785492504343953926634992332820282019728792003956564819948 (1 ∷ 2 ∷ 2 ∷ 7 ∷ 4 ∷ []) ∷ term
    57896044618658097711785492504343953926634992332820282019728792003956564819947 (0 ∷ 2 ∷ 3 ∷ 7 ∷ 8 ∷ []) ∷ term 2 (0 ∷ 2 ∷ 3 ∷ 7 ∷ 8 ∷ 4 ∷ []) ∷
    term 1 (1 ∷ 2 ∷ 2 ∷ 7 ∷ 8 ∷ []) ∷ term 57896044618658097711785492504343953926634992332820282019728792003956564819948 (1 ∷ 2 ∷ 2 ∷ 7 ∷ 8 ∷ 4 ∷ [])
    ∷ term 57896044618658097711785492504343953926634992332820282019728792003956564819948 (0 ∷ 2 ∷ 2 ∷ 5 ∷ []) ∷ term 1 (0 ∷ 2 ∷ 2 ∷ 4 ∷ 5 ∷ []) ∷ term
    1 (0 ∷ 2 ∷ 2 ∷ 8 ∷ 5 ∷ []) ∷ term 57896044618658097711785492504343953926634992332820282019728792003956564819948 (0 ∷ 2 ∷ 2 ∷ 8 ∷ 4 ∷ 5 ∷ []) ∷
    term 1 (0 ∷ 2 ∷ 2 ∷ 7 ∷ 5 ∷ []) ∷ term 57896044618658097711785492504343953926634992332820282019728792003956564819948 (0 ∷ 2 ∷ 2 ∷ 7 ∷ 4 ∷ 5 ∷ [])
    ∷ term 1 (0 ∷ 2 ∷ 2 ∷ 7 ∷ 8 ∷ 5 ∷ []) ∷ term 57896044618658097711785492504343953926634992332820282019728792003956564819948 (0 ∷ 2 ∷ 2 ∷ 7 ∷ 8 ∷ 4
    ∷ 5 ∷ []) ∷ [])) (var 1) (times (var 0) (var 5)) ∷ premise (sum_of (term
    57896044618658097711785492504343953926634992332820282019728792003956564819948 (0 ∷ 0 ∷ 3 ∷ []) ∷ term 1 (0 ∷ 0 ∷ 3 ∷ 4 ∷ []) ∷ term 1 (0 ∷ 0 ∷ 3 ∷
    8 ∷ []) ∷ term 57896044618658097711785492504343953926634992332820282019728792003956564819948 (0 ∷ 0 ∷ 3 ∷ 8 ∷ 4 ∷ []) ∷ term 1 (0 ∷ 0 ∷ 3 ∷ 7 ∷
    []) ∷ term 57896044618658097711785492504343953926634992332820282019728792003956564819948 (0 ∷ 0 ∷ 3 ∷ 7 ∷ 4 ∷ []) ∷ term 1 (0 ∷ 0 ∷ 3 ∷ 7 ∷ 8 ∷
    []) ∷ term 57896044618658097711785492504343953926634992332820282019728792003956564819948 (0 ∷ 0 ∷ 3 ∷ 7 ∷ 8 ∷ 4 ∷ []) ∷ term
    57896044618658097711785492504343953926634992332820282019728792003956564819947 (0 ∷ 0 ∷ 2 ∷ 5 ∷ []) ∷ term 2 (0 ∷ 0 ∷ 2 ∷ 4 ∷ 5 ∷ []) ∷ term
    57896044618658097711785492504343953926634992332820282019728792003956564819947 (0 ∷ 0 ∷ 2 ∷ 8 ∷ 5 ∷ []) ∷ term 2 (0 ∷ 0 ∷ 2 ∷ 8 ∷ 4 ∷ 5 ∷ []) ∷
    term 2 (0 ∷ 0 ∷ 2 ∷ 7 ∷ 5 ∷ []) ∷ term 57896044618658097711785492504343953926634992332820282019728792003956564819947 (0 ∷ 0 ∷ 2 ∷ 7 ∷ 4 ∷ 5 ∷ [])
    ∷ term 57896044618658097711785492504343953926634992332820282019728792003956564819947 (0 ∷ 0 ∷ 2 ∷ 7 ∷ 8 ∷ 5 ∷ []) ∷ term 2 (0 ∷ 0 ∷ 2 ∷ 7 ∷ 8 ∷ 4
    ∷ 5 ∷ []) ∷ term 57896044618658097711785492504343953926634992332820282019728792003956564819948 (0 ∷ 0 ∷ 2 ∷ 6 ∷ []) ∷ term 1 (0 ∷ 0 ∷ 2 ∷ 4 ∷ 6 ∷
    []) ∷ term 1 (0 ∷ 0 ∷ 2 ∷ 8 ∷ 6 ∷ []) ∷ term 57896044618658097711785492504343953926634992332820282019728792003956564819948 (0 ∷ 0 ∷ 2 ∷ 8 ∷ 4 ∷ 6
    ∷ []) ∷ term 1 (0 ∷ 0 ∷ 2 ∷ 7 ∷ 6 ∷ []) ∷ term 57896044618658097711785492504343953926634992332820282019728792003956564819948 (0 ∷ 0 ∷ 2 ∷ 7 ∷ 4 ∷
    6 ∷ []) ∷ term 1 (0 ∷ 0 ∷ 2 ∷ 7 ∷ 8 ∷ 6 ∷ []) ∷ term 57896044618658097711785492504343953926634992332820282019728792003956564819948 (0 ∷ 0 ∷ 2 ∷ 7
    ∷ 8 ∷ 4 ∷ 6 ∷ []) ∷ [])) (var 3) (times (var 2) (var 6)) ∷ premise (times (times (times (times (var 0) (var 2)) (times (var 0) (var 2))) (plus
    (lit 1) (var 7))) (times (plus (var 6) (times (lit minus_one) (var 5))) (plus (var 6) (times (lit minus_one) (var 5))))) (times (var 8) (plus (lit
    1) (times (lit minus_one) (var 4)))) (plus (lit 1) (var 4)) ∷ premise (times (times (var 0) (var 2)) (times (var 0) (var 2))) (times (times (plus
    (lit 1) (var 7)) (plus (lit 1) (var 4))) (times (plus (var 6) (times (lit minus_one) (var 5))) (plus (var 6) (times (lit minus_one) (var 5)))))
    (times (times (plus (lit 1) (times (lit minus_one) (var 7))) (plus (lit 1) (times (lit minus_one) (var 4)))) (times (plus (var 6) (var 5)) (plus
    (var 6) (var 5)))) ∷ [])
    refl (hb, (hf, (hu, (hs, tt))))

-- addition: what X = 0 comes to in y
pub added_x_zero : (a b c f y2 y3 : ℕ)
    → Congruent prime (b) (a * y2)
    → Congruent prime (f) (c * y3)
    → Congruent prime ((f * a + c * b) * (f * a + c * b)) (0)
    → Congruent prime (a * c * (y3 + y2) * (a * c * (y3 + y2))) (0)
unfolding prime minus_one
added_x_zero a b c f y2 y3 hb hf hs =
    follows prime (nth (a ∷ b ∷ c ∷ f ∷ y2 ∷ y3 ∷ []))
    (times (times (times (var 0) (var 2)) (plus (var 5) (var 4))) (times (times (var 0) (var 2)) (plus (var 5) (var 4))))
    (lit 0)
    (premise (sum_of (term 2 (0 ∷ 2 ∷ 3 ∷ []) ∷ term 1 (1 ∷ 2 ∷ 2 ∷ []) ∷ term 1 (0 ∷ 2 ∷ 2 ∷ 4 ∷ []) ∷ [])) (var 1) (times (var 0) (var 4)) ∷ premise
    (sum_of (term 1 (0 ∷ 0 ∷ 3 ∷ []) ∷ term 2 (0 ∷ 0 ∷ 2 ∷ 4 ∷ []) ∷ term 1 (0 ∷ 0 ∷ 2 ∷ 5 ∷ []) ∷ [])) (var 3) (times (var 2) (var 5)) ∷ premise (lit
    minus_one) (times (plus (times (var 3) (var 0)) (times (var 2) (var 1))) (plus (times (var 3) (var 0)) (times (var 2) (var 1)))) (lit 0) ∷ [])
    refl (hb, (hf, (hs, tt)))

-- addition: what Z / u = 0 comes to in y
pub added_z_zero : (a b c f y2 y3 : ℕ)
    → Congruent prime (b) (a * y2)
    → Congruent prime (f) (c * y3)
    → Congruent prime ((f * a + minus_one * (c * b)) * (f * a + minus_one * (c * b))) (0)
    → Congruent prime (a * c * (y3 + minus_one * y2) * (a * c * (y3 + minus_one * y2))) (0)
unfolding prime minus_one
added_z_zero a b c f y2 y3 hb hf hs =
    follows prime (nth (a ∷ b ∷ c ∷ f ∷ y2 ∷ y3 ∷ []))
    (times (times (times (var 0) (var 2)) (plus (var 5) (times (lit minus_one) (var 4)))) (times (times (var 0) (var 2)) (plus (var 5) (times (lit
    minus_one) (var 4)))))
    (lit 0)
    (premise (sum_of (term 57896044618658097711785492504343953926634992332820282019728792003956564819947 (0 ∷ 2 ∷ 3 ∷ []) ∷ term 1 (1 ∷ 2 ∷ 2 ∷ []) ∷
    term 1 (0 ∷ 2 ∷ 2 ∷ 4 ∷ []) ∷ [])) (var 1) (times (var 0) (var 4)) ∷ premise (sum_of (term 1 (0 ∷ 0 ∷ 3 ∷ []) ∷ term
    57896044618658097711785492504343953926634992332820282019728792003956564819947 (0 ∷ 0 ∷ 2 ∷ 4 ∷ []) ∷ term 1 (0 ∷ 0 ∷ 2 ∷ 5 ∷ []) ∷ [])) (var 3)
    (times (var 2) (var 5)) ∷ premise (lit minus_one) (times (plus (times (var 3) (var 0)) (times (lit minus_one) (times (var 2) (var 1)))) (plus
    (times (var 3) (var 0)) (times (lit minus_one) (times (var 2) (var 1))))) (lit 0) ∷ [])
    refl (hb, (hf, (hs, tt)))

-- the sum and the difference of two numbers are 0
pub half_left : (a b : ℕ)
    → Congruent prime (a + b) (0)
    → Congruent prime (a + minus_one * b) (0)
    → Congruent prime (2 * a) (0)
unfolding prime minus_one
half_left a b hp hm =
    follows prime (nth (a ∷ b ∷ []))
    (times (lit 2) (var 0))
    (lit 0)
    (premise (lit minus_one) (plus (var 0) (var 1)) (lit 0) ∷ premise (lit minus_one) (plus (var 0) (times (lit minus_one) (var 1))) (lit 0) ∷ [])
    refl (hp, (hm, tt))

-- the same
pub half_right : (a b : ℕ)
    → Congruent prime (a + b) (0)
    → Congruent prime (a + minus_one * b) (0)
    → Congruent prime (2 * b) (0)
unfolding prime minus_one
half_right a b hp hm =
    follows prime (nth (a ∷ b ∷ []))
    (times (lit 2) (var 1))
    (lit 0)
    (premise (lit minus_one) (plus (var 0) (var 1)) (lit 0) ∷ premise (lit 1) (plus (var 0) (times (lit minus_one) (var 1))) (lit 0) ∷ [])
    refl (hp, (hm, tt))

-- DA - CB squared is the same with both points exchanged
pub square_of_exchanged_difference : (a b c f : ℕ)
    → Congruent prime ((b * c + minus_one * (a * f)) * (b * c + minus_one * (a * f))) ((f * a + minus_one * (c * b)) * (f * a + minus_one * (c * b)))
unfolding prime minus_one
square_of_exchanged_difference a b c f =
    follows prime (nth (a ∷ b ∷ c ∷ f ∷ []))
    (times (plus (times (var 1) (var 2)) (times (lit minus_one) (times (var 0) (var 3)))) (plus (times (var 1) (var 2)) (times (lit minus_one) (times
    (var 0) (var 3)))))
    (times (plus (times (var 3) (var 0)) (times (lit minus_one) (times (var 2) (var 1)))) (plus (times (var 3) (var 0)) (times (lit minus_one) (times
    (var 2) (var 1)))))
    ([])
    refl tt

-- and so is DA + CB squared
pub square_of_exchanged_sum : (a b c f : ℕ)
    → Congruent prime ((b * c + a * f) * (b * c + a * f)) ((f * a + c * b) * (f * a + c * b))
unfolding prime
square_of_exchanged_sum a b c f =
    follows prime (nth (a ∷ b ∷ c ∷ f ∷ []))
    (times (plus (times (var 1) (var 2)) (times (var 0) (var 3))) (plus (times (var 1) (var 2)) (times (var 0) (var 3))))
    (times (plus (times (var 3) (var 0)) (times (var 2) (var 1))) (plus (times (var 3) (var 0)) (times (var 2) (var 1))))
    ([])
    refl tt

-- u : 1 stands for y where u = (1 + y) / (1 - y)
pub start_ratio : (u y : ℕ)
    → Congruent prime (u * (1 + minus_one * y)) (1 + y)
    → Congruent prime (u + minus_one * 1) ((u + 1) * y)
unfolding prime minus_one
start_ratio u y h =
    follows prime (nth (u ∷ y ∷ []))
    (plus (var 0) (times (lit minus_one) (lit 1)))
    (times (plus (var 0) (lit 1)) (var 1))
    (premise (lit minus_one) (times (var 0) (plus (lit 1) (times (lit minus_one) (var 1)))) (plus (lit 1) (var 1)) ∷ [])
    refl (h, tt)

-- and u + 1 isn't 0
pub start_zero : (u y : ℕ)
    → Congruent prime (u * (1 + minus_one * y)) (1 + y)
    → Congruent prime (u + 1) (0)
    → Congruent prime (2) (0)
unfolding prime minus_one
start_zero u y h hz =
    follows prime (nth (u ∷ y ∷ []))
    (lit 2)
    (lit 0)
    (premise (lit 1) (times (var 0) (plus (lit 1) (times (lit minus_one) (var 1)))) (plus (lit 1) (var 1)) ∷ premise (times (lit minus_one) (plus (lit
    1) (times (lit minus_one) (var 1)))) (plus (var 0) (lit 1)) (lit 0) ∷ [])
    refl (h, (hz, tt))

-- a point with y = 0 has x^2 = 1
pub x_where_y_zero : (x y : ℕ)
    → Congruent prime (x * x + y * y) (1 + d * (x * x * (y * y)))
    → Congruent prime (y) (0)
    → Congruent prime (x * x) (1)
unfolding prime d minus_d minus_one
x_where_y_zero x y on hy =
    follows prime (nth (x ∷ y ∷ []))
    (times (var 0) (var 0))
    (lit 1)
    (premise (lit minus_one) (plus (times (var 0) (var 0)) (times (var 1) (var 1))) (plus (lit 1) (times (lit d) (times (times (var 0) (var 0)) (times
    (var 1) (var 1))))) ∷ premise (plus (var 1) (times (lit minus_d) (times (times (var 0) (var 0)) (var 1)))) (var 1) (lit 0) ∷ [])
    refl (on, (hy, tt))

-- a point with x = 0 has y^2 = 1
pub y_where_x_zero : (x y : ℕ)
    → Congruent prime (x * x + y * y) (1 + d * (x * x * (y * y)))
    → Congruent prime (x) (0)
    → Congruent prime (y * y) (1)
unfolding prime d minus_d minus_one
y_where_x_zero x y on hx =
    follows prime (nth (x ∷ y ∷ []))
    (times (var 1) (var 1))
    (lit 1)
    (premise (lit minus_one) (plus (times (var 0) (var 0)) (times (var 1) (var 1))) (plus (lit 1) (times (lit d) (times (times (var 0) (var 0)) (times
    (var 1) (var 1))))) ∷ premise (plus (var 0) (times (lit minus_d) (times (var 0) (times (var 1) (var 1))))) (var 0) (lit 0) ∷ [])
    refl (on, (hx, tt))

-- where Q and P + Q have y = 0, x1 x2 = 0
pub product_where_both_zero : (x1 y1 x2 y2 t dm : ℕ)
    → Congruent prime (t * dm) (y1 * y2 + minus_one * (x1 * x2))
    → Congruent prime (y2) (0)
    → Congruent prime (t) (0)
    → Congruent prime (x1 * x2) (0)
unfolding prime minus_one
product_where_both_zero x1 y1 x2 y2 t dm hup hy ht =
    follows prime (nth (x1 ∷ y1 ∷ x2 ∷ y2 ∷ t ∷ dm ∷ []))
    (times (var 0) (var 2))
    (lit 0)
    (premise (lit minus_one) (times (var 4) (var 5)) (plus (times (var 1) (var 3)) (times (lit minus_one) (times (var 0) (var 2)))) ∷ premise (times
    (lit minus_one) (var 1)) (var 3) (lit 0) ∷ premise (var 5) (var 4) (lit 0) ∷ [])
    refl (hup, (hy, (ht, tt)))

-- y^2 = 1 in factors
pub factors_of_one : (y : ℕ)
    → Congruent prime (y * y) (1)
    → Congruent prime ((1 + minus_one * y) * (1 + y)) (0)
unfolding prime minus_one
factors_of_one y hy =
    follows prime (nth (y ∷ []))
    (times (plus (lit 1) (times (lit minus_one) (var 0))) (plus (lit 1) (var 0)))
    (lit 0)
    (premise (lit 1) (times (var 0) (var 0)) (lit 1) ∷ [])
    refl (hy, tt)

-- a sum of points with x = 0 has x = 0
pub sum_on_y_axis : (x1 y1 x2 y2 s dp : ℕ)
    → Congruent prime (s * dp) (x1 * y2 + y1 * x2)
    → Congruent prime (x1) (0)
    → Congruent prime (x2) (0)
    → Congruent prime (s * dp) (0)
unfolding prime minus_one
sum_on_y_axis x1 y1 x2 y2 s dp h h1 h2 =
    follows prime (nth (x1 ∷ y1 ∷ x2 ∷ y2 ∷ s ∷ dp ∷ []))
    (times (var 4) (var 5))
    (lit 0)
    (premise (lit minus_one) (times (var 4) (var 5)) (plus (times (var 0) (var 3)) (times (var 1) (var 2))) ∷ premise (times (lit minus_one) (var 3))
    (var 0) (lit 0) ∷ premise (times (lit minus_one) (var 1)) (var 2) (lit 0) ∷ [])
    refl (h, (h1, (h2, tt)))

-- a point with y = 1 or y = -1 has x = 0, up to a constant
pub x_where_u_degenerate : (x y : ℕ)
    → Congruent prime (x * x + y * y) (1 + d * (x * x * (y * y)))
    → Congruent prime ((1 + minus_one * y) * (1 + y)) (0)
    → Congruent prime (x * x * (1 + minus_d)) (0)
unfolding prime d minus_d minus_one
x_where_u_degenerate x y on h =
    follows prime (nth (x ∷ y ∷ []))
    (times (times (var 0) (var 0)) (plus (lit 1) (lit minus_d)))
    (lit 0)
    (premise (lit minus_one) (plus (times (var 0) (var 0)) (times (var 1) (var 1))) (plus (lit 1) (times (lit d) (times (times (var 0) (var 0)) (times
    (var 1) (var 1))))) ∷ premise (times (lit minus_one) (plus (lit 1) (times (lit minus_d) (times (var 0) (var 0))))) (times (plus (lit 1) (times
    (lit minus_one) (var 1))) (plus (lit 1) (var 1))) (lit 0) ∷ [])
    refl (on, (h, tt))

-- doubling: where X Z = 0, E = 0
pub degenerate_doubling : (x z : ℕ)
    → Congruent prime (x * z) (0)
    → Congruent prime ((x + z) * (x + z) + minus_one * ((x + minus_one * z) * (x + minus_one * z))) (0)
unfolding prime minus_one
degenerate_doubling x z h =
    follows prime (nth (x ∷ z ∷ []))
    (plus (times (plus (var 0) (var 1)) (plus (var 0) (var 1))) (times (lit minus_one) (times (plus (var 0) (times (lit minus_one) (var 1))) (plus
    (var 0) (times (lit minus_one) (var 1))))))
    (lit 0)
    (premise (times (lit minus_one) (lit 4)) (times (var 0) (var 1)) (lit 0) ∷ [])
    refl (h, tt)

-- X - Z = (X + Z) y as an equation of X / Z
pub cross_multiplied : (x z y : ℕ)
    → Congruent prime (x + minus_one * z) ((x + z) * y)
    → Congruent prime (x * (1 + minus_one * y)) (z * (1 + y))
unfolding prime minus_one
cross_multiplied x z y h =
    follows prime (nth (x ∷ z ∷ y ∷ []))
    (times (var 0) (plus (lit 1) (times (lit minus_one) (var 2))))
    (times (var 1) (plus (lit 1) (var 2)))
    (premise (lit minus_one) (plus (var 0) (times (lit minus_one) (var 1))) (times (plus (var 0) (var 1)) (var 2)) ∷ [])
    refl (h, tt)

-- 1 - y and 1 + y together
pub sum_is_two : (y : ℕ)
    → Congruent prime (1 + minus_one * y + (1 + y)) (2)
unfolding prime minus_one
sum_is_two y =
    follows prime (nth (y ∷ []))
    (plus (plus (lit 1) (times (lit minus_one) (var 0))) (plus (lit 1) (var 0)))
    (lit 2)
    ([])
    refl tt
