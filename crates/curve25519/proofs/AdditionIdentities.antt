-- The identities of the group law: each follows from its premises by cofactors, which the checker multiplies out.
-- Made by generate/certificates.py, with its certificates.
use Rattle.std.proofs.Common.{ℕ, ◌+◌, ◌*◌, [], ◌∷◌, refl}
use Rattle.curve25519.specs.Field.{prime}
use Rattle.curve25519.proofs.Congruence.{Congruent}
use Rattle.curve25519.proofs.CurveConstants.{d, minus_d, minus_one, base_x, base_y}
use Rattle.curve25519.proofs.Polynomials.{lit, var, plus, times, premise, sum_of, term, nth, follows}

-- (P + Q) + B and P + (Q + B) have the same x, multiplied out
pub associative_x : (x1 y1 x2 y2 : ℕ)
    → Congruent prime (x1 * x1 + y1 * y1) (1 + d * (x1 * x1 * (y1 * y1)))
    → Congruent prime (x2 * x2 + y2 * y2) (1 + d * (x2 * x2 * (y2 * y2)))
    → Congruent prime (((x1 * y2 + y1 * x2) * (1 + minus_d * (x1 * x2 * (y1 * y2))) * base_y + (y1 * y2 + minus_one * (x1 * x2)) * (1 + d * (x1 * x2 *
    (y1 * y2))) * base_x) * ((1 + d * (x2 * base_x * (y2 * base_y))) * (1 + minus_d * (x2 * base_x * (y2 * base_y))) + d * (x1 * y1 * ((x2 * base_y +
    y2 * base_x) * (y2 * base_y + minus_one * (x2 * base_x)))))) ((x1 * ((y2 * base_y + minus_one * (x2 * base_x)) * (1 + d * (x2 * base_x * (y2 *
    base_y)))) + y1 * ((x2 * base_y + y2 * base_x) * (1 + minus_d * (x2 * base_x * (y2 * base_y))))) * ((1 + d * (x1 * x2 * (y1 * y2))) * (1 + minus_d
    * (x1 * x2 * (y1 * y2))) + d * (base_x * base_y * ((x1 * y2 + y1 * x2) * (y1 * y2 + minus_one * (x1 * x2))))))
unfolding prime base_x base_y d minus_d minus_one
associative_x x1 y1 x2 y2 on1 on2 =
    follows prime (nth (x1 ∷ y1 ∷ x2 ∷ y2 ∷ []))
    (times (plus (times (times (plus (times (var 0) (var 3)) (times (var 1) (var 2))) (plus (lit 1) (times (lit minus_d) (times (times (var 0) (var
    2)) (times (var 1) (var 3)))))) (lit base_y)) (times (times (plus (times (var 1) (var 3)) (times (lit minus_one) (times (var 0) (var 2)))) (plus
    (lit 1) (times (lit d) (times (times (var 0) (var 2)) (times (var 1) (var 3)))))) (lit base_x))) (plus (times (plus (lit 1) (times (lit d) (times
    (times (var 2) (lit base_x)) (times (var 3) (lit base_y))))) (plus (lit 1) (times (lit minus_d) (times (times (var 2) (lit base_x)) (times (var 3)
    (lit base_y)))))) (times (lit d) (times (times (var 0) (var 1)) (times (plus (times (var 2) (lit base_y)) (times (var 3) (lit base_x))) (plus
    (times (var 3) (lit base_y)) (times (lit minus_one) (times (var 2) (lit base_x)))))))))
    (times (plus (times (var 0) (times (plus (times (var 3) (lit base_y)) (times (lit minus_one) (times (var 2) (lit base_x)))) (plus (lit 1) (times
    (lit d) (times (times (var 2) (lit base_x)) (times (var 3) (lit base_y))))))) (times (var 1) (times (plus (times (var 2) (lit base_y)) (times (var
    3) (lit base_x))) (plus (lit 1) (times (lit minus_d) (times (times (var 2) (lit base_x)) (times (var 3) (lit base_y)))))))) (plus (times (plus
    (lit 1) (times (lit d) (times (times (var 0) (var 2)) (times (var 1) (var 3))))) (plus (lit 1) (times (lit minus_d) (times (times (var 0) (var 2))
    (times (var 1) (var 3)))))) (times (lit d) (times (times (lit base_x) (lit base_y)) (times (plus (times (var 0) (var 3)) (times (var 1) (var 2)))
    (plus (times (var 1) (var 3)) (times (lit minus_one) (times (var 0) (var 2)))))))))
    (premise (sum_of (term 56475848448458594814847403254517671780308462308676680066165428491060864389477 (0 ∷ 2 ∷ 2 ∷ 3 ∷ 3 ∷ 3 ∷ []) ∷ term
    10540307235601793522599391680235666440658270227894403663131368295223859543674 (0 ∷ 2 ∷ 2 ∷ 2 ∷ 3 ∷ 3 ∷ []) ∷ term
    41350879844320712111949416858202128777051423356801550513633713775863621357313 (0 ∷ 2 ∷ 3 ∷ 3 ∷ 3 ∷ 3 ∷ []) ∷ term
    56475848448458594814847403254517671780308462308676680066165428491060864389477 (2 ∷ 2 ∷ 2 ∷ 1 ∷ 3 ∷ 3 ∷ []) ∷ term
    16545164774337385599836075646141825149583568976018731506095078228092943462636 (2 ∷ 2 ∷ 2 ∷ 2 ∷ 1 ∷ 3 ∷ []) ∷ term
    47355737383056304189186100824108287485976722104925878356597423708732705276275 (2 ∷ 2 ∷ 1 ∷ 3 ∷ 3 ∷ 3 ∷ []) ∷ term
    13582340900994366631341404734619692638702304006715497216905863800615879328470 (2 ∷ 1 ∷ 3 ∷ 3 ∷ 3 ∷ 3 ∷ []) ∷ term
    13582340900994366631341404734619692638702304006715497216905863800615879328470 (0 ∷ 2 ∷ 2 ∷ 2 ∷ 2 ∷ 3 ∷ []) ∷ term
    13509990463169305079465818489102456057403111291310565071320068525468849111173 (0 ∷ 2 ∷ 2 ∷ 2 ∷ 3 ∷ 3 ∷ 3 ∷ 3 ∷ []) ∷ term
    56165597176914463215768342842776101047515561284410545323268921328078433254083 (0 ∷ 2 ∷ 2 ∷ 2 ∷ 2 ∷ 3 ∷ 3 ∷ 3 ∷ []) ∷ term
    44386054155488792632319674015241497869231881041509716948408723478487715708776 (2 ∷ 2 ∷ 2 ∷ 2 ∷ 1 ∷ 3 ∷ 3 ∷ 3 ∷ []) ∷ term
    56165597176914463215768342842776101047515561284410545323268921328078433254083 (2 ∷ 2 ∷ 2 ∷ 1 ∷ 3 ∷ 3 ∷ 3 ∷ 3 ∷ []) ∷ [])) (plus (times (var 0)
    (var 0)) (times (var 1) (var 1))) (plus (lit 1) (times (lit d) (times (times (var 0) (var 0)) (times (var 1) (var 1))))) ∷ premise (sum_of (term
    1420196170199502896938089249826282146326530024143601953563363512895700430472 (0 ∷ 0 ∷ 2 ∷ 1 ∷ 3 ∷ 3 ∷ []) ∷ term
    1420196170199502896938089249826282146326530024143601953563363512895700430472 (0 ∷ 2 ∷ 2 ∷ 1 ∷ 1 ∷ 3 ∷ []) ∷ term
    47355737383056304189186100824108287485976722104925878356597423708732705276275 (0 ∷ 2 ∷ 1 ∷ 1 ∷ 3 ∷ 3 ∷ []) ∷ term
    10540307235601793522599391680235666440658270227894403663131368295223859543674 (0 ∷ 0 ∷ 2 ∷ 2 ∷ 1 ∷ 3 ∷ []) ∷ term
    16545164774337385599836075646141825149583568976018731506095078228092943462636 (0 ∷ 0 ∷ 0 ∷ 2 ∷ 3 ∷ 3 ∷ []) ∷ term
    41350879844320712111949416858202128777051423356801550513633713775863621357313 (0 ∷ 2 ∷ 3 ∷ 3 ∷ []) ∷ term
    44313703717663731080444087769724261287932688326104784802822928203340685491479 (0 ∷ 0 ∷ 0 ∷ 2 ∷ 2 ∷ 3 ∷ []) ∷ term
    13582340900994366631341404734619692638702304006715497216905863800615879328470 (0 ∷ 2 ∷ 2 ∷ 3 ∷ []) ∷ term
    41350879844320712111949416858202128777051423356801550513633713775863621357313 (2 ∷ 2 ∷ 1 ∷ 1 ∷ 1 ∷ 3 ∷ []) ∷ term
    16545164774337385599836075646141825149583568976018731506095078228092943462636 (2 ∷ 2 ∷ 1 ∷ 3 ∷ []) ∷ term
    44313703717663731080444087769724261287932688326104784802822928203340685491479 (2 ∷ 1 ∷ 1 ∷ 1 ∷ 3 ∷ 3 ∷ []) ∷ term
    13582340900994366631341404734619692638702304006715497216905863800615879328470 (2 ∷ 1 ∷ 3 ∷ 3 ∷ []) ∷ [])) (plus (times (var 2) (var 2)) (times
    (var 3) (var 3))) (plus (lit 1) (times (lit d) (times (times (var 2) (var 2)) (times (var 3) (var 3))))) ∷ [])
    refl (on1, (on2, tt))

-- (P + Q) + B and P + (Q + B) have the same y, multiplied out
pub associative_y : (x1 y1 x2 y2 : ℕ)
    → Congruent prime (x1 * x1 + y1 * y1) (1 + d * (x1 * x1 * (y1 * y1)))
    → Congruent prime (x2 * x2 + y2 * y2) (1 + d * (x2 * x2 * (y2 * y2)))
    → Congruent prime (((y1 * y2 + minus_one * (x1 * x2)) * (1 + d * (x1 * x2 * (y1 * y2))) * base_y + minus_one * ((x1 * y2 + y1 * x2) * (1 + minus_d
    * (x1 * x2 * (y1 * y2))) * base_x)) * ((1 + d * (x2 * base_x * (y2 * base_y))) * (1 + minus_d * (x2 * base_x * (y2 * base_y))) + minus_d * (x1 *
    y1 * ((x2 * base_y + y2 * base_x) * (y2 * base_y + minus_one * (x2 * base_x)))))) ((y1 * ((y2 * base_y + minus_one * (x2 * base_x)) * (1 + d * (x2
    * base_x * (y2 * base_y)))) + minus_one * (x1 * ((x2 * base_y + y2 * base_x) * (1 + minus_d * (x2 * base_x * (y2 * base_y)))))) * ((1 + d * (x1 *
    x2 * (y1 * y2))) * (1 + minus_d * (x1 * x2 * (y1 * y2))) + minus_d * (base_x * base_y * ((x1 * y2 + y1 * x2) * (y1 * y2 + minus_one * (x1 *
    x2))))))
unfolding prime base_x base_y d minus_d minus_one
associative_y x1 y1 x2 y2 on1 on2 =
    follows prime (nth (x1 ∷ y1 ∷ x2 ∷ y2 ∷ []))
    (times (plus (times (times (plus (times (var 1) (var 3)) (times (lit minus_one) (times (var 0) (var 2)))) (plus (lit 1) (times (lit d) (times
    (times (var 0) (var 2)) (times (var 1) (var 3)))))) (lit base_y)) (times (lit minus_one) (times (times (plus (times (var 0) (var 3)) (times (var
    1) (var 2))) (plus (lit 1) (times (lit minus_d) (times (times (var 0) (var 2)) (times (var 1) (var 3)))))) (lit base_x)))) (plus (times (plus (lit
    1) (times (lit d) (times (times (var 2) (lit base_x)) (times (var 3) (lit base_y))))) (plus (lit 1) (times (lit minus_d) (times (times (var 2)
    (lit base_x)) (times (var 3) (lit base_y)))))) (times (lit minus_d) (times (times (var 0) (var 1)) (times (plus (times (var 2) (lit base_y))
    (times (var 3) (lit base_x))) (plus (times (var 3) (lit base_y)) (times (lit minus_one) (times (var 2) (lit base_x)))))))))
    (times (plus (times (var 1) (times (plus (times (var 3) (lit base_y)) (times (lit minus_one) (times (var 2) (lit base_x)))) (plus (lit 1) (times
    (lit d) (times (times (var 2) (lit base_x)) (times (var 3) (lit base_y))))))) (times (lit minus_one) (times (var 0) (times (plus (times (var 2)
    (lit base_y)) (times (var 3) (lit base_x))) (plus (lit 1) (times (lit minus_d) (times (times (var 2) (lit base_x)) (times (var 3) (lit
    base_y))))))))) (plus (times (plus (lit 1) (times (lit d) (times (times (var 0) (var 2)) (times (var 1) (var 3))))) (plus (lit 1) (times (lit
    minus_d) (times (times (var 0) (var 2)) (times (var 1) (var 3)))))) (times (lit minus_d) (times (times (lit base_x) (lit base_y)) (times (plus
    (times (var 0) (var 3)) (times (var 1) (var 2))) (plus (times (var 1) (var 3)) (times (lit minus_one) (times (var 0) (var 2)))))))))
    (premise (sum_of (term 56475848448458594814847403254517671780308462308676680066165428491060864389477 (2 ∷ 2 ∷ 1 ∷ 3 ∷ 3 ∷ 3 ∷ []) ∷ term
    10540307235601793522599391680235666440658270227894403663131368295223859543674 (2 ∷ 2 ∷ 2 ∷ 1 ∷ 3 ∷ 3 ∷ []) ∷ term
    41350879844320712111949416858202128777051423356801550513633713775863621357313 (2 ∷ 1 ∷ 3 ∷ 3 ∷ 3 ∷ 3 ∷ []) ∷ term
    1420196170199502896938089249826282146326530024143601953563363512895700430472 (0 ∷ 2 ∷ 2 ∷ 2 ∷ 3 ∷ 3 ∷ []) ∷ term
    41350879844320712111949416858202128777051423356801550513633713775863621357313 (0 ∷ 2 ∷ 2 ∷ 2 ∷ 2 ∷ 3 ∷ []) ∷ term
    10540307235601793522599391680235666440658270227894403663131368295223859543674 (0 ∷ 2 ∷ 2 ∷ 3 ∷ 3 ∷ 3 ∷ []) ∷ term
    44313703717663731080444087769724261287932688326104784802822928203340685491479 (0 ∷ 2 ∷ 3 ∷ 3 ∷ 3 ∷ 3 ∷ []) ∷ term
    13582340900994366631341404734619692638702304006715497216905863800615879328470 (2 ∷ 2 ∷ 2 ∷ 2 ∷ 1 ∷ 3 ∷ []) ∷ term
    13509990463169305079465818489102456057403111291310565071320068525468849111173 (2 ∷ 2 ∷ 2 ∷ 1 ∷ 3 ∷ 3 ∷ 3 ∷ 3 ∷ []) ∷ term
    56165597176914463215768342842776101047515561284410545323268921328078433254083 (2 ∷ 2 ∷ 2 ∷ 2 ∷ 1 ∷ 3 ∷ 3 ∷ 3 ∷ []) ∷ term
    13509990463169305079465818489102456057403111291310565071320068525468849111173 (0 ∷ 2 ∷ 2 ∷ 2 ∷ 2 ∷ 3 ∷ 3 ∷ 3 ∷ []) ∷ term
    1730447441743634496017149661567852879119431048409736696459870675878131565866 (0 ∷ 2 ∷ 2 ∷ 2 ∷ 3 ∷ 3 ∷ 3 ∷ 3 ∷ []) ∷ [])) (plus (times (var 0) (var
    0)) (times (var 1) (var 1))) (plus (lit 1) (times (lit d) (times (times (var 0) (var 0)) (times (var 1) (var 1))))) ∷ premise (sum_of (term
    56475848448458594814847403254517671780308462308676680066165428491060864389477 (0 ∷ 2 ∷ 1 ∷ 1 ∷ 3 ∷ 3 ∷ []) ∷ term
    1420196170199502896938089249826282146326530024143601953563363512895700430472 (0 ∷ 0 ∷ 2 ∷ 2 ∷ 1 ∷ 3 ∷ []) ∷ term
    47355737383056304189186100824108287485976722104925878356597423708732705276275 (0 ∷ 0 ∷ 2 ∷ 1 ∷ 3 ∷ 3 ∷ []) ∷ term
    47355737383056304189186100824108287485976722104925878356597423708732705276275 (0 ∷ 2 ∷ 2 ∷ 1 ∷ 1 ∷ 3 ∷ []) ∷ term
    16545164774337385599836075646141825149583568976018731506095078228092943462636 (2 ∷ 1 ∷ 1 ∷ 1 ∷ 3 ∷ 3 ∷ []) ∷ term
    41350879844320712111949416858202128777051423356801550513633713775863621357313 (2 ∷ 1 ∷ 3 ∷ 3 ∷ []) ∷ term
    44313703717663731080444087769724261287932688326104784802822928203340685491479 (2 ∷ 2 ∷ 1 ∷ 1 ∷ 1 ∷ 3 ∷ []) ∷ term
    13582340900994366631341404734619692638702304006715497216905863800615879328470 (2 ∷ 2 ∷ 1 ∷ 3 ∷ []) ∷ term
    16545164774337385599836075646141825149583568976018731506095078228092943462636 (0 ∷ 0 ∷ 0 ∷ 2 ∷ 2 ∷ 3 ∷ []) ∷ term
    41350879844320712111949416858202128777051423356801550513633713775863621357313 (0 ∷ 2 ∷ 2 ∷ 3 ∷ []) ∷ term
    13582340900994366631341404734619692638702304006715497216905863800615879328470 (0 ∷ 0 ∷ 0 ∷ 2 ∷ 3 ∷ 3 ∷ []) ∷ term
    44313703717663731080444087769724261287932688326104784802822928203340685491479 (0 ∷ 2 ∷ 3 ∷ 3 ∷ []) ∷ [])) (plus (times (var 2) (var 2)) (times
    (var 3) (var 3))) (plus (lit 1) (times (lit d) (times (times (var 2) (var 2)) (times (var 3) (var 3))))) ∷ [])
    refl (on1, (on2, tt))

-- Q + B is on the curve, multiplied out
pub closure : (x2 y2 : ℕ)
    → Congruent prime (x2 * x2 + y2 * y2) (1 + d * (x2 * x2 * (y2 * y2)))
    → Congruent prime ((x2 * base_y + y2 * base_x) * (x2 * base_y + y2 * base_x) * ((1 + minus_d * (x2 * base_x * (y2 * base_y))) * (1 + minus_d * (x2
    * base_x * (y2 * base_y)))) + (y2 * base_y + minus_one * (x2 * base_x)) * (y2 * base_y + minus_one * (x2 * base_x)) * ((1 + d * (x2 * base_x * (y2
    * base_y))) * (1 + d * (x2 * base_x * (y2 * base_y))))) ((1 + d * (x2 * base_x * (y2 * base_y))) * (1 + d * (x2 * base_x * (y2 * base_y))) * ((1 +
    minus_d * (x2 * base_x * (y2 * base_y))) * (1 + minus_d * (x2 * base_x * (y2 * base_y)))) + d * ((x2 * base_y + y2 * base_x) * (x2 * base_y + y2 *
    base_x) * ((y2 * base_y + minus_one * (x2 * base_x)) * (y2 * base_y + minus_one * (x2 * base_x)))))
unfolding prime base_x base_y d minus_d minus_one
closure x2 y2 on2 =
    follows prime (nth (x2 ∷ y2 ∷ []))
    (plus (times (times (plus (times (var 0) (lit base_y)) (times (var 1) (lit base_x))) (plus (times (var 0) (lit base_y)) (times (var 1) (lit
    base_x)))) (times (plus (lit 1) (times (lit minus_d) (times (times (var 0) (lit base_x)) (times (var 1) (lit base_y))))) (plus (lit 1) (times (lit
    minus_d) (times (times (var 0) (lit base_x)) (times (var 1) (lit base_y))))))) (times (times (plus (times (var 1) (lit base_y)) (times (lit
    minus_one) (times (var 0) (lit base_x)))) (plus (times (var 1) (lit base_y)) (times (lit minus_one) (times (var 0) (lit base_x))))) (times (plus
    (lit 1) (times (lit d) (times (times (var 0) (lit base_x)) (times (var 1) (lit base_y))))) (plus (lit 1) (times (lit d) (times (times (var 0) (lit
    base_x)) (times (var 1) (lit base_y))))))))
    (plus (times (times (plus (lit 1) (times (lit d) (times (times (var 0) (lit base_x)) (times (var 1) (lit base_y))))) (plus (lit 1) (times (lit d)
    (times (times (var 0) (lit base_x)) (times (var 1) (lit base_y)))))) (times (plus (lit 1) (times (lit minus_d) (times (times (var 0) (lit base_x))
    (times (var 1) (lit base_y))))) (plus (lit 1) (times (lit minus_d) (times (times (var 0) (lit base_x)) (times (var 1) (lit base_y))))))) (times
    (lit d) (times (times (plus (times (var 0) (lit base_y)) (times (var 1) (lit base_x))) (plus (times (var 0) (lit base_y)) (times (var 1) (lit
    base_x)))) (times (plus (times (var 1) (lit base_y)) (times (lit minus_one) (times (var 0) (lit base_x)))) (plus (times (var 1) (lit base_y))
    (times (lit minus_one) (times (var 0) (lit base_x))))))))
    (premise (sum_of (term 10865872720795493305073123787695754110961843205372397773524691040492703462776 (0 ∷ 0 ∷ []) ∷ term
    57896044618658097711785492504343953926634992332820282019728792003956564819948 ([]) ∷ term
    10865872720795493305073123787695754110961843205372397773524691040492703462776 (1 ∷ 1 ∷ []) ∷ term
    27699975419367565814791607594551637318196927578502983792642290067771599395471 (0 ∷ 0 ∷ 1 ∷ 1 ∷ []) ∷ [])) (plus (times (var 0) (var 0)) (times
    (var 1) (var 1))) (plus (lit 1) (times (lit d) (times (times (var 0) (var 0)) (times (var 1) (var 1))))) ∷ [])
    refl (on2, tt)

-- (P + Q) - Q has the y of P, multiplied out
pub subtraction : (x1 y1 x2 y2 : ℕ)
    → Congruent prime (x1 * x1 + y1 * y1) (1 + d * (x1 * x1 * (y1 * y1)))
    → Congruent prime (x2 * x2 + y2 * y2) (1 + d * (x2 * x2 * (y2 * y2)))
    → Congruent prime (y1 * ((1 + d * (x1 * x2 * (y1 * y2))) * (1 + minus_d * (x1 * x2 * (y1 * y2))) + d * (x2 * y2 * ((x1 * y2 + y1 * x2) * (y1 * y2
    + minus_one * (x1 * x2)))))) (y2 * ((y1 * y2 + minus_one * (x1 * x2)) * (1 + d * (x1 * x2 * (y1 * y2)))) + x2 * ((x1 * y2 + y1 * x2) * (1 +
    minus_d * (x1 * x2 * (y1 * y2)))))
unfolding prime d minus_d minus_one
subtraction x1 y1 x2 y2 on1 on2 =
    follows prime (nth (x1 ∷ y1 ∷ x2 ∷ y2 ∷ []))
    (times (var 1) (plus (times (plus (lit 1) (times (lit d) (times (times (var 0) (var 2)) (times (var 1) (var 3))))) (plus (lit 1) (times (lit
    minus_d) (times (times (var 0) (var 2)) (times (var 1) (var 3)))))) (times (lit d) (times (times (var 2) (var 3)) (times (plus (times (var 0) (var
    3)) (times (var 1) (var 2))) (plus (times (var 1) (var 3)) (times (lit minus_one) (times (var 0) (var 2)))))))))
    (plus (times (var 3) (times (plus (times (var 1) (var 3)) (times (lit minus_one) (times (var 0) (var 2)))) (plus (lit 1) (times (lit d) (times
    (times (var 0) (var 2)) (times (var 1) (var 3))))))) (times (var 2) (times (plus (times (var 0) (var 3)) (times (var 1) (var 2))) (plus (lit 1)
    (times (lit minus_d) (times (times (var 0) (var 2)) (times (var 1) (var 3))))))))
    (premise (sum_of (term 37095705934669439343138083508754565189542113879843219016388785533085940283555 (2 ∷ 2 ∷ 1 ∷ 3 ∷ 3 ∷ []) ∷ [])) (plus (times
    (var 0) (var 0)) (times (var 1) (var 1))) (plus (lit 1) (times (lit d) (times (times (var 0) (var 0)) (times (var 1) (var 1))))) ∷ premise (sum_of
    (term 1 (1 ∷ []) ∷ [])) (plus (times (var 2) (var 2)) (times (var 3) (var 3))) (plus (lit 1) (times (lit d) (times (times (var 2) (var 2)) (times
    (var 3) (var 3))))) ∷ [])
    refl (on1, (on2, tt))

-- the x of S + B, where S = (n1 / dp, n2 / dm), without fractions
pub third_x : (s t w dp dm n1 n2 : ℕ)
    → Congruent prime (s * dp) (n1)
    → Congruent prime (t * dm) (n2)
    → Congruent prime (w * (1 + d * (s * base_x * (t * base_y)))) (s * base_y + t * base_x)
    → Congruent prime (w * (dp * dm + d * (base_x * base_y * (n1 * n2)))) (n1 * dm * base_y + n2 * dp * base_x)
unfolding prime base_x base_y d minus_one
third_x s t w dp dm n1 n2 hs ht hw =
    follows prime (nth (s ∷ t ∷ w ∷ dp ∷ dm ∷ n1 ∷ n2 ∷ []))
    (times (var 2) (plus (times (var 3) (var 4)) (times (lit d) (times (times (lit base_x) (lit base_y)) (times (var 5) (var 6))))))
    (plus (times (times (var 5) (var 4)) (lit base_y)) (times (times (var 6) (var 3)) (lit base_x)))
    (premise (plus (times (times (times (times (var 2) (lit d)) (times (lit base_x) (lit base_y))) (var 1)) (var 4)) (times (lit minus_one) (times
    (lit base_y) (var 4)))) (times (var 0) (var 3)) (var 5) ∷ premise (plus (times (times (times (var 2) (lit d)) (times (lit base_x) (lit base_y)))
    (var 5)) (times (lit minus_one) (times (lit base_x) (var 3)))) (times (var 1) (var 4)) (var 6) ∷ premise (times (lit minus_one) (times (var 3)
    (var 4))) (times (var 2) (plus (lit 1) (times (lit d) (times (times (var 0) (lit base_x)) (times (var 1) (lit base_y)))))) (plus (times (var 0)
    (lit base_y)) (times (var 1) (lit base_x))) ∷ [])
    refl (hs, (ht, (hw, tt)))

-- the denominator of the x of S + B, without fractions
pub third_x_denominator : (s t dp dm n1 n2 : ℕ)
    → Congruent prime (s * dp) (n1)
    → Congruent prime (t * dm) (n2)
    → Congruent prime (dp * dm + d * (base_x * base_y * (n1 * n2))) (dp * dm * (1 + d * (s * base_x * (t * base_y))))
unfolding prime base_x base_y d
third_x_denominator s t dp dm n1 n2 hs ht =
    follows prime (nth (s ∷ t ∷ dp ∷ dm ∷ n1 ∷ n2 ∷ []))
    (plus (times (var 2) (var 3)) (times (lit d) (times (times (lit base_x) (lit base_y)) (times (var 4) (var 5)))))
    (times (times (var 2) (var 3)) (plus (lit 1) (times (lit d) (times (times (var 0) (lit base_x)) (times (var 1) (lit base_y))))))
    (premise (times (times (times (lit d) (times (lit base_x) (lit base_y))) (var 1)) (var 3)) (times (var 0) (var 2)) (var 4) ∷ premise (times (times
    (lit d) (times (lit base_x) (lit base_y))) (var 4)) (times (var 1) (var 3)) (var 5) ∷ [])
    refl (hs, (ht, tt))

-- the numerator of the x of P + U, where U = (m1 / ep, m2 / em), without fractions
pub second_x : (x1 y1 u v ep em m1 m2 : ℕ)
    → Congruent prime (u * ep) (m1)
    → Congruent prime (v * em) (m2)
    → Congruent prime ((x1 * v + y1 * u) * (ep * em)) (x1 * (m2 * ep) + y1 * (m1 * em))
unfolding prime minus_one
second_x x1 y1 u v ep em m1 m2 hu hv =
    follows prime (nth (x1 ∷ y1 ∷ u ∷ v ∷ ep ∷ em ∷ m1 ∷ m2 ∷ []))
    (times (plus (times (var 0) (var 3)) (times (var 1) (var 2))) (times (var 4) (var 5)))
    (plus (times (var 0) (times (var 7) (var 4))) (times (var 1) (times (var 6) (var 5))))
    (premise (times (lit minus_one) (times (var 1) (var 5))) (times (var 2) (var 4)) (var 6) ∷ premise (times (lit minus_one) (times (var 0) (var 4)))
    (times (var 3) (var 5)) (var 7) ∷ [])
    refl (hu, (hv, tt))

-- the denominator of the x of P + U, without fractions
pub second_x_denominator : (x1 y1 u v ep em m1 m2 : ℕ)
    → Congruent prime (u * ep) (m1)
    → Congruent prime (v * em) (m2)
    → Congruent prime ((1 + d * (x1 * u * (y1 * v))) * (ep * em)) (ep * em + d * (x1 * y1 * (m1 * m2)))
unfolding prime d minus_one
second_x_denominator x1 y1 u v ep em m1 m2 hu hv =
    follows prime (nth (x1 ∷ y1 ∷ u ∷ v ∷ ep ∷ em ∷ m1 ∷ m2 ∷ []))
    (times (plus (lit 1) (times (lit d) (times (times (var 0) (var 2)) (times (var 1) (var 3))))) (times (var 4) (var 5)))
    (plus (times (var 4) (var 5)) (times (lit d) (times (times (var 0) (var 1)) (times (var 6) (var 7)))))
    (premise (times (lit minus_one) (times (times (times (times (lit d) (var 0)) (var 1)) (var 3)) (var 5))) (times (var 2) (var 4)) (var 6) ∷ premise
    (times (lit minus_one) (times (times (times (lit d) (var 0)) (var 1)) (var 6))) (times (var 3) (var 5)) (var 7) ∷ [])
    refl (hu, (hv, tt))

-- the y of S + B, where S = (n1 / dp, n2 / dm), without fractions
pub third_y : (s t w dp dm n1 n2 : ℕ)
    → Congruent prime (s * dp) (n1)
    → Congruent prime (t * dm) (n2)
    → Congruent prime (w * (1 + minus_d * (s * base_x * (t * base_y)))) (t * base_y + minus_one * (s * base_x))
    → Congruent prime (w * (dp * dm + minus_d * (base_x * base_y * (n1 * n2)))) (n2 * dp * base_y + minus_one * (n1 * dm * base_x))
unfolding prime base_x base_y minus_d minus_one
third_y s t w dp dm n1 n2 hs ht hw =
    follows prime (nth (s ∷ t ∷ w ∷ dp ∷ dm ∷ n1 ∷ n2 ∷ []))
    (times (var 2) (plus (times (var 3) (var 4)) (times (lit minus_d) (times (times (lit base_x) (lit base_y)) (times (var 5) (var 6))))))
    (plus (times (times (var 6) (var 3)) (lit base_y)) (times (lit minus_one) (times (times (var 5) (var 4)) (lit base_x))))
    (premise (plus (times (times (times (times (var 2) (lit minus_d)) (times (lit base_x) (lit base_y))) (var 1)) (var 4)) (times (lit minus_one)
    (times (times (lit minus_one) (lit base_x)) (var 4)))) (times (var 0) (var 3)) (var 5) ∷ premise (plus (times (times (times (var 2) (lit minus_d))
    (times (lit base_x) (lit base_y))) (var 5)) (times (lit minus_one) (times (lit base_y) (var 3)))) (times (var 1) (var 4)) (var 6) ∷ premise (times
    (lit minus_one) (times (var 3) (var 4))) (times (var 2) (plus (lit 1) (times (lit minus_d) (times (times (var 0) (lit base_x)) (times (var 1) (lit
    base_y)))))) (plus (times (var 1) (lit base_y)) (times (lit minus_one) (times (var 0) (lit base_x)))) ∷ [])
    refl (hs, (ht, (hw, tt)))

-- the denominator of the y of S + B, without fractions
pub third_y_denominator : (s t dp dm n1 n2 : ℕ)
    → Congruent prime (s * dp) (n1)
    → Congruent prime (t * dm) (n2)
    → Congruent prime (dp * dm + minus_d * (base_x * base_y * (n1 * n2))) (dp * dm * (1 + minus_d * (s * base_x * (t * base_y))))
unfolding prime base_x base_y minus_d
third_y_denominator s t dp dm n1 n2 hs ht =
    follows prime (nth (s ∷ t ∷ dp ∷ dm ∷ n1 ∷ n2 ∷ []))
    (plus (times (var 2) (var 3)) (times (lit minus_d) (times (times (lit base_x) (lit base_y)) (times (var 4) (var 5)))))
    (times (times (var 2) (var 3)) (plus (lit 1) (times (lit minus_d) (times (times (var 0) (lit base_x)) (times (var 1) (lit base_y))))))
    (premise (times (times (times (lit minus_d) (times (lit base_x) (lit base_y))) (var 1)) (var 3)) (times (var 0) (var 2)) (var 4) ∷ premise (times
    (times (lit minus_d) (times (lit base_x) (lit base_y))) (var 4)) (times (var 1) (var 3)) (var 5) ∷ [])
    refl (hs, (ht, tt))

-- the numerator of the y of P + U, where U = (m1 / ep, m2 / em), without fractions
pub second_y : (x1 y1 u v ep em m1 m2 : ℕ)
    → Congruent prime (u * ep) (m1)
    → Congruent prime (v * em) (m2)
    → Congruent prime ((y1 * v + minus_one * (x1 * u)) * (ep * em)) (y1 * (m2 * ep) + minus_one * (x1 * (m1 * em)))
unfolding prime minus_one
second_y x1 y1 u v ep em m1 m2 hu hv =
    follows prime (nth (x1 ∷ y1 ∷ u ∷ v ∷ ep ∷ em ∷ m1 ∷ m2 ∷ []))
    (times (plus (times (var 1) (var 3)) (times (lit minus_one) (times (var 0) (var 2)))) (times (var 4) (var 5)))
    (plus (times (var 1) (times (var 7) (var 4))) (times (lit minus_one) (times (var 0) (times (var 6) (var 5)))))
    (premise (times (lit minus_one) (times (times (lit minus_one) (var 0)) (var 5))) (times (var 2) (var 4)) (var 6) ∷ premise (times (lit minus_one)
    (times (var 1) (var 4))) (times (var 3) (var 5)) (var 7) ∷ [])
    refl (hu, (hv, tt))

-- the denominator of the y of P + U, without fractions
pub second_y_denominator : (x1 y1 u v ep em m1 m2 : ℕ)
    → Congruent prime (u * ep) (m1)
    → Congruent prime (v * em) (m2)
    → Congruent prime ((1 + minus_d * (x1 * u * (y1 * v))) * (ep * em)) (ep * em + minus_d * (x1 * y1 * (m1 * m2)))
unfolding prime minus_d minus_one
second_y_denominator x1 y1 u v ep em m1 m2 hu hv =
    follows prime (nth (x1 ∷ y1 ∷ u ∷ v ∷ ep ∷ em ∷ m1 ∷ m2 ∷ []))
    (times (plus (lit 1) (times (lit minus_d) (times (times (var 0) (var 2)) (times (var 1) (var 3))))) (times (var 4) (var 5)))
    (plus (times (var 4) (var 5)) (times (lit minus_d) (times (times (var 0) (var 1)) (times (var 6) (var 7)))))
    (premise (times (lit minus_one) (times (times (times (times (lit minus_d) (var 0)) (var 1)) (var 3)) (var 5))) (times (var 2) (var 4)) (var 6) ∷
    premise (times (lit minus_one) (times (times (times (lit minus_d) (var 0)) (var 1)) (var 6))) (times (var 3) (var 5)) (var 7) ∷ [])
    refl (hu, (hv, tt))

-- w a = r, where w j = f, r e = h, a e = g and f g = h j, times e j
pub join_associative : (w a r e j f g h : ℕ)
    → Congruent prime (w * j) (f)
    → Congruent prime (r * e) (h)
    → Congruent prime (a * e) (g)
    → Congruent prime (f * g) (h * j)
    → Congruent prime (w * a * (e * j)) (r * (e * j))
unfolding prime minus_one
join_associative w a r e j f g h hw hr ha hi =
    follows prime (nth (w ∷ a ∷ r ∷ e ∷ j ∷ f ∷ g ∷ h ∷ []))
    (times (times (var 0) (var 1)) (times (var 3) (var 4)))
    (times (var 2) (times (var 3) (var 4)))
    (premise (times (lit minus_one) (times (var 1) (var 3))) (times (var 0) (var 4)) (var 5) ∷ premise (var 4) (times (var 2) (var 3)) (var 7) ∷
    premise (times (lit minus_one) (var 5)) (times (var 1) (var 3)) (var 6) ∷ premise (lit minus_one) (times (var 5) (var 6)) (times (var 7) (var 4))
    ∷ [])
    refl (hw, (hr, (ha, (hi, tt))))

-- (u, v) = (m1 / ep, m2 / em) is on the curve, times the denominators
pub join_closure : (u v ep em m1 m2 : ℕ)
    → Congruent prime (u * ep) (m1)
    → Congruent prime (v * em) (m2)
    → Congruent prime (m1 * m1 * (em * em) + m2 * m2 * (ep * ep)) (ep * ep * (em * em) + d * (m1 * m1 * (m2 * m2)))
    → Congruent prime ((u * u + v * v) * (ep * ep * (em * em))) ((1 + d * (u * u * (v * v))) * (ep * ep * (em * em)))
unfolding prime d minus_d minus_one
join_closure u v ep em m1 m2 hu hv hi =
    follows prime (nth (u ∷ v ∷ ep ∷ em ∷ m1 ∷ m2 ∷ []))
    (times (plus (times (var 0) (var 0)) (times (var 1) (var 1))) (times (times (var 2) (var 2)) (times (var 3) (var 3))))
    (times (plus (lit 1) (times (lit d) (times (times (var 0) (var 0)) (times (var 1) (var 1))))) (times (times (var 2) (var 2)) (times (var 3) (var
    3))))
    (premise (times (times (lit minus_one) (plus (times (var 0) (var 2)) (var 4))) (plus (times (var 3) (var 3)) (times (lit minus_d) (times (times
    (var 1) (var 3)) (times (var 1) (var 3)))))) (times (var 0) (var 2)) (var 4) ∷ premise (times (times (lit minus_one) (plus (times (var 1) (var 3))
    (var 5))) (plus (times (var 2) (var 2)) (times (lit minus_d) (times (var 4) (var 4))))) (times (var 1) (var 3)) (var 5) ∷ premise (lit minus_one)
    (plus (times (times (var 4) (var 4)) (times (var 3) (var 3))) (times (times (var 5) (var 5)) (times (var 2) (var 2)))) (plus (times (times (var 2)
    (var 2)) (times (var 3) (var 3))) (times (lit d) (times (times (var 4) (var 4)) (times (var 5) (var 5))))) ∷ [])
    refl (hu, (hv, (hi, tt)))

-- the y of S - Q, where S = (n1 / dp, n2 / dm), times the denominators
pub join_subtraction : (x2 y1 y2 s t dp dm n1 n2 : ℕ)
    → Congruent prime (s * dp) (n1)
    → Congruent prime (t * dm) (n2)
    → Congruent prime (y1 * (dp * dm + d * (x2 * y2 * (n1 * n2)))) (y2 * (n2 * dp) + x2 * (n1 * dm))
    → Congruent prime (y1 * (1 + d * (s * x2 * (t * y2))) * (dp * dm)) ((t * y2 + s * x2) * (dp * dm))
unfolding prime d minus_one
join_subtraction x2 y1 y2 s t dp dm n1 n2 hs ht hi =
    follows prime (nth (x2 ∷ y1 ∷ y2 ∷ s ∷ t ∷ dp ∷ dm ∷ n1 ∷ n2 ∷ []))
    (times (times (var 1) (plus (lit 1) (times (lit d) (times (times (var 3) (var 0)) (times (var 4) (var 2)))))) (times (var 5) (var 6)))
    (times (plus (times (var 4) (var 2)) (times (var 3) (var 0))) (times (var 5) (var 6)))
    (premise (plus (times (lit minus_one) (times (times (times (times (var 1) (lit d)) (var 0)) (var 2)) (times (var 4) (var 6)))) (times (var 0) (var
    6))) (times (var 3) (var 5)) (var 7) ∷ premise (plus (times (lit minus_one) (times (times (times (times (var 1) (lit d)) (var 0)) (var 2)) (var
    7))) (times (var 2) (var 5))) (times (var 4) (var 6)) (var 8) ∷ premise (lit minus_one) (times (var 1) (plus (times (var 5) (var 6)) (times (lit
    d) (times (times (var 0) (var 2)) (times (var 7) (var 8)))))) (plus (times (var 2) (times (var 8) (var 5))) (times (var 0) (times (var 7) (var
    6)))) ∷ [])
    refl (hs, (ht, (hi, tt)))

-- where d x1 x2 y1 y2 = e and e^2 = 1: (x1 + e y1)^2 is d times a square
pub square_of_sum : (x1 y1 x2 y2 e : ℕ)
    → Congruent prime (x1 * x1 + y1 * y1) (1 + d * (x1 * x1 * (y1 * y1)))
    → Congruent prime (x2 * x2 + y2 * y2) (1 + d * (x2 * x2 * (y2 * y2)))
    → Congruent prime (d * (x1 * x2 * (y1 * y2))) (e)
    → Congruent prime (e * e) (1)
    → Congruent prime ((x1 + e * y1) * (x1 + e * y1)) (d * (x1 * y1 * (x2 + y2) * (x1 * y1 * (x2 + y2))))
unfolding prime d minus_one
square_of_sum x1 y1 x2 y2 e on1 on2 ht he =
    follows prime (nth (x1 ∷ y1 ∷ x2 ∷ y2 ∷ e ∷ []))
    (times (plus (var 0) (times (var 4) (var 1))) (plus (var 0) (times (var 4) (var 1))))
    (times (lit d) (times (times (times (var 0) (var 1)) (plus (var 2) (var 3))) (times (times (var 0) (var 1)) (plus (var 2) (var 3)))))
    (premise (lit minus_one) (plus (times (var 0) (var 0)) (times (var 1) (var 1))) (plus (lit 1) (times (lit d) (times (times (var 0) (var 0)) (times
    (var 1) (var 1))))) ∷ premise (times (lit d) (times (times (var 0) (var 0)) (times (var 1) (var 1)))) (plus (times (var 2) (var 2)) (times (var 3)
    (var 3))) (plus (lit 1) (times (lit d) (times (times (var 2) (var 2)) (times (var 3) (var 3))))) ∷ premise (plus (plus (times (lit d) (times
    (times (var 0) (var 2)) (times (var 1) (var 3)))) (var 4)) (times (lit 2) (times (var 0) (var 1)))) (times (lit d) (times (times (var 0) (var 2))
    (times (var 1) (var 3)))) (var 4) ∷ premise (plus (lit 1) (times (lit minus_one) (times (var 1) (var 1)))) (times (var 4) (var 4)) (lit 1) ∷ [])
    refl (on1, (on2, (ht, (he, tt))))

-- the same of (x1 - e y1)^2
pub square_of_difference : (x1 y1 x2 y2 e : ℕ)
    → Congruent prime (x1 * x1 + y1 * y1) (1 + d * (x1 * x1 * (y1 * y1)))
    → Congruent prime (x2 * x2 + y2 * y2) (1 + d * (x2 * x2 * (y2 * y2)))
    → Congruent prime (d * (x1 * x2 * (y1 * y2))) (e)
    → Congruent prime (e * e) (1)
    → Congruent prime ((x1 + minus_one * (e * y1)) * (x1 + minus_one * (e * y1))) (d * (x1 * y1 * (x2 + minus_one * y2) * (x1 * y1 * (x2 + minus_one *
    y2))))
unfolding prime d minus_one
square_of_difference x1 y1 x2 y2 e on1 on2 ht he =
    follows prime (nth (x1 ∷ y1 ∷ x2 ∷ y2 ∷ e ∷ []))
    (times (plus (var 0) (times (lit minus_one) (times (var 4) (var 1)))) (plus (var 0) (times (lit minus_one) (times (var 4) (var 1)))))
    (times (lit d) (times (times (times (var 0) (var 1)) (plus (var 2) (times (lit minus_one) (var 3)))) (times (times (var 0) (var 1)) (plus (var 2)
    (times (lit minus_one) (var 3))))))
    (premise (lit minus_one) (plus (times (var 0) (var 0)) (times (var 1) (var 1))) (plus (lit 1) (times (lit d) (times (times (var 0) (var 0)) (times
    (var 1) (var 1))))) ∷ premise (times (lit d) (times (times (var 0) (var 0)) (times (var 1) (var 1)))) (plus (times (var 2) (var 2)) (times (var 3)
    (var 3))) (plus (lit 1) (times (lit d) (times (times (var 2) (var 2)) (times (var 3) (var 3))))) ∷ premise (plus (plus (times (lit d) (times
    (times (var 0) (var 2)) (times (var 1) (var 3)))) (var 4)) (times (lit minus_one) (times (lit 2) (times (var 0) (var 1))))) (times (lit d) (times
    (times (var 0) (var 2)) (times (var 1) (var 3)))) (var 4) ∷ premise (plus (lit 1) (times (lit minus_one) (times (var 1) (var 1)))) (times (var 4)
    (var 4)) (lit 1) ∷ [])
    refl (on1, (on2, (ht, (he, tt))))

-- not both of these squares are of 0
pub both_zero : (x1 y1 x2 y2 e : ℕ)
    → Congruent prime (x1 * y1 * (x2 + y2)) (0)
    → Congruent prime (x1 * y1 * (x2 + minus_one * y2)) (0)
    → Congruent prime (d * (x1 * x2 * (y1 * y2))) (e)
    → Congruent prime (e * e) (1)
    → Congruent prime (2) (0)
unfolding prime d minus_d minus_one
both_zero x1 y1 x2 y2 e ha hb ht he =
    follows prime (nth (x1 ∷ y1 ∷ x2 ∷ y2 ∷ e ∷ []))
    (lit 2)
    (lit 0)
    (premise (times (times (lit minus_d) (var 4)) (var 3)) (times (times (var 0) (var 1)) (plus (var 2) (var 3))) (lit 0) ∷ premise (times (times (lit
    minus_d) (var 4)) (var 3)) (times (times (var 0) (var 1)) (plus (var 2) (times (lit minus_one) (var 3)))) (lit 0) ∷ premise (times (lit 2) (var
    4)) (times (lit d) (times (times (var 0) (var 2)) (times (var 1) (var 3)))) (var 4) ∷ premise (lit 2) (times (var 4) (var 4)) (lit 1) ∷ [])
    refl (ha, (hb, (ht, (he, tt))))

-- a denominator 1 - d z that is 0 makes d z = 1
pub y_denominator_zero : (z : ℕ)
    → Congruent prime (1 + minus_d * z) (0)
    → Congruent prime (d * z) (1)
unfolding prime d minus_d
y_denominator_zero z h =
    follows prime (nth (z ∷ []))
    (times (lit d) (var 0))
    (lit 1)
    (premise (lit 1) (plus (lit 1) (times (lit minus_d) (var 0))) (lit 0) ∷ [])
    refl (h, tt)

-- a denominator 1 + d z that is 0 makes d z = -1
pub x_denominator_zero : (z : ℕ)
    → Congruent prime (1 + d * z) (0)
    → Congruent prime (d * z) (minus_one)
unfolding prime d minus_one
x_denominator_zero z h =
    follows prime (nth (z ∷ []))
    (times (lit d) (var 0))
    (lit minus_one)
    (premise (lit minus_one) (plus (lit 1) (times (lit d) (var 0))) (lit 0) ∷ [])
    refl (h, tt)
