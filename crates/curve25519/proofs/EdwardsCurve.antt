-- The group law on the Edwards curve x^2 + y^2 = 1 + d x^2 y^2 over GF(p), as far as it is needed: m B + n B = (m + n) B for the
-- multiples of the base point B.
--
-- Since d is no square, the denominators 1 + d x1 x2 y1 y2 and 1 - d x1 x2 y1 y2 of a sum of points are never 0. So sums exist, are on
-- the curve where the second point is B (`sum_with_base_on_curve`), and are associative where the third point is B (`associative`).
-- `multiples_add` follows by induction on n.
use Rattle.std.proofs.Common.{ℕ, zero, suc, ◌+◌, ◌*◌, ◌%◌, inl, inr, subst, sym, ap, refl, ◌∙◌, arith, add-zero, add-suc}
use Rattle.std.proofs.lemmas.Bool.{eqb-true}
use Rattle.curve25519.specs.Field.{prime}
use Rattle.curve25519.proofs.Congruence.{Congruent, congruent_product_right}
use Rattle.curve25519.proofs.CurveConstants.{minus_one, d, minus_d, base_x, base_y}
use Rattle.curve25519.proofs.PrimeField.{inverse, IsNonzero, zero_or_nonzero, nonzero_by_computation, inverse_law, cancel, nonzero_product, no_square}
use Rattle.curve25519.proofs.AdditionIdentities.{associative_x, associative_y, closure, third_x, third_x_denominator, second_x, second_x_denominator, third_y, third_y_denominator, second_y, second_y_denominator, join_associative, join_closure, square_of_sum, square_of_difference, both_zero, y_denominator_zero, x_denominator_zero}

-- the fractions of which (x1, y1) + (x2, y2) is made
abbrev pub x_denominator : ℕ → ℕ → ℕ → ℕ → ℕ
x_denominator x1 y1 x2 y2 = 1 + d * (x1 * x2 * (y1 * y2))

abbrev pub y_denominator : ℕ → ℕ → ℕ → ℕ → ℕ
y_denominator x1 y1 x2 y2 = 1 + minus_d * (x1 * x2 * (y1 * y2))

abbrev pub x_numerator : ℕ → ℕ → ℕ → ℕ → ℕ
x_numerator x1 y1 x2 y2 = x1 * y2 + y1 * x2

abbrev pub y_numerator : ℕ → ℕ → ℕ → ℕ → ℕ
y_numerator x1 y1 x2 y2 = y1 * y2 + minus_one * (x1 * x2)

abbrev pub OnCurve : ℕ → ℕ → Type 0
OnCurve x y = Congruent prime (x * x + y * y) (1 + d * (x * x * (y * y)))

-- the third point is the sum of the first two
pub record IsSum (x1 y1 x2 y2 x3 y3 : ℕ) : Type 0 where
  pub x_is : Congruent prime (x3 * x_denominator x1 y1 x2 y2) (x_numerator x1 y1 x2 y2)
  pub y_is : Congruent prime (y3 * y_denominator x1 y1 x2 y2) (y_numerator x1 y1 x2 y2)

two_nonzero : IsNonzero 2
unfolding prime
two_nonzero = nonzero_by_computation 2 refl

-- no denominator is 0: d would be a square, since e = 1 or e = -1 there
no_denominator : (x1 y1 x2 y2 e : ℕ) → OnCurve x1 y1 → OnCurve x2 y2 → Congruent prime (d * (x1 * x2 * (y1 * y2))) e → Congruent prime (e * e) 1 → ⊥
no_denominator x1 y1 x2 y2 e on1 on2 h k =
    elim (zero_or_nonzero (x1 * y1 * (x2 + y2))) [
      | inr s ↦ no_square (x1 + e * y1) (x1 * y1 * (x2 + y2)) s (square_of_sum x1 y1 x2 y2 e on1 on2 h k)
      | inl za ↦ elim (zero_or_nonzero (x1 * y1 * (x2 + minus_one * y2))) [
        | inr s ↦ no_square (x1 + minus_one * (e * y1)) (x1 * y1 * (x2 + minus_one * y2)) s (square_of_difference x1 y1 x2 y2 e on1 on2 h k)
        | inl zb ↦ two_nonzero (both_zero x1 y1 x2 y2 e za zb h k)
      ]
    ]

minus_one_squared : Congruent prime (minus_one * minus_one) 1
unfolding prime minus_one
minus_one_squared = eqb-true (minus_one * minus_one % prime) (1 % prime) refl

pub x_denominator_nonzero : (x1 y1 x2 y2 : ℕ) → OnCurve x1 y1 → OnCurve x2 y2 → IsNonzero (x_denominator x1 y1 x2 y2)
x_denominator_nonzero x1 y1 x2 y2 on1 on2 z =
    no_denominator x1 y1 x2 y2 minus_one on1 on2 (x_denominator_zero (x1 * x2 * (y1 * y2)) z) minus_one_squared

pub y_denominator_nonzero : (x1 y1 x2 y2 : ℕ) → OnCurve x1 y1 → OnCurve x2 y2 → IsNonzero (y_denominator x1 y1 x2 y2)
y_denominator_nonzero x1 y1 x2 y2 on1 on2 z =
    no_denominator x1 y1 x2 y2 1 on1 on2 (y_denominator_zero (x1 * x2 * (y1 * y2)) z) refl

pub base_on_curve : OnCurve base_x base_y
unfolding prime d base_x base_y
base_on_curve = eqb-true ((base_x * base_x + base_y * base_y) % prime) ((1 + d * (base_x * base_x * (base_y * base_y))) % prime) refl

-- a sum with the base point is on the curve
pub sum_with_base_on_curve : (x y u v : ℕ) → OnCurve x y → IsSum x y base_x base_y u v → OnCurve u v
sum_with_base_on_curve x y u v on s =
    let ep = x_denominator x y base_x base_y in
    let em = y_denominator x y base_x base_y in
    let sp = x_denominator_nonzero x y base_x base_y on base_on_curve in
    let sm = y_denominator_nonzero x y base_x base_y on base_on_curve in
    cancel (ep * ep * (em * em)) _ _ (nonzero_product (ep * ep) (em * em) (nonzero_product ep ep sp sp) (nonzero_product em em sm sm))
    (join_closure u v ep em (x_numerator x y base_x base_y) (y_numerator x y base_x base_y) s.x_is s.y_is (closure x y on))

-- P + Q = S, Q + B = U and S + B = W give P + U = W
pub associative : (x1 y1 x2 y2 s t u v w z : ℕ) → OnCurve x1 y1 → OnCurve x2 y2 → OnCurve s t
    → IsSum x1 y1 x2 y2 s t → IsSum x2 y2 base_x base_y u v → IsSum s t base_x base_y w z → IsSum x1 y1 u v w z
associative x1 y1 x2 y2 s t u v w z on1 on2 on3 ps pu pw =
    let dp = x_denominator x1 y1 x2 y2 in
    let dm = y_denominator x1 y1 x2 y2 in
    let ep = x_denominator x2 y2 base_x base_y in
    let em = y_denominator x2 y2 base_x base_y in
    let n1 = x_numerator x1 y1 x2 y2 in
    let n2 = y_numerator x1 y1 x2 y2 in
    let m1 = x_numerator x2 y2 base_x base_y in
    let m2 = y_numerator x2 y2 base_x base_y in
    let ke = nonzero_product ep em (x_denominator_nonzero x2 y2 base_x base_y on2 base_on_curve)
    (y_denominator_nonzero x2 y2 base_x base_y on2 base_on_curve) in
    let kd = nonzero_product dp dm (x_denominator_nonzero x1 y1 x2 y2 on1 on2) (y_denominator_nonzero x1 y1 x2 y2 on1 on2) in
    let jp = dp * dm + d * (base_x * base_y * (n1 * n2)) in
    let jm = dp * dm + minus_d * (base_x * base_y * (n1 * n2)) in
    let sp : IsNonzero jp =
    λ e. nonzero_product (dp * dm) (x_denominator s t base_x base_y) kd (x_denominator_nonzero s t base_x base_y on3 base_on_curve)
    (sym (third_x_denominator s t dp dm n1 n2 ps.x_is ps.y_is) ∙ e) in
    let sm : IsNonzero jm =
    λ e. nonzero_product (dp * dm) (y_denominator s t base_x base_y) kd (y_denominator_nonzero s t base_x base_y on3 base_on_curve)
    (sym (third_y_denominator s t dp dm n1 n2 ps.x_is ps.y_is) ∙ e) in
    record {
      x_is = cancel (ep * em * jp) (w * x_denominator x1 y1 u v) (x_numerator x1 y1 u v) (nonzero_product (ep * em) jp ke sp)
          (join_associative w (x_denominator x1 y1 u v) (x_numerator x1 y1 u v) (ep * em) jp (n1 * dm * base_y + n2 * dp * base_x)
          (ep * em + d * (x1 * y1 * (m1 * m2))) (x1 * (m2 * ep) + y1 * (m1 * em))
          (third_x s t w dp dm n1 n2 ps.x_is ps.y_is pw.x_is)
          (second_x x1 y1 u v ep em m1 m2 pu.x_is pu.y_is)
          (second_x_denominator x1 y1 u v ep em m1 m2 pu.x_is pu.y_is)
          (associative_x x1 y1 x2 y2 on1 on2));
      y_is = cancel (ep * em * jm) (z * y_denominator x1 y1 u v) (y_numerator x1 y1 u v) (nonzero_product (ep * em) jm ke sm)
          (join_associative z (y_denominator x1 y1 u v) (y_numerator x1 y1 u v) (ep * em) jm (n2 * dp * base_y + minus_one * (n1 * dm * base_x))
          (ep * em + minus_d * (x1 * y1 * (m1 * m2))) (y1 * (m2 * ep) + minus_one * (x1 * (m1 * em)))
          (third_y s t z dp dm n1 n2 ps.x_is ps.y_is pw.y_is)
          (second_y x1 y1 u v ep em m1 m2 pu.x_is pu.y_is)
          (second_y_denominator x1 y1 u v ep em m1 m2 pu.x_is pu.y_is)
          (associative_y x1 y1 x2 y2 on1 on2));
    }

pub record Point : Type 0 where
  pub x : ℕ
  pub y : ℕ

-- a point and the base point added
abbrev pub plus_base : Point → Point
plus_base p = record {
  x = x_numerator p.x p.y base_x base_y * inverse (x_denominator p.x p.y base_x base_y);
  y = y_numerator p.x p.y base_x base_y * inverse (y_denominator p.x p.y base_x base_y);
}

-- n B, and its coordinates
unfoldable pub multiple : ℕ → Point
multiple zero = record { x = 0; y = 1 }
multiple (suc n) = plus_base (multiple n)

unfoldable pub x_of : ℕ → ℕ
x_of n = (multiple n).x

unfoldable pub y_of : ℕ → ℕ
y_of n = (multiple n).y

times_inverse : (a k : ℕ) → IsNonzero k → Congruent prime (a * inverse k * k) a
times_inverse a k nonzero =
    ap (λ x. x % prime) (omega arith) ∙ congruent_product_right prime a (k * inverse k) 1 (inverse_law k nonzero)
    ∙ ap (λ x. x % prime) (omega arith)

sum_with_base : (n : ℕ) → OnCurve (x_of n) (y_of n) → IsSum (x_of n) (y_of n) base_x base_y (x_of (suc n)) (y_of (suc n))
unfolding x_of y_of multiple
sum_with_base n on = record {
  x_is = times_inverse (x_numerator (x_of n) (y_of n) base_x base_y) (x_denominator (x_of n) (y_of n) base_x base_y)
      (x_denominator_nonzero (x_of n) (y_of n) base_x base_y on base_on_curve);
  y_is = times_inverse (y_numerator (x_of n) (y_of n) base_x base_y) (y_denominator (x_of n) (y_of n) base_x base_y)
      (y_denominator_nonzero (x_of n) (y_of n) base_x base_y on base_on_curve);
}

pub on_curve : (n : ℕ) → OnCurve (x_of n) (y_of n)
unfolding x_of y_of multiple
on_curve zero = ap (λ x. x % prime) (omega arith)
on_curve (suc n) = sum_with_base_on_curve (x_of n) (y_of n) _ _ (on_curve n) (sum_with_base n (on_curve n))

sum_with_zero : (m : ℕ) → IsSum (x_of m) (y_of m) (x_of 0) (y_of 0) (x_of m) (y_of m)
unfolding x_of y_of multiple
sum_with_zero m = record { x_is = ap (λ x. x % prime) (omega arith); y_is = ap (λ x. x % prime) (omega arith) }

-- m B + n B = (m + n) B
pub multiples_add : (m n : ℕ) → IsSum (x_of m) (y_of m) (x_of n) (y_of n) (x_of (m + n)) (y_of (m + n))
multiples_add m zero = subst (λ k. IsSum (x_of m) (y_of m) (x_of 0) (y_of 0) (x_of k) (y_of k)) (sym (add-zero m)) (sum_with_zero m)
multiples_add m (suc n) =
    subst (λ k. IsSum (x_of m) (y_of m) (x_of (suc n)) (y_of (suc n)) (x_of k) (y_of k)) (sym (add-suc m n))
    (associative (x_of m) (y_of m) (x_of n) (y_of n) (x_of (m + n)) (y_of (m + n)) _ _ _ _
    (on_curve m) (on_curve n) (on_curve (m + n))
    (multiples_add m n) (sum_with_base n (on_curve n)) (sum_with_base (m + n) (on_curve (m + n))))
