-- What a step of the ladder does to y of multiples of the base point B.
--
-- The Edwards curve is the Montgomery curve by u = (1 + y) / (1 - y). So X : Z represents y where (X - Z) = (X + Z) y and X + Z isn't 0;
-- infinity, 1 : 0, represents y = 1. Doubling takes what represents the y of n B to what represents that of 2 n B (`represents_double`).
-- Differential addition takes what represents the y of j B and of (m + j) B to what represents that of (m + 2 j) B, given u of m B, if
-- that is neither 0 nor infinite (`represents_sum`).
use Rattle.std.proofs.Common.{ℕ, ◌+◌, ◌*◌, inl, inr, sym, refl, ◌∙◌}
use Rattle.curve25519.specs.Field.{prime}
use Rattle.curve25519.proofs.Congruence.{Congruent}
use Rattle.curve25519.proofs.CurveConstants.{minus_one}
use Rattle.curve25519.proofs.MontgomeryLadder.{doubled_x, doubled_z, added_x, added_z}
use Rattle.curve25519.proofs.PrimeField.{IsZero, IsNonzero, nonzero_by_computation, cancel, nonzero_product, zero_product_left, zero_factor}
use Rattle.curve25519.proofs.AdditionIdentities.{subtraction, join_subtraction}
use Rattle.curve25519.proofs.LadderIdentities.{differential_addition, join_differential_addition, doubling, join_doubling, doubled_ratio, doubled_zero, doubled_zero_constant, added_ratio, added_x_zero, added_z_zero, half_left, half_right, x_where_y_zero, y_where_x_zero, product_where_both_zero, factors_of_one}
use Rattle.curve25519.proofs.EdwardsCurve.{x_denominator, y_denominator, x_numerator, y_numerator, OnCurve, IsSum, x_denominator_nonzero, y_denominator_nonzero, x_of, y_of, on_curve, multiples_add}

-- where S is the sum of P and Q, the y of S - Q is that of P
y_of_difference : (x1 y1 x2 y2 s t : ℕ) → OnCurve x1 y1 → OnCurve x2 y2 → IsSum x1 y1 x2 y2 s t
    → Congruent prime (y1 * x_denominator s t x2 y2) (t * y2 + s * x2)
y_of_difference x1 y1 x2 y2 s t on1 on2 p =
    let dp = x_denominator x1 y1 x2 y2 in
    let dm = y_denominator x1 y1 x2 y2 in
    cancel (dp * dm) _ _ (nonzero_product dp dm (x_denominator_nonzero x1 y1 x2 y2 on1 on2) (y_denominator_nonzero x1 y1 x2 y2 on1 on2))
    (join_subtraction x2 y1 y2 s t dp dm (x_numerator x1 y1 x2 y2) (y_numerator x1 y1 x2 y2) p.x_is p.y_is (subtraction x1 y1 x2 y2 on1 on2))

-- y of the sum, and of the difference, of two multiples
pub sum_law : (m j : ℕ)
    → Congruent prime
    ((1 + y_of (m + j + j)) * (1 + y_of m) * ((y_of (m + j) + minus_one * y_of j) * (y_of (m + j) + minus_one * y_of j)))
    ((1 + minus_one * y_of (m + j + j)) * (1 + minus_one * y_of m) * ((y_of (m + j) + y_of j) * (y_of (m + j) + y_of j)))
sum_law m j =
    let s = x_of (m + j) in
    let t = y_of (m + j) in
    let x2 = x_of j in
    let y2 = y_of j in
    let on3 = on_curve (m + j) in
    let on2 = on_curve j in
    let dp = x_denominator s t x2 y2 in
    let dm = y_denominator s t x2 y2 in
    cancel (dm * dp) _ _ (nonzero_product dm dp (y_denominator_nonzero s t x2 y2 on3 on2) (x_denominator_nonzero s t x2 y2 on3 on2))
    (join_differential_addition (y_of (m + j + j)) (y_of m) t y2 dm dp (y_numerator s t x2 y2) (t * y2 + s * x2)
    ((multiples_add (m + j) j).y_is)
    (y_of_difference (x_of m) (y_of m) x2 y2 s t (on_curve m) on2 (multiples_add m j)) (differential_addition s t x2 y2 on3 on2))

abbrev pub doubled_part : ℕ → ℕ
doubled_part y = (1 + minus_one * (y * y)) * (1 + 121665 * (1 + minus_one * (y * y)))

-- the y of 2 n B
pub double_law : (n : ℕ)
    → Congruent prime ((1 + y_of (n + n)) * doubled_part (y_of n)) ((1 + minus_one * y_of (n + n)) * (y_of n * y_of n))
double_law n =
    let x = x_of n in
    let y = y_of n in
    let dm = y_denominator x y x y in
    cancel dm _ _ (y_denominator_nonzero x y x y (on_curve n) (on_curve n))
    (join_doubling (y_of (n + n)) dm (y_numerator x y x y) (doubled_part y) (y * y)
    ((multiples_add n n).y_is) (doubling x y (on_curve n)))

-- X : Z is (1 + y) / (1 - y), also where y is 1
pub record Represents (x z y : ℕ) : Type 0 where
  pub ratio : Congruent prime (x + minus_one * z) ((x + z) * y)
  pub nonzero : IsNonzero (x + z)

pub two_nonzero : IsNonzero 2
unfolding prime
two_nonzero = nonzero_by_computation 2 refl

constant_nonzero : IsNonzero 243332
unfolding prime
constant_nonzero = nonzero_by_computation 243332 refl

-- a number whose double is zero is zero
half : (a : ℕ) → IsZero (2 * a) → IsZero a
half a h = elim (zero_factor 2 a h) [ inl z ↦ absurd (two_nonzero z) | inr z ↦ z ]

left_zero : (a b : ℕ) → IsZero (a + b) → IsZero (a + minus_one * b) → IsZero a
left_zero a b p q = half a (half_left a b p q)

right_zero : (a b : ℕ) → IsZero (a + b) → IsZero (a + minus_one * b) → IsZero b
right_zero a b p q = half b (half_right a b p q)

pub square_zero : (a : ℕ) → IsZero (a * a) → IsZero a
square_zero a h = elim (zero_factor a a h) [ inl z ↦ z | inr z ↦ z ]

-- X : Z of n B becomes that of 2 n B
pub represents_double : (x z n : ℕ) → Represents x z (y_of n)
    → Represents (doubled_x (x + z) (x + minus_one * z)) (doubled_z (x + z) (x + minus_one * z)) (y_of (n + n))
represents_double x z n s =
    let a = x + z in
    let b = x + minus_one * z in
    let y = y_of n in
    let k = y_of (n + n) in
    let law = double_law n in
    record {
      ratio = doubled_ratio a b y k s.ratio law;
      nonzero = λ e.
          constant_nonzero (doubled_zero_constant y k law
          (elim (zero_factor (y * y + doubled_part y) (a * a * (a * a)) (doubled_zero a b y s.ratio e)) [
            | inl w ↦ w
            | inr w ↦
                let square = nonzero_product a a s.nonzero s.nonzero in
                absurd (nonzero_product (a * a) (a * a) square square w)
          ]));
    }

pub one_nonzero : IsNonzero 1
unfolding prime
one_nonzero = nonzero_by_computation 1 refl

pub other_factor_zero : (a b : ℕ) → IsNonzero a → IsZero (a * b) → IsZero b
other_factor_zero a b s h = elim (zero_factor a b h) [ inl w ↦ absurd (s w) | inr w ↦ w ]

one_more_nonzero : (u y : ℕ) → Congruent prime (u * (1 + minus_one * y)) (1 + y) → IsNonzero u → IsNonzero (1 + minus_one * y) → IsNonzero (1 + y)
one_more_nonzero u y h su sm z = nonzero_product u (1 + minus_one * y) su sm (h ∙ z)

-- j B and (m + j) B don't both have y = 0, since x1 x2 = 0 would follow, where neither is 0
never_both_zero : (m j : ℕ) → IsNonzero (1 + minus_one * y_of m) → IsNonzero (1 + y_of m)
    → IsZero (y_of j) → IsZero (y_of (m + j)) → ⊥
never_both_zero m j sm sp z2 z3 =
    let product = product_where_both_zero (x_of m) (y_of m) (x_of j) (y_of j) (y_of (m + j))
    (y_denominator (x_of m) (y_of m) (x_of j) (y_of j)) ((multiples_add m j).y_is) z2 z3 in
    elim (zero_factor (x_of m) (x_of j) product) [
      | inl zm ↦
          nonzero_product (1 + minus_one * y_of m) (1 + y_of m) sm sp
          (factors_of_one (y_of m) (y_where_x_zero (x_of m) (y_of m) (on_curve m) zm))
      | inr zj ↦ one_nonzero (sym (x_where_y_zero (x_of j) (y_of j) (on_curve j) z2) ∙ zero_product_left (x_of j) (x_of j) zj)
    ]

-- X : Z of j B and of (m + j) B give that of (m + 2 j) B, where u of m B is neither 0 nor infinite
pub represents_sum : (u m j x2 z2 x3 z3 : ℕ) → Congruent prime (u * (1 + minus_one * y_of m)) (1 + y_of m)
    → IsNonzero (1 + minus_one * y_of m) → IsNonzero u
    → Represents x2 z2 (y_of j) → Represents x3 z3 (y_of (m + j))
    → Represents (added_x (x2 + z2) (x2 + minus_one * z2) (x3 + z3) (x3 + minus_one * z3))
    (added_z u (x2 + z2) (x2 + minus_one * z2) (x3 + z3) (x3 + minus_one * z3)) (y_of (m + j + j))
represents_sum u m j x2 z2 x3 z3 hu sm su p q =
    let a = x2 + z2 in
    let b = x2 + minus_one * z2 in
    let c = x3 + z3 in
    let f = x3 + minus_one * z3 in
    let y1 = y_of m in
    let y2 = y_of j in
    let y3 = y_of (m + j) in
    let k = y_of (m + j + j) in
    let r : Congruent prime (added_x a b c f + minus_one * added_z u a b c f) ((added_x a b c f + added_z u a b c f) * k) =
    cancel (1 + minus_one * y1) _ _ sm (added_ratio a b c f y1 y2 y3 k u p.ratio q.ratio hu (sum_law m j)) in
    record {
      ratio = r;
      nonzero = λ e.
          let low : IsZero (added_x a b c f + minus_one * added_z u a b c f) = r ∙ zero_product_left (added_x a b c f + added_z u a b c f) k e in
          let zx = left_zero (added_x a b c f) (added_z u a b c f) e low in
          let zz = right_zero (added_x a b c f) (added_z u a b c f) e low in
          let by_sum = square_zero (a * c * (y3 + y2)) (added_x_zero a b c f y2 y3 p.ratio q.ratio zx) in
          let by_difference = square_zero (a * c * (y3 + minus_one * y2))
          (added_z_zero a b c f y2 y3 p.ratio q.ratio
          (other_factor_zero u ((f * a + minus_one * (c * b)) * (f * a + minus_one * (c * b))) su zz)) in
          let sum = other_factor_zero (a * c) (y3 + y2) (nonzero_product a c p.nonzero q.nonzero) by_sum in
          let gap = other_factor_zero (a * c) (y3 + minus_one * y2) (nonzero_product a c p.nonzero q.nonzero) by_difference in
          never_both_zero m j sm (one_more_nonzero u y1 hu su sm) (right_zero y3 y2 sum gap) (left_zero y3 y2 sum gap);
    }
