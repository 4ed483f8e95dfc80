-- The ladder where u is 0 or infinite, which the definition takes for 0: it gives 0, and so has k m B the u-coordinate 0 or infinity.
use Rattle.std.proofs.Common.{◌≡◌, ℕ, zero, suc, ◌+◌, ◌*◌, ◌/◌, ◌%◌, inl, inr, ap, refl, ◌∙◌, arith}
use Rattle.std.proofs.Math.Nat.{mod-mod}
use Rattle.curve25519.specs.Field.{prime}
use Rattle.curve25519.proofs.CurveConstants.{minus_one, minus_d}
use Rattle.curve25519.proofs.PrimeField.{inverse, IsZero, IsNonzero, nonzero_by_computation, zero_product_left, zero_product_right, zero_factor, inverse_zero}
use Rattle.curve25519.proofs.MontgomeryLadder.{PointPair, doubled_x, doubled_z, added_x, added_z, doubled_and_added, exchanged, pair_step, pair_after, scalar_multiple}
use Rattle.curve25519.proofs.LadderIdentities.{sum_on_y_axis, x_where_u_degenerate, y_where_x_zero, factors_of_one, degenerate_doubling}
use Rattle.curve25519.proofs.EdwardsCurve.{x_denominator, x_denominator_nonzero, x_of, y_of, multiple, on_curve, multiples_add}
use Rattle.curve25519.proofs.LadderStep.{square_zero}
use Rattle.curve25519.proofs.LadderInvariant.{u_coordinate}

-- one coordinate of each point is 0
abbrev IsDegenerate : PointPair → Type 0
IsDegenerate s = IsZero (s.x2 * s.z2) × IsZero (s.x3 * s.z3)

zero_reduced : (x z : ℕ) → IsZero z → IsZero (x * (z % prime))
zero_reduced x z h = zero_product_right x (z % prime) (mod-mod z prime ∙ h)

degenerate_doubled_and_added : (u : ℕ) (s : PointPair) → IsZero u → IsZero (s.x2 * s.z2) → IsDegenerate (doubled_and_added u s)
degenerate_doubled_and_added u s zu h =
    let a = s.x2 + s.z2 in
    let b = s.x2 + minus_one * s.z2 in
    let c = s.x3 + s.z3 in
    let f = s.x3 + minus_one * s.z3 in (
      zero_reduced (doubled_x a b % prime) (doubled_z a b)
          (zero_product_left (a * a + minus_one * (b * b)) (a * a + 121665 * (a * a + minus_one * (b * b))) (degenerate_doubling s.x2 s.z2 h)),
      zero_reduced (added_x a b c f % prime) (added_z u a b c f)
          (zero_product_left u ((f * a + minus_one * (c * b)) * (f * a + minus_one * (c * b))) zu),
    )

degenerate_step : (u o : ℕ) (s : PointPair) → IsZero u → IsDegenerate s → IsDegenerate (pair_step u o s)
degenerate_step u zero s zu h = degenerate_doubled_and_added u s zu h.0
degenerate_step u (suc o) s zu h = let r = degenerate_doubled_and_added u (exchanged s) zu h.1 in (r.1, r.0)

degenerate : (u n k : ℕ) → IsZero u → IsDegenerate (pair_after u n k)
unfolding pair_after
degenerate u zero k zu = (refl, zero_product_left u 1 zu)
degenerate u (suc n) k zu = degenerate_step u (k % 2) (pair_after u n (k / 2)) zu (degenerate u n (k / 2) zu)

zero_ratio : (x z : ℕ) → IsZero (x * z) → IsZero (x * inverse z)
zero_ratio x z h =
    elim (zero_factor x z h) [ inl e ↦ zero_product_left x (inverse z) e | inr e ↦ zero_product_right x (inverse z) (inverse_zero z e) ]

-- the ladder takes u = 0 to 0
pub scalar_multiple_zero : (u k : ℕ) → IsZero u → IsZero (scalar_multiple k u)
unfolding scalar_multiple
scalar_multiple_zero u k zu =
    let s = pair_after u 255 k in
    mod-mod (s.x2 * inverse s.z2) prime ∙ zero_ratio s.x2 s.z2 ((degenerate u 255 k zu).0)

one_minus_d_nonzero : IsNonzero (1 + minus_d)
unfolding prime minus_d
one_minus_d_nonzero = nonzero_by_computation (1 + minus_d) refl

-- a multiple of B with y = 1 or y = -1 has x = 0, and so have its multiples
pub on_y_axis_where_u_degenerate : (m : ℕ) → IsZero ((1 + minus_one * y_of m) * (1 + y_of m)) → IsZero (x_of m)
on_y_axis_where_u_degenerate m h =
    elim (zero_factor (x_of m * x_of m) (1 + minus_d) (x_where_u_degenerate (x_of m) (y_of m) (on_curve m) h)) [
      | inl e ↦ square_zero (x_of m) e
      | inr e ↦ absurd (one_minus_d_nonzero e)
    ]

x_of_zero : x_of 0 ≡ 0
unfolding x_of multiple
x_of_zero = refl

pub multiple_on_y_axis : (m k : ℕ) → IsZero (x_of m) → IsZero (x_of (k * m))
multiple_on_y_axis m zero h =
    let e : 0 * m ≡ 0 = omega arith in ap (λ n. x_of n % prime) e ∙ ap (λ x. x % prime) x_of_zero
multiple_on_y_axis m (suc k) h =
    let e : suc k * m ≡ m + k * m = omega arith in
    let s = x_of (m + k * m) in
    let dp = x_denominator (x_of m) (y_of m) (x_of (k * m)) (y_of (k * m)) in
    let low = sum_on_y_axis (x_of m) (y_of m) (x_of (k * m)) (y_of (k * m)) s dp
    ((multiples_add m (k * m)).x_is) h (multiple_on_y_axis m k h) in
    let r : IsZero (x_of (m + k * m)) = elim (zero_factor s dp low) [
      | inl z ↦ z
      | inr z ↦
          absurd (x_denominator_nonzero (x_of m) (y_of m) (x_of (k * m)) (y_of (k * m)) (on_curve m) (on_curve (k * m)) z)
    ] in
    ap (λ n. x_of n % prime) e ∙ r

-- the u-coordinate of a point with x = 0
pub u_coordinate_on_y_axis : (n : ℕ) → IsZero (x_of n) → IsZero (u_coordinate n)
unfolding u_coordinate
u_coordinate_on_y_axis n h =
    let y = y_of n in
    let r : IsZero ((1 + y_of n) * inverse (1 + minus_one * y_of n)) =
    elim (zero_factor (1 + minus_one * y) (1 + y) (factors_of_one y (y_where_x_zero (x_of n) y (on_curve n) h))) [
      | inl z ↦ zero_product_right (1 + y) (inverse (1 + minus_one * y)) (inverse_zero (1 + minus_one * y) z)
      | inr z ↦ zero_product_left (1 + y) (inverse (1 + minus_one * y)) z
    ] in
    mod-mod ((1 + y_of n) * inverse (1 + minus_one * y_of n)) prime ∙ r
