-- The ladder multiplies: of the u-coordinate of a multiple of the base point B, with any scalar below 2^255.
use Rattle.std.proofs.Common.{◌≡◌, ℕ, ◌+◌, ◌*◌, ◌%◌, ◌^◌, ◌<◌, inl, inr, sym, ap, refl, ◌∙◌}
use Rattle.std.proofs.Math.Nat.{mod-mod}
use Rattle.std.proofs.lemmas.Bool.{eqb-true}
use Rattle.curve25519.specs.Field.{prime}
use Rattle.curve25519.proofs.CurveConstants.{minus_one, d, minus_d, base_x, base_y}
use Rattle.curve25519.proofs.PrimeField.{inverse, IsZero, IsNonzero, zero_or_nonzero, zero_product_left, zero_product_right, zero_factor, inverse_law, inverse_zero, times_one}
use Rattle.curve25519.proofs.MontgomeryLadder.{pair_after, scalar_multiple}
use Rattle.curve25519.proofs.Congruence.{Congruent, congruent_product_right, congruent_product_left}
use Rattle.curve25519.proofs.EdwardsCurve.{y_of, multiple}
use Rattle.curve25519.proofs.LadderStep.{one_nonzero}
use Rattle.curve25519.proofs.LadderInvariant.{u_coordinate, scalar_multiple_plain, regroup_three}
use Rattle.curve25519.proofs.DegenerateCases.{scalar_multiple_zero, on_y_axis_where_u_degenerate, multiple_on_y_axis, u_coordinate_on_y_axis}

-- two numbers below p that are 0 modulo p
same_zero : (a b : ℕ) → a % prime ≡ a → b % prime ≡ b → IsZero a → IsZero b → a ≡ b
same_zero a b ha hb za zb = sym ha ∙ za ∙ sym zb ∙ hb

pub scalar_multiple-reduced : (k u : ℕ) → scalar_multiple k u % prime ≡ scalar_multiple k u
unfolding scalar_multiple
scalar_multiple-reduced k u = let s = pair_after u 255 k in mod-mod (s.x2 * inverse s.z2) prime

u_coordinate-reduced : (n : ℕ) → u_coordinate n % prime ≡ u_coordinate n
unfolding u_coordinate
u_coordinate-reduced n = mod-mod ((1 + y_of n) * inverse (1 + minus_one * y_of n)) prime

u_coordinate-congruent : (n : ℕ) → Congruent prime (u_coordinate n) ((1 + y_of n) * inverse (1 + minus_one * y_of n))
unfolding u_coordinate
u_coordinate-congruent n = mod-mod ((1 + y_of n) * inverse (1 + minus_one * y_of n)) prime

inverse_zero_only : (z : ℕ) → IsZero (inverse z) → IsZero z
inverse_zero_only z h =
    elim (zero_or_nonzero z) [ inl e ↦ e | inr s ↦ absurd (one_nonzero (sym (inverse_law z s) ∙ zero_product_right z (inverse z) h)) ]

-- the ladder with k takes the u-coordinate of m B to that of k m B, whatever m is
pub scalar_multiple-multiple : (k m : ℕ) → k < 2 ^ 255 → scalar_multiple k (u_coordinate m) ≡ u_coordinate (k * m)
scalar_multiple-multiple k m lt =
    let y = y_of m in
    let i = inverse (1 + minus_one * y) in
    elim (zero_or_nonzero (u_coordinate m)) [
      | inl z ↦
          let low : IsZero ((1 + y) * i) = sym (u_coordinate-congruent m) ∙ z in
          let degenerate : IsZero ((1 + minus_one * y) * (1 + y)) =
          elim (zero_factor (1 + y) i low) [
            | inl e ↦ zero_product_right (1 + minus_one * y) (1 + y) e
            | inr e ↦ zero_product_left (1 + minus_one * y) (1 + y) (inverse_zero_only (1 + minus_one * y) e)
          ] in
          let on_axis = multiple_on_y_axis m k (on_y_axis_where_u_degenerate m degenerate) in
          same_zero (scalar_multiple k (u_coordinate m)) (u_coordinate (k * m))
          (scalar_multiple-reduced k (u_coordinate m)) (u_coordinate-reduced (k * m))
          (scalar_multiple_zero (u_coordinate m) k z) (u_coordinate_on_y_axis (k * m) on_axis)
      | inr s ↦
          let sm : IsNonzero (1 + minus_one * y) =
          λ e. s (u_coordinate-congruent m ∙ zero_product_right (1 + y) i (inverse_zero (1 + minus_one * y) e)) in
          let hu : Congruent prime (u_coordinate m * (1 + minus_one * y)) (1 + y) =
          congruent_product_left prime (u_coordinate m) ((1 + y) * i) (1 + minus_one * y) (u_coordinate-congruent m)
          ∙ ap (λ n. n % prime) (regroup_three (1 + y_of m) (inverse (1 + minus_one * y_of m)) (1 + minus_one * y_of m))
          ∙ congruent_product_right prime (1 + y) ((1 + minus_one * y) * i) 1 (inverse_law (1 + minus_one * y) sm)
          ∙ ap (λ n. n % prime) (times_one (1 + y_of m)) in
          scalar_multiple_plain (u_coordinate m) m k hu sm s lt
    ]

-- the base point of the Montgomery curve is B
pub u_coordinate_base : u_coordinate 1 ≡ 9
unfolding u_coordinate y_of multiple inverse prime minus_one d minus_d base_x base_y
u_coordinate_base = eqb-true (u_coordinate 1) 9 refl
