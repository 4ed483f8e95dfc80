-- What the ladder keeps, and what it ends with, where u of the point m B is neither 0 nor infinite: after the bits of k, the two points are
-- k m B and (k + 1) m B, as X : Z that represent their y.
use Rattle.std.proofs.Common.{◌≡◌, ℕ, zero, suc, ◌+◌, ◌*◌, ◌/◌, ◌%◌, ◌^◌, ◌<◌, inl, inr, sym, ap, subst, refl, ◌∙◌, arith}
use Rattle.std.proofs.Math.Nat.{mod-mod}
use Rattle.curve25519.specs.Field.{prime}
use Rattle.curve25519.proofs.CurveConstants.{minus_one}
use Rattle.curve25519.proofs.PrimeField.{inverse, IsZero, IsNonzero, zero_or_nonzero, cancel, nonzero_product, zero_product_left, zero_product_right, inverse_law, inverse_zero, times_one}
use Rattle.curve25519.proofs.MontgomeryLadder.{PointPair, doubled_x, doubled_z, added_x, added_z, pair_step, pair_after, scalar_multiple}
use Rattle.curve25519.proofs.Congruence.{Congruent, congruent_sum, congruent_product_right, congruent_product_left}
use Rattle.curve25519.proofs.LadderIdentities.{square_of_exchanged_difference, square_of_exchanged_sum, start_ratio, start_zero, cross_multiplied, sum_is_two}
use Rattle.curve25519.proofs.EdwardsCurve.{y_of, multiple}
use Rattle.curve25519.proofs.LadderStep.{Represents, represents_double, represents_sum, two_nonzero, one_nonzero, other_factor_zero}

module _ (x z x' z' y : ℕ) (hx : Congruent prime x' x) (hz : Congruent prime z' z) (s : Represents x z y) where
  -- congruent numbers represent the same
  pub represents_congruent : Represents x' z' y
  represents_congruent = record {
    ratio = congruent_sum prime x' x (minus_one * z') (minus_one * z) hx (congruent_product_right prime minus_one z' z hz)
        ∙ s.ratio
        ∙ sym (congruent_product_left prime (x' + z') (x + z) y (congruent_sum prime x' x z' z hx hz));
    nonzero = λ e. s.nonzero (sym (congruent_sum prime x' x z' z hx hz) ∙ e);
  }

y_of_zero : y_of 0 ≡ 1
unfolding y_of multiple
y_of_zero = refl

-- of k, the pair represents k times m B and (k + 1) times m B
abbrev LadderInvariant : ℕ → ℕ → PointPair → Type 0
LadderInvariant m k s = Represents s.x2 s.z2 (y_of (k * m)) × Represents s.x3 s.z3 (y_of (m + k * m))

represents_same : (x z i j : ℕ) → i ≡ j → Represents x z (y_of i) → Represents x z (y_of j)
represents_same x z i j e s = subst (λ n. Represents x z (y_of n)) e s

start_is : 1 + minus_one * 0 ≡ (1 + 0) * y_of 0
start_is = omega (arith, y_of_zero)

-- where u of m B is neither 0 nor infinite
module _ (u m : ℕ) (hu : Congruent prime (u * (1 + minus_one * y_of m)) (1 + y_of m)) (sm : IsNonzero (1 + minus_one * y_of m))
    (su : IsNonzero u) where
  invariant_start : (k : ℕ) → k ≡ 0 → LadderInvariant m k (record { x2 = 1; z2 = 0; x3 = u; z3 = 1 })
  invariant_start k e = (
    represents_same 1 0 0 (k * m) (omega (arith, ap (λ x. x * m) e)) (record { ratio = ap (λ x. x % prime) start_is; nonzero = one_nonzero }),
    represents_same u 1 m (m + k * m) (omega (arith, ap (λ x. x * m) e))
        (record { ratio = start_ratio u (y_of m) hu; nonzero = λ z. two_nonzero (start_zero u (y_of m) hu z) }),
  )

  invariant_step : (o h k : ℕ) (s : PointPair) → o < 2 → k ≡ 2 * h + o → LadderInvariant m h s → LadderInvariant m k (pair_step u o s)
  invariant_step zero h k s lt e p =
      let is : k * m ≡ 2 * (h * m) = omega (arith, ap (λ x. x * m) e) in
      let a = s.x2 + s.z2 in
      let b = s.x2 + minus_one * s.z2 in
      let c = s.x3 + s.z3 in
      let f = s.x3 + minus_one * s.z3 in (
        represents_congruent (doubled_x a b) (doubled_z a b) (doubled_x a b % prime) (doubled_z a b % prime) (y_of (k * m))
            (mod-mod (doubled_x a b) prime) (mod-mod (doubled_z a b) prime)
            (represents_same _ _ (h * m + h * m) (k * m) (omega arith) (represents_double s.x2 s.z2 (h * m) p.0)),
        represents_congruent (added_x a b c f) (added_z u a b c f) (added_x a b c f % prime) (added_z u a b c f % prime) (y_of (m + k * m))
            (mod-mod (added_x a b c f) prime) (mod-mod (added_z u a b c f) prime)
            (represents_same _ _ (m + h * m + h * m) (m + k * m) (omega arith)
            (represents_sum u m (h * m) s.x2 s.z2 s.x3 s.z3 hu sm su p.0 p.1)),
      )
  invariant_step (suc zero) h k s lt e p =
      let is : k * m ≡ 2 * (h * m) + m = omega (arith, ap (λ x. x * m) e) in
      let a = s.x3 + s.z3 in
      let b = s.x3 + minus_one * s.z3 in
      let c = s.x2 + s.z2 in
      let f = s.x2 + minus_one * s.z2 in (
        represents_congruent (added_x c f a b) (added_z u c f a b) (added_x a b c f % prime) (added_z u a b c f % prime) (y_of (k * m))
            (mod-mod (added_x a b c f) prime ∙ sym (square_of_exchanged_sum a b c f))
            (mod-mod (added_z u a b c f) prime ∙ sym (congruent_product_right prime u _ _ (square_of_exchanged_difference a b c f)))
            (represents_same _ _ (m + h * m + h * m) (k * m) (omega arith)
            (represents_sum u m (h * m) s.x2 s.z2 s.x3 s.z3 hu sm su p.0 p.1)),
        represents_congruent (doubled_x a b) (doubled_z a b) (doubled_x a b % prime) (doubled_z a b % prime) (y_of (m + k * m))
            (mod-mod (doubled_x a b) prime) (mod-mod (doubled_z a b) prime)
            (represents_same _ _ (m + h * m + (m + h * m)) (m + k * m) (omega arith) (represents_double s.x3 s.z3 (m + h * m) p.1)),
      )
  invariant_step (suc (suc o)) h k s lt e p = absurd (omega arith)

  pub ladder_invariant : (n k : ℕ) → k < 2 ^ n → LadderInvariant m k (pair_after u n k)
  unfolding pair_after
  ladder_invariant zero k lt = invariant_start k (omega arith)
  ladder_invariant (suc n) k lt =
      let half : k / 2 < 2 ^ n = omega arith in
      invariant_step (k % 2) (k / 2) k (pair_after u n (k / 2)) (omega arith) (omega arith) (ladder_invariant n (k / 2) half)

-- the u-coordinate of n B, and 0 where it is infinite
unfoldable pub u_coordinate : ℕ → ℕ
u_coordinate n = ((1 + y_of n) * inverse (1 + minus_one * y_of n)) % prime

regroup : (x i z w : ℕ) → x * i * (z * w) ≡ x * w * (z * i)
regroup x i z w = omega arith

regroup_back : (a j z w : ℕ) → a * j * (z * w) ≡ z * a * (w * j)
regroup_back a j z w = omega arith

pub regroup_three : (a i w : ℕ) → a * i * w ≡ a * (w * i)
regroup_three a i w = omega arith

-- what represents y has the u-coordinate of y, also where that is infinite
pub ratio_value : (x z y : ℕ) → Represents x z y → Congruent prime (x * inverse z) ((1 + y) * inverse (1 + minus_one * y))
ratio_value x z y s =
    let across = cross_multiplied x z y s.ratio in
    elim (zero_or_nonzero z) [
      | inl zz ↦
          let xs : IsNonzero x = λ e. s.nonzero (congruent_sum prime x 0 z 0 e zz) in
          let low : IsZero (x * (1 + minus_one * y)) = across ∙ zero_product_left z (1 + y) zz in
          let sm = other_factor_zero x (1 + minus_one * y) xs low in
          zero_product_right x (inverse z) (inverse_zero z zz)
          ∙ sym (zero_product_right (1 + y) (inverse (1 + minus_one * y)) (inverse_zero (1 + minus_one * y) sm))
      | inr sz ↦
          elim (zero_or_nonzero (1 + minus_one * y)) [
            | inl zm ↦
                let low : IsZero (z * (1 + y)) = sym across ∙ zero_product_right x (1 + minus_one * y) zm in
                let zp = other_factor_zero z (1 + y) sz low in
                absurd (two_nonzero (sym (sum_is_two y) ∙ congruent_sum prime (1 + minus_one * y) 0 (1 + y) 0 zm zp))
            | inr sm ↦
                let k = z * (1 + minus_one * y) in
                let i = inverse z in
                let j = inverse (1 + minus_one * y) in
                let left : Congruent prime (x * i * k) (x * (1 + minus_one * y)) =
                ap (λ n. n % prime) (regroup x (inverse z) z (1 + minus_one * y))
                ∙ congruent_product_right prime (x * (1 + minus_one * y)) (z * inverse z) 1 (inverse_law z sz)
                ∙ ap (λ n. n % prime) (times_one (x * (1 + minus_one * y))) in
                let right : Congruent prime ((1 + y) * j * k) (z * (1 + y)) =
                ap (λ n. n % prime) (regroup_back (1 + y) (inverse (1 + minus_one * y)) z (1 + minus_one * y))
                ∙ congruent_product_right prime (z * (1 + y)) ((1 + minus_one * y) * inverse (1 + minus_one * y)) 1
                (inverse_law (1 + minus_one * y) sm)
                ∙ ap (λ n. n % prime) (times_one (z * (1 + y))) in
                cancel k (x * i) ((1 + y) * j) (nonzero_product z (1 + minus_one * y) sz sm) (left ∙ across ∙ sym right)
          ]
    ]

-- the ladder where u of m B is neither 0 nor infinite
pub scalar_multiple_plain : (u m k : ℕ) → Congruent prime (u * (1 + minus_one * y_of m)) (1 + y_of m)
    → IsNonzero (1 + minus_one * y_of m) → IsNonzero u → k < 2 ^ 255 → scalar_multiple k u ≡ u_coordinate (k * m)
unfolding scalar_multiple u_coordinate
scalar_multiple_plain u m k hu sm su lt =
    let s = pair_after u 255 k in
    ratio_value s.x2 s.z2 (y_of (k * m)) ((ladder_invariant u m hu sm su 255 k lt).0)
