-- The operations of the definition are those of natural numbers, modulo the prime.
use Rattle.std.proofs.Common.{◌≡◌, ℕ, zero, suc, ◌+◌, ◌-◌, ◌*◌, ◌/◌, ◌%◌, ◌^◌, sym, ap, refl, ◌∙◌, arith}
use Rattle.std.proofs.Math.Nat.{mod-mod, add-mul-mod_self_left, pow-zero, pow-succ'}
use Rattle.curve25519.specs.Field.{prime, sum, difference, product, field_power}
use Rattle.curve25519.proofs.Congruence.{Congruent, congruent_sum, congruent_product, congruent_product_right}
use Rattle.curve25519.proofs.CurveConstants.{minus_one}
use Rattle.curve25519.proofs.Powers.{power, power-zero, power-suc}
use Rattle.curve25519.proofs.PrimeField.{inverse, inverse-power}

subtrahend : (b : ℕ) → prime - b % prime + prime * b ≡ minus_one * b + prime * (1 + b / prime)
unfolding prime minus_one
subtrahend b = omega arith

pub difference-congruent : (a b : ℕ) → Congruent prime (difference a b) (a + minus_one * b)
difference-congruent a b =
    mod-mod (a + (prime - b % prime)) prime
    ∙ congruent_sum prime a a (prime - b % prime) (minus_one * b) refl
    (sym (add-mul-mod_self_left (prime - b % prime) prime b) ∙ ap (λ n. n % prime) (subtrahend b)
    ∙ add-mul-mod_self_left (minus_one * b) prime (1 + b / prime))

module _ (a b m n : ℕ) (ha : Congruent prime a m) (hb : Congruent prime b n) where
  pub sum_of_congruent : Congruent prime (sum a b) (m + n)
  sum_of_congruent = mod-mod (a + b) prime ∙ congruent_sum prime a m b n ha hb

  pub difference_of_congruent : Congruent prime (difference a b) (m + minus_one * n)
  difference_of_congruent =
      difference-congruent a b
      ∙ congruent_sum prime a m (minus_one * b) (minus_one * n) ha (congruent_product_right prime minus_one b n hb)

  pub product_of_congruent : Congruent prime (product a b) (m * n)
  product_of_congruent = mod-mod (a * b) prime ∙ congruent_product prime a m b n ha hb

pub power-is : (b n : ℕ) → b ^ n ≡ power b n
power-is b zero = pow-zero b ∙ sym (power-zero b)
power-is b (suc n) =
    pow-succ' b n ∙ ap (λ x. b * x) (power-is b n) ∙ sym (power-suc b n)

pub field_power-inverse : (z : ℕ) → Congruent prime (field_power z (prime - 2)) (inverse z)
field_power-inverse z =
    mod-mod (z ^ (prime - 2)) prime ∙ ap (λ x. x % prime) (power-is z (prime - 2)) ∙ sym (inverse-power z)
