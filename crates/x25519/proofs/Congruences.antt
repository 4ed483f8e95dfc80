-- What an operation gives of numbers that are congruent modulo the prime.
use Rattle.std.proofs.Common.{◌≡◌, ℕ, ◌+◌, ◌-◌, ◌*◌, ◌%◌, ◌^◌, sym, ap, refl, ◌∙◌}
use Rattle.std.proofs.Math.Nat.{mod-mod}
use Rattle.curve25519.specs.Field.{prime, sum, difference, product, square, field_power}
use Rattle.curve25519.proofs.Congruence.{Congruent, congruent_sum, congruent_product}
use Rattle.curve25519.proofs.Powers.{congruent_power}
use Rattle.curve25519.proofs.FieldOperations.{power-is}

module _ (r a b m n : ℕ) (ha : Congruent prime a m) (hb : Congruent prime b n) where
  pub of_sum : r % prime ≡ sum a b → Congruent prime r (sum m n)
  of_sum h = h ∙ congruent_sum prime a m b n ha hb ∙ sym (mod-mod (m + n) prime)

  pub of_difference : r % prime ≡ difference a b → Congruent prime r (difference m n)
  of_difference h =
      h ∙ ap (λ x. (a + (prime - x)) % prime) hb
      ∙ congruent_sum prime a m (prime - n % prime) (prime - n % prime) ha refl
      ∙ sym (mod-mod (m + (prime - n % prime)) prime)

  pub of_product : r % prime ≡ product a b → Congruent prime r (product m n)
  of_product h = h ∙ congruent_product prime a m b n ha hb ∙ sym (mod-mod (m * n) prime)

pub of_square : (r a m : ℕ) → Congruent prime a m → r % prime ≡ square a → Congruent prime r (square m)
of_square r a m h e = of_product r a a m m h h e

pub of_power : (r a m e : ℕ) → Congruent prime a m → r % prime ≡ field_power a e → Congruent prime r (field_power m e)
of_power r a m e h i =
    i ∙ ap (λ x. x % prime) (power-is a e) ∙ congruent_power prime a m e h ∙ ap (λ x. x % prime) (sym (power-is m e))
    ∙ sym (mod-mod (m ^ e) prime)
