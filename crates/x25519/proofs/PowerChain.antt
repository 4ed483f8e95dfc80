-- Powers, by their exponents.
use Rattle.std.proofs.Common.{◌≡◌, ℕ, ◌+◌, ◌-◌, ◌*◌, ◌%◌, ◌^◌, sym, ap, refl, ◌∙◌, arith}
use Rattle.std.proofs.lemmas.Nat.{pow-add}
use Rattle.curve25519.specs.Field.{prime, product, square, field_power}
use Rattle.curve25519.proofs.Congruence.{Congruent, congruent_product}
use Rattle.curve25519.proofs.FieldOperations.{power-is}
use Rattle.curve25519.proofs.PrimeField.{times_one}
use Rattle.curve25519.proofs.Powers.{power, power-zero, power-suc, power-add, power-mul, congruent_power}

-- `power` is the power of the definition, kept closed
pub first_power : (z : ℕ) → Congruent prime z (power z 1)
first_power z = ap (λ x. x % prime) (sym (power-suc z 0 ∙ ap (λ x. z * x) (power-zero z) ∙ times_one z))

module _ (z r a b i j : ℕ) (ha : Congruent prime a (power z i)) (hb : Congruent prime b (power z j)) where
  pub power_of_product : r % prime ≡ product a b → Congruent prime r (power z (i + j))
  power_of_product h = h ∙ congruent_product prime a (power z i) b (power z j) ha hb ∙ ap (λ x. x % prime) (sym (power-add z i j))

pub power_of_square : (z r a i : ℕ) → Congruent prime a (power z i) → r % prime ≡ square a → Congruent prime r (power z (i + i))
power_of_square z r a i ha h = power_of_product z r a a i i ha ha h

-- so many squares
pub power_of_squares : (z r a i count : ℕ) → Congruent prime a (power z i) → r % prime ≡ field_power a (2 ^ count)
    → Congruent prime r (power z (i * 2 ^ count))
power_of_squares z r a i count ha h =
    h ∙ ap (λ x. x % prime) (power-is a (2 ^ count)) ∙ congruent_power prime a (power z i) (2 ^ count) ha
    ∙ ap (λ x. x % prime) (sym (power-mul z i (2 ^ count)))

twice : (i : ℕ) → 2 ^ i + 2 ^ i ≡ 2 ^ (i + 1)
twice i = let h = pow-add 2 i 1 in omega (arith, h)

-- one square more
pub squares_more : (z r a i : ℕ) → a % prime ≡ field_power z (2 ^ i) → r % prime ≡ square a → r % prime ≡ field_power z (2 ^ (i + 1))
squares_more z r a i ha h =
    let power_a : Congruent prime a (power z (2 ^ i)) = ha ∙ ap (λ x. x % prime) (power-is z (2 ^ i)) in
    power_of_square z r a (2 ^ i) power_a h ∙ ap (λ n. power z n % prime) (twice i)
    ∙ ap (λ x. x % prime) (sym (power-is z (2 ^ (i + 1))))

pub no_squares : (z : ℕ) → z % prime ≡ field_power z (2 ^ 0)
no_squares z = first_power z ∙ ap (λ x. x % prime) (sym (power-is z 1))

last_exponent : (2 ^ 250 - 1) * 2 ^ 5 + 11 ≡ prime - 2
unfolding prime
last_exponent = refl

pub power_inverse : (z r : ℕ) → Congruent prime r (power z ((2 ^ 250 - 1) * 2 ^ 5 + 11)) → r % prime ≡ field_power z (prime - 2)
power_inverse z r h = h ∙ ap (λ n. power z n % prime) last_exponent ∙ ap (λ x. x % prime) (sym (power-is z (prime - 2)))
