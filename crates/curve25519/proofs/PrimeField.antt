-- The numbers modulo p = 2^255 - 19 are a field: each that isn't 0 has an inverse, and a product is 0 only where a factor is. In this
-- field d is no square, since d^((p - 1) / 2) is -1 and would be 1 (Euler's criterion).
use Rattle.std.proofs.Common.{◌≡◌, ℕ, suc, pred, ◌*◌, ◌-◌, ◌/◌, ◌%◌, ◌^◌, ◌<◌, ◌⊎◌, inl, inr, false, eqb, sym, ap, refl, ◌∙◌, arith, eq-zero-or-pos, mul_assoc, ltb-true}
use Rattle.std.proofs.Math.Nat.{zero-mod}
use Rattle.std.proofs.lemmas.Bool.{eqb-true, eqb-false}
use Rattle.curve25519.specs.Field.{prime}
use Rattle.curve25519.proofs.Congruence.{Congruent, congruent_product_right, congruent_product_left}
use Rattle.curve25519.proofs.Powers.{power, power-suc, power_mul, power-add, congruent_power, fast_power-power, fast_power}
use Rattle.curve25519.proofs.CurveConstants.{minus_one, d}
use Rattle.curve25519.proofs.PrimalityTest.{IsPrime}
use Rattle.curve25519.proofs.PrimalityCertificate.{prime_certified}

pub is_prime : IsPrime prime
unfolding prime
is_prime = prime_certified

pub times_one : (n : ℕ) → n * 1 ≡ n
times_one n = omega arith

abbrev pub IsZero : ℕ → Type 0
IsZero z = Congruent prime z 0

abbrev pub IsNonzero : ℕ → Type 0
IsNonzero z = Congruent prime z 0 → ⊥

pub zero_or_nonzero : (z : ℕ) → IsZero z ⊎ IsNonzero z
zero_or_nonzero z =
    elim (eq-zero-or-pos (z % prime)) [
      | inl e ↦ inl (e ∙ sym (zero-mod prime))
      | inr s ↦ inr (λ e. let h = zero-mod prime in omega arith)
    ]

-- a number is no multiple of the prime, by a computation
pub nonzero_by_computation : (z : ℕ) → eqb (z % prime) 0 ≡ false → IsNonzero z
nonzero_by_computation z t e = eqb-false (z % prime) 0 t (e ∙ zero-mod prime)

-- 1 / z, and 0 for 0
unfoldable pub inverse : ℕ → ℕ
inverse z = fast_power prime 255 z (prime - 2)

exponent_fits : prime - 2 < 2 ^ 255
unfolding prime
exponent_fits = ltb-true (prime - 2) (2 ^ 255) refl

pub inverse-power : (z : ℕ) → Congruent prime (inverse z) (power z (prime - 2))
unfolding inverse
inverse-power z = fast_power-power prime 255 z (prime - 2) exponent_fits

-- z * (1 / z) = 1
pub inverse_law : (z : ℕ) → IsNonzero z → Congruent prime (z * inverse z) 1
inverse_law z nonzero =
    let one = is_prime.above_one in
    congruent_product_right prime z _ _ (inverse-power z)
    ∙ ap (λ x. x % prime) (sym (power-suc z (prime - 2)) ∙ ap (power z) (omega arith))
    ∙ is_prime.fermat z nonzero

more_than_two : suc (suc (suc (prime - 3))) ≡ prime
unfolding prime
more_than_two = eqb-true (suc (suc (suc (prime - 3)))) prime refl

exponent_shape : prime - 2 ≡ suc (prime - 3)
exponent_shape = omega (arith, more_than_two)

pub inverse_zero : (z : ℕ) → IsZero z → IsZero (inverse z)
inverse_zero z h =
    inverse-power z
    ∙ ap (λ x. x % prime) (ap (power z) exponent_shape ∙ power-suc z (prime - 3))
    ∙ congruent_product_left prime z 0 (power z (prime - 3)) h ∙ ap (λ x. x % prime) (omega arith)

-- what isn't 0 is cancelled
pub cancel : (k a b : ℕ) → IsNonzero k → Congruent prime (a * k) (b * k) → Congruent prime a b
cancel k a b nonzero h =
    let i = inverse k in
    let one = inverse_law k nonzero in
    let f : (x : ℕ) → Congruent prime x (x * k * i) =
    λ x. ap (λ y. y % prime) (sym (times_one x)) ∙ sym (congruent_product_right prime x _ _ one) ∙ ap (λ y. y % prime) (sym (mul_assoc x k i)) in
    f a ∙ congruent_product_left prime _ _ i h ∙ sym (f b)

pub nonzero_product : (a b : ℕ) → IsNonzero a → IsNonzero b → IsNonzero (a * b)
nonzero_product a b sa sb h =
    sa (cancel b a 0 sb (h ∙ ap (λ x. x % prime) (omega arith)))

pub zero_product_left : (a b : ℕ) → IsZero a → IsZero (a * b)
zero_product_left a b h = congruent_product_left prime a 0 b h ∙ ap (λ x. x % prime) (omega arith)

pub zero_product_right : (a b : ℕ) → IsZero b → IsZero (a * b)
zero_product_right a b h = congruent_product_right prime a b 0 h ∙ ap (λ x. x % prime) (omega arith)

-- a product is 0 only where a factor is
pub zero_factor : (a b : ℕ) → IsZero (a * b) → IsZero a ⊎ IsZero b
zero_factor a b h =
    elim (zero_or_nonzero a) [
      | inl z ↦ inl z
      | inr s ↦ elim (zero_or_nonzero b) [ inl z ↦ inr z | inr t ↦ absurd (nonzero_product a b s t h) ]
    ]

d_nonzero : IsNonzero d
unfolding prime d
d_nonzero = nonzero_by_computation d refl

d_power : Congruent prime (power d (prime / 2)) minus_one
unfolding prime d minus_one
d_power =
    sym (fast_power-power prime 255 d (prime / 2) (ltb-true (prime / 2) (2 ^ 255) refl))
    ∙ eqb-true (fast_power prime 255 d (prime / 2) % prime) (minus_one % prime) refl

minus_one_not_one : Congruent prime minus_one 1 → ⊥
unfolding prime minus_one
minus_one_not_one h = eqb-false (minus_one % prime) (1 % prime) refl h

twice : 2 * (prime / 2) ≡ pred prime
unfolding prime
twice = eqb-true (2 * (prime / 2)) (pred prime) refl

-- a square has the power (p - 1) / 2 that is 1
square_power : (z : ℕ) → IsNonzero z → Congruent prime (power (z * z) (prime / 2)) 1
square_power z nonzero =
    ap (λ x. x % prime) (power_mul z z (prime / 2) ∙ sym (power-add z (prime / 2) (prime / 2))
    ∙ ap (power z) (omega (arith, twice)))
    ∙ is_prime.fermat z nonzero

-- d is no quotient of squares
pub no_square : (a b : ℕ) → IsNonzero b → Congruent prime (a * a) (d * (b * b)) → ⊥
no_square a b nonzero h =
    elim (zero_or_nonzero a) [
      | inl z ↦ nonzero_product d (b * b) d_nonzero (nonzero_product b b nonzero nonzero) (sym h ∙ zero_product_left a a z)
      | inr s ↦
          minus_one_not_one (sym d_power
          ∙ ap (λ x. x % prime) (sym (times_one (power d (prime / 2))))
          ∙ sym (congruent_product_right prime (power d (prime / 2)) _ _ (square_power b nonzero))
          ∙ ap (λ x. x % prime) (sym (power_mul d (b * b) (prime / 2)))
          ∙ sym (congruent_power prime _ _ (prime / 2) h)
          ∙ square_power a s)
    ]
