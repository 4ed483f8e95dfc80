-- Products of limbs and factors.
use Rattle.std.proofs.Common.{◌≡◌, ℕ, ◌+◌, ◌*◌, ◌/◌, ◌%◌, ◌^◌, ap, ap₂, refl, sym, ◌∙◌, arith}
use Rattle.std.proofs.lemmas.Nat.{mul-mod_second}
use Rattle.std.proofs.Math.Nat.{add-mod, add-mul-mod_self_left}
use Rattle.poly1305.specs.Mac.{prime}

-- 2^128 times the factor's second half, s, comes back as 5 times its quarter: what is left out is so many times the prime
folded : (low middle high r s q : ℕ) → s ≡ 4 * q
    → ((low * r + middle * (q * 5)) + 2 ^ 64 * (low * s + middle * r + high * (q * 5)) + 2 ^ 128 * (high * r)) % prime
    ≡ ((low + 2 ^ 64 * middle + 2 ^ 128 * high) * (r + 2 ^ 64 * s)) % prime
folded low middle high r s q quarter =
    let columns = (low * r + middle * (q * 5)) + 2 ^ 64 * (low * s + middle * r + high * (q * 5)) + 2 ^ 128 * (high * r) in
    let left = middle * q + 2 ^ 64 * (high * q) in
    let whole : columns + prime * left ≡ (low + 2 ^ 64 * middle + 2 ^ 128 * high) * (r + 2 ^ 64 * s) = rw quarter (omega arith) in
    sym (add-mul-mod_self_left columns prime left) ∙ ap (λ n. n % prime) whole

-- the same of the products themselves
pub product_of_columns : (low middle high r s a b c d e f : ℕ) → s % 4 ≡ 0
    → a ≡ low * r → b ≡ middle * (s / 4 * 5) → c ≡ low * s → d ≡ middle * r → e ≡ high * (s / 4 * 5) → f ≡ high * r
    → (a + b + 2 ^ 64 * (c + d + e) + 2 ^ 128 * f) % prime ≡ ((low + 2 ^ 64 * middle + 2 ^ 128 * high) * (r + 2 ^ 64 * s)) % prime
product_of_columns low middle high r s a b c d e f fourfold is_a is_b is_c is_d is_e is_f =
    rw (is_a, is_b, is_c, is_d, is_e, is_f) (folded low middle high r s (s / 4) (omega (arith, fourfold)))

-- sums and products of numbers that are congruent modulo the prime
pub congruent_sum : (a b m n : ℕ) → a % prime ≡ m % prime → b % prime ≡ n % prime → (a + b) % prime ≡ (m + n) % prime
congruent_sum a b m n is_a is_b = add-mod a b prime ∙ ap₂ (λ x y. (x + y) % prime) is_a is_b ∙ sym (add-mod m n prime)

pub congruent_product : (k a m : ℕ) → a % prime ≡ m % prime → (k * a) % prime ≡ (k * m) % prime
congruent_product k a m is = sym (mul-mod_second k a prime) ∙ ap (λ x. (k * x) % prime) is ∙ mul-mod_second k m prime

-- the low limb is multiplied by a factor r, those above by s, which is 2^64 times r
limb_by_limb : (low middle high r s : ℕ) → s % prime ≡ (2 ^ 64 * r) % prime
    → (low * r + (middle + 2 ^ 64 * high) * s) % prime ≡ ((low + 2 ^ 64 * middle + 2 ^ 128 * high) * r) % prime
limb_by_limb low middle high r s shifted =
    let above = middle + 2 ^ 64 * high in
    let whole : low * r + (middle + 2 ^ 64 * high) * (2 ^ 64 * r) ≡ (low + 2 ^ 64 * middle + 2 ^ 128 * high) * r = omega arith in
    congruent_sum (low * r) (above * s) (low * r) (above * (2 ^ 64 * r)) refl (congruent_product above s (2 ^ 64 * r) shifted)
    ∙ ap (λ n. n % prime) whole

-- the same in columns, where the factors have short limbs, added to others
pub sum_of_short_columns : (low middle high r0 r1 r2 s0 s1 s2 d0 d1 d2 a b c : ℕ)
    → (s0 + 2 ^ 44 * s1 + 2 ^ 88 * s2) % prime ≡ (2 ^ 64 * (r0 + 2 ^ 44 * r1 + 2 ^ 88 * r2)) % prime
    → a ≡ d0 + (low * r0 + middle * s0 + 2 ^ 64 * (high * s0)) → b ≡ d1 + (low * r1 + middle * s1 + 2 ^ 64 * (high * s1))
    → c ≡ d2 + (low * r2 + middle * s2 + 2 ^ 64 * (high * s2))
    → (a + 2 ^ 44 * b + 2 ^ 88 * c) % prime
    ≡ ((d0 + 2 ^ 44 * d1 + 2 ^ 88 * d2) + (low + 2 ^ 64 * middle + 2 ^ 128 * high) * (r0 + 2 ^ 44 * r1 + 2 ^ 88 * r2)) % prime
sum_of_short_columns low middle high r0 r1 r2 s0 s1 s2 d0 d1 d2 a b c shifted is_a is_b is_c =
    let d = d0 + 2 ^ 44 * d1 + 2 ^ 88 * d2 in
    let r = r0 + 2 ^ 44 * r1 + 2 ^ 88 * r2 in
    let s = s0 + 2 ^ 44 * s1 + 2 ^ 88 * s2 in
    let product = low * r + (middle + 2 ^ 64 * high) * s in
    let whole : a + 2 ^ 44 * b + 2 ^ 88 * c
    ≡ d0 + 2 ^ 44 * d1 + 2 ^ 88 * d2
    + (low * (r0 + 2 ^ 44 * r1 + 2 ^ 88 * r2) + (middle + 2 ^ 64 * high) * (s0 + 2 ^ 44 * s1 + 2 ^ 88 * s2)) = rw (is_a, is_b, is_c) (omega arith) in
    ap (λ n. n % prime) whole
    ∙ congruent_sum d product d ((low + 2 ^ 64 * middle + 2 ^ 128 * high) * r) refl (limb_by_limb low middle high r s shifted)
