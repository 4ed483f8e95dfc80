-- Exclusive or.
use Rattle.std.proofs.Common.{◌≡◌, ℕ, ◌+◌, ◌*◌, ◌%◌, ◌^◌, ◌<◌, bit_xor, refl, ap, sym, ◌∙◌, arith}
use Rattle.std.proofs.lemmas.Nat.{xor_comm, xor_block}
use Rattle.std.proofs.lemmas.Nat.Bits.{bit_at-lt, bit_at_xor, same_from_bits}

pub xor-zero : (a : ℕ) → bit_xor a 0 ≡ a
xor-zero a = xor_comm a 0 ∙ refl

assoc_bit : (p q r : ℕ) → p < 2 → q < 2 → r < 2 → ((p + q) % 2 + r) % 2 ≡ (p + (q + r) % 2) % 2
assoc_bit p q r hp hq hr = omega arith

pub xor-assoc : (a b c : ℕ) → bit_xor (bit_xor a b) c ≡ bit_xor a (bit_xor b c)
xor-assoc a b c = same_from_bits _ _ (λ i.
    rw (bit_at_xor (bit_xor a b) c i, bit_at_xor a b i, bit_at_xor a (bit_xor b c) i, bit_at_xor b c i)
    (assoc_bit _ _ _ (bit_at-lt a i) (bit_at-lt b i) (bit_at-lt c i)))

self_bit : (p q : ℕ) → p < 2 → q < 2 → (p + (p + q) % 2) % 2 ≡ q
self_bit p q hp hq = omega arith

pub xor-self : (a b : ℕ) → bit_xor a (bit_xor a b) ≡ b
xor-self a b = same_from_bits _ _ (λ i. rw (bit_at_xor a (bit_xor a b) i, bit_at_xor a b i) (self_bit _ _ (bit_at-lt a i) (bit_at-lt b i)))

pub xor-cancel : (a b c : ℕ) → bit_xor a b ≡ bit_xor a c → b ≡ c
xor-cancel a b c e = sym (xor-self a b) ∙ ap (λ x. bit_xor a x) e ∙ xor-self a c

-- the digit below what was moved up
pub xor-moved : (a d v : ℕ) → v < 2 ^ 5 → bit_xor (bit_xor a d * 2 ^ 5) v ≡ bit_xor (a * 2 ^ 5) (d * 2 ^ 5 + v)
xor-moved a d v h =
    let none : 0 < 2 ^ 5 = omega arith in
    let both : bit_xor (a * 2 ^ 5 + 0) (d * 2 ^ 5 + v) ≡ bit_xor a d * 2 ^ 5 + bit_xor 0 v = xor_block 5 a d 0 v none h in
    let one : bit_xor (bit_xor a d * 2 ^ 5 + 0) (0 * 2 ^ 5 + v) ≡ bit_xor (bit_xor a d) 0 * 2 ^ 5 + bit_xor 0 v =
    xor_block 5 (bit_xor a d) 0 0 v none h in
    let z1 : bit_xor a d * 2 ^ 5 + 0 ≡ bit_xor a d * 2 ^ 5 = omega arith in
    let z2 : 0 * 2 ^ 5 + v ≡ v = omega arith in
    let z3 : a * 2 ^ 5 + 0 ≡ a * 2 ^ 5 = omega arith in
    ap (λ x. bit_xor x v) (sym z1) ∙ ap (λ x. bit_xor (bit_xor a d * 2 ^ 5 + 0) x) (sym z2) ∙ one
    ∙ ap (λ x. x * 2 ^ 5 + bit_xor 0 v) (xor-zero (bit_xor a d))
    ∙ sym both ∙ ap (λ x. bit_xor x (d * 2 ^ 5 + v)) z3

pub xor-swap : (a g e : ℕ) → bit_xor (bit_xor a e) g ≡ bit_xor (bit_xor a g) e
xor-swap a g e = xor-assoc a e g ∙ ap (λ x. bit_xor a x) (xor_comm e g) ∙ sym (xor-assoc a g e)
