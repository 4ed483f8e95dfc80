-- A choice between two numbers by a mask.
use Rattle.std.proofs.Common.{◌≡◌, ℕ, zero, suc, ◌+◌, ◌-◌, ◌*◌, ◌%◌, ◌^◌, ◌<◌, sym, ap, refl, ◌∙◌, arith}
use Rattle.std.proofs.Math.Nat.{mod-eq_of_lt}
use Rattle.std.proofs.lemmas.Nat.{and_comm, and_mask, xor_lt}
use Rattle.std.specs.Int.Bits.{bit_and, bit_xor, xor_self, xor_assoc, xor_zero_l, xor_zero_r, and_zero_l}
use Rattle.curve25519.specs.Field.{prime}
use Rattle.curve25519.specs.X25519.{conditional_swap}

-- a ^ (mask & (a ^ b)), where the mask is -swap in 64 bits
pub select-is : (swap mask a b : ℕ) → swap < 2 → a < 2 ^ 64 → b < 2 ^ 64 → mask < 2 ^ 64 → (mask + swap) % 2 ^ 64 ≡ 0
    → bit_xor a (bit_and mask (bit_xor a b)) ≡ (conditional_swap swap a b).0
select-is zero mask a b h ha hb hm e =
    let none : mask ≡ 0 = omega arith in
    ap (λ m. bit_xor a (bit_and m (bit_xor a b))) none ∙ ap (bit_xor a) (and_zero_l (bit_xor a b)) ∙ xor_zero_r a
select-is (suc zero) mask a b h ha hb hm e =
    let all : mask ≡ 2 ^ 64 - 1 = omega arith in
    ap (λ m. bit_xor a (bit_and m (bit_xor a b))) all
    ∙ ap (bit_xor a) (and_comm (2 ^ 64 - 1) (bit_xor a b) ∙ and_mask (bit_xor a b) 64 ∙ mod-eq_of_lt (xor_lt 64 a b ha hb))
    ∙ sym (xor_assoc a a b) ∙ ap (λ n. bit_xor n b) (xor_self a) ∙ xor_zero_l b
select-is (suc (suc swap)) mask a b h ha hb hm e = absurd (omega arith)

-- limb by limb
pub limbs-selected : (swap a0 a1 a2 a3 a4 b0 b1 b2 b3 b4 r0 r1 r2 r3 r4 : ℕ)
    → r0 ≡ (conditional_swap swap a0 b0).0 → r1 ≡ (conditional_swap swap a1 b1).0 → r2 ≡ (conditional_swap swap a2 b2).0
    → r3 ≡ (conditional_swap swap a3 b3).0 → r4 ≡ (conditional_swap swap a4 b4).0
    → r0 + 2 ^ 51 * r1 + 2 ^ 102 * r2 + 2 ^ 153 * r3 + 2 ^ 204 * r4
    ≡ (conditional_swap swap (a0 + 2 ^ 51 * a1 + 2 ^ 102 * a2 + 2 ^ 153 * a3 + 2 ^ 204 * a4)
    (b0 + 2 ^ 51 * b1 + 2 ^ 102 * b2 + 2 ^ 153 * b3 + 2 ^ 204 * b4)).0
limbs-selected zero a0 a1 a2 a3 a4 b0 b1 b2 b3 b4 r0 r1 r2 r3 r4 h0 h1 h2 h3 h4 = omega (arith, h0, h1, h2, h3, h4)
limbs-selected (suc swap) a0 a1 a2 a3 a4 b0 b1 b2 b3 b4 r0 r1 r2 r3 r4 h0 h1 h2 h3 h4 = omega (arith, h0, h1, h2, h3, h4)

module _ (a b m n : ℕ) (ha : a % prime ≡ m % prime) (hb : b % prime ≡ n % prime) where
  -- exchanged numbers stay congruent
  pub left_congruent : (swap : ℕ) → (conditional_swap swap a b).0 % prime ≡ (conditional_swap swap m n).0 % prime
  left_congruent zero = ha
  left_congruent (suc swap) = hb

  pub right_congruent : (swap : ℕ) → (conditional_swap swap a b).1 % prime ≡ (conditional_swap swap m n).1 % prime
  right_congruent zero = hb
  right_congruent (suc swap) = ha

-- the one side of an exchange is the other side of that of both exchanged
pub right_is_left : (swap a b : ℕ) → (conditional_swap swap b a).0 ≡ (conditional_swap swap a b).1
right_is_left zero a b = refl
right_is_left (suc swap) a b = refl
