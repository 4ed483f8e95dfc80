-- Steps of the ladder.
use Rattle.std.proofs.Common.{◌≡◌, ℕ, suc, ◌+◌, ◌-◌, ◌%◌, ◌<◌, ap, ◌∙◌, arith, bit_xor}
use Rattle.std.specs.Int.{bit_at}
use Rattle.curve25519.specs.Field.{prime}
use Rattle.curve25519.specs.X25519.{LadderState, conditional_swap, ladder_step, ladder}
use Rattle.x25519.proofs.Selecting.{left_congruent, right_congruent}

module _ (k_t swap swap' r a b m n : ℕ) (is : swap ≡ swap') (ha : a % prime ≡ m % prime) (hb : b % prime ≡ n % prime) where
  -- both sides of an exchange in a step
  pub exchanged_left : r ≡ (conditional_swap (bit_xor swap k_t) a b).0 → r % prime ≡ (conditional_swap (bit_xor swap' k_t) m n).0 % prime
  exchanged_left h =
      ap (λ x. x % prime) h ∙ left_congruent a b m n ha hb (bit_xor swap k_t)
      ∙ ap (λ s. (conditional_swap (bit_xor s k_t) m n).0 % prime) is

  pub exchanged_right : r ≡ (conditional_swap (bit_xor swap k_t) a b).1 → r % prime ≡ (conditional_swap (bit_xor swap' k_t) m n).1 % prime
  exchanged_right h =
      ap (λ x. x % prime) h ∙ right_congruent a b m n ha hb (bit_xor swap k_t)
      ∙ ap (λ s. (conditional_swap (bit_xor s k_t) m n).1 % prime) is

module _ (swap swap' r a b m n : ℕ) (is : swap ≡ swap') (ha : a % prime ≡ m % prime) (hb : b % prime ≡ n % prime) where
  -- the left side of the last exchange
  pub exchanged_last : r ≡ (conditional_swap swap a b).0 → r % prime ≡ (conditional_swap swap' m n).0 % prime
  exchanged_last h =
      ap (λ x. x % prime) h ∙ left_congruent a b m n ha hb swap ∙ ap (λ s. (conditional_swap s m n).0 % prime) is

-- the steps that are left after one more
pub ladder_more : (k x_1 i : ℕ) (state : LadderState) → i < 255
    → ladder k x_1 (255 - (i + 1)) (ladder_step x_1 (bit_at k (254 - i)) state) ≡ ladder k x_1 (255 - i) state
unfolding ladder
ladder_more k x_1 i state h =
    let a : 255 - (i + 1) ≡ 254 - i = omega arith in
    let b : suc (254 - i) ≡ 255 - i = omega arith in
    ap (λ t. ladder k x_1 t (ladder_step x_1 (bit_at k (254 - i)) state)) a ∙ ap (λ t. ladder k x_1 t state) b

pub ladder_none : (k x_1 i : ℕ) (state : LadderState) → i ≡ 255 → ladder k x_1 (255 - i) state ≡ state
unfolding ladder
ladder_none k x_1 i state h = let none : 255 - i ≡ 0 = omega arith in ap (λ t. ladder k x_1 t state) none
