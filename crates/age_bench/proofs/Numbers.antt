-- Decimal numbers, digit by digit.
use Rattle.std.specs.Prelude.{◌≡◌, ℕ, ◌+◌, ◌*◌, ◌^◌, ◌<◌, ◌≤◌, Bool, true, false, List, [], ◌∷◌, nat_lt, if◌then◌else◌, Option, Some, None, refl}
use Rattle.std.specs.Option.{option_and_then}
use Rattle.std.proofs.Common.{arith, ap}
use Rattle.std.proofs.lemmas.Bool.Decides.{nat_tests}
use Rattle.age_bench.specs.Decimal.{decimal_digit, digits_after, within_64}

chosen : (b : Bool) (k m : ℕ) → ◌≡◌ {A = Option ℕ} (if b then Some k else None) (Some m) → k ≡ m
chosen true k m is = Prim.cc
chosen false k m is = absurd (Prim.cc)

past_64 : (n : ℕ) → within_64 n ≡ None → 2 ^ 64 ≤ n
past_64 n is = grind (arith, nat_tests)

none_past : (n : ℕ) → 2 ^ 64 ≤ n → within_64 n ≡ None
none_past n past = grind (arith, nat_tests)

-- digits after a number that is too large write none that isn't
past_digit : (n : ℕ) (text : List ℕ) (digit : Option ℕ) → ((m : ℕ) → 2 ^ 64 ≤ m → option_and_then within_64 (digits_after m text) ≡ None)
    → 2 ^ 64 ≤ n → option_and_then within_64 (option_and_then (λ d. digits_after (n * 10 + d) text) digit) ≡ None
past_digit n text None more past = refl
past_digit n text (Some d) more past = more (n * 10 + d) (omega (arith, past))

past_more : (text : List ℕ) (n : ℕ) → 2 ^ 64 ≤ n → option_and_then within_64 (digits_after n text) ≡ None
past_more [] n past = none_past n past
past_more (c ∷ text) n past = past_digit n text (decimal_digit c) (past_more text) past

-- no digit, or a digit that makes the number too large
pub no_number : (n : ℕ) (text : List ℕ) (digit : Option ℕ) → option_and_then (λ d. within_64 (n * 10 + d)) digit ≡ None
    → option_and_then within_64 (option_and_then (λ d. digits_after (n * 10 + d) text) digit) ≡ None
no_number n text None is = refl
no_number n text (Some d) is = past_more text (n * 10 + d) (past_64 (n * 10 + d) is)

-- a digit more
pub digit_more : (n m : ℕ) (text : List ℕ) (digit : Option ℕ) → option_and_then (λ d. within_64 (n * 10 + d)) digit ≡ Some m
    → option_and_then within_64 (option_and_then (λ d. digits_after (n * 10 + d) text) digit) ≡ option_and_then within_64 (digits_after m text)
digit_more n m text None is = absurd (Prim.cc)
digit_more n m text (Some d) is = ap (λ k. option_and_then within_64 (digits_after k text)) (chosen (nat_lt (n * 10 + d) (2 ^ 64)) (n * 10 + d) m is)

-- and no digit more
pub digits_done : (n : ℕ) → n < 2 ^ 64 → option_and_then within_64 (digits_after n []) ≡ Some n
digits_done n small = grind (arith, nat_tests)
