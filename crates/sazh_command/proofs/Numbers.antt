-- Decimal numbers in words.
use Rattle.std.specs.Prelude.{◌≡◌, ◌≢◌, ℕ, ◌^◌, ◌<◌, ◌&&◌, ◌==◌, Bool, true, false, List, length, slice_index, if◌then◌else◌, Option, Some, None, IfSome, Result, Ok, Err, refl}
use Rattle.std.specs.Result.{OkIff, result_ok}
use Rattle.std.specs.Str.{all_ascii_digits}
use Rattle.std.specs.Str.Parse.{ParsesUnsigned, digits_value}
use Rattle.std.proofs.Common.{arith, ap, ◌∙◌}
use Rattle.std.proofs.lemmas.Bool.Decides.{nat_tests, Decides-ltb}
use Rattle.std.proofs.lemmas.Str.Parse.{IsNumeralModel, numerals_by_value, tells_all_ascii_digits, parse_plain}
use Rattle.sazh_command.specs.Decimal.{number_of}

own : IsNumeralModel (λ word. all_ascii_digits word ≡ true) (digits_value 10)
own = numerals_by_value (λ word. all_ascii_digits word ≡ true) tells_all_ascii_digits

-- one of two, by three tests
chosen : (a b c : Bool) (n : ℕ) → a ≡ true → b ≡ true → c ≡ true → Some n ≡ (if a && b && c then Some n else None)
chosen a b c n is_a is_b is_c = rw (is_a, is_b, is_c) refl

not_chosen : (a b c : Bool) (n : ℕ) → (a ≡ true → b ≡ true → c ≡ true → ⊥) → ◌≡◌ {A = Option ℕ} None (if a && b && c then Some n else None)
not_chosen false b c n none = refl
not_chosen true false c n none = refl
not_chosen true true false n none = refl
not_chosen true true true n none = absurd (none refl refl refl)

number_is : {E : Type 0} (word : List ℕ) (r : Result ℕ E)
    → OkIff r ((all_ascii_digits word ≡ true) × (0 < length word) × (digits_value 10 word < 2 ^ 64)) (digits_value 10 word)
    → result_ok r ≡ number_of word
number_is word (Ok n) h =
    ap (λ m. Some m) h.1
    ∙ chosen (all_ascii_digits word) _ _ (digits_value 10 word) h.0.0 ((Decides-ltb 0 (length word)).1 h.0.1)
    ((Decides-ltb (digits_value 10 word) (2 ^ 64)).1 h.0.2)
number_is word (Err e) h =
    not_chosen (all_ascii_digits word) _ _ (digits_value 10 word)
    (λ digits some small. h (digits, (Decides-ltb 0 (length word)).0 some, (Decides-ltb (digits_value 10 word) (2 ^ 64)).0 small))

not_plus : (c : ℕ) → (c == 43) ≡ false → c ≢ 43
not_plus c is = grind (arith, nat_tests)

-- the number of a word that doesn't begin with '+'
pub number : {E : Type 0} (word : List ℕ) (r : Result ℕ E) → ParsesUnsigned 64 10 word r → (slice_index word 0 == 43) ≡ false
    → result_ok r ≡ number_of word
number word r h first = number_is word r (parse_plain own 64 word r h (not_plus (slice_index word 0) first))

small_if : (a b c : Bool) (n : ℕ) → (c ≡ true → n < 2 ^ 64) → IfSome (if a && b && c then Some n else None) (λ m. m < 2 ^ 64)
small_if false b c n small = tt
small_if true false c n small = tt
small_if true true false n small = tt
small_if true true true n small = small refl

-- what is read is below 2^64
pub number_of-small : (word : List ℕ) → IfSome (number_of word) (λ n. n < 2 ^ 64)
number_of-small word =
    small_if (all_ascii_digits word) _ _ (digits_value 10 word) ((Decides-ltb (digits_value 10 word) (2 ^ 64)).0)
