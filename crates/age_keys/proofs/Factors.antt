-- The decimal of a work factor.
use Rattle.std.proofs.Common.{◌≡◌, ◌≢◌, ◌∙◌, sym, ap, subst, ℕ, ◌<◌, ◌≤◌, ◌^◌, true, false, List, [], ◌∷◌, length, Option, None, Result, Ok, Err, MatchOption, OkIff, arith, get_or}
use Rattle.std.specs.Prelude.{nat_eq}
use Rattle.std.specs.Fmt.{decimal}
use Rattle.std.specs.List.{starts_with}
use Rattle.std.specs.Result.{result_ok}
use Rattle.std.specs.Str.Parse.{AllDigits, ParsesUnsigned, digits_value}
use Rattle.std.proofs.lemmas.Bool.Decides.{nat_tests}
use Rattle.std.proofs.lemmas.Str.Parse.{numerals_by_value, tells_digits, parse_plain}
use Rattle.std.proofs.lemmas.Fmt.{decimal_is_IsNumeral, decimal_digit, decimal-digits_value, first_decimal}

-- a text is the decimal of this factor, or of none
abbrev pub IsFactorOf : List ℕ → Option ℕ → Type 0
IsFactorOf text found = MatchOption found ((factor : ℕ) → 1 ≤ factor → factor < 2 ^ 8 → decimal factor ≡ text → ⊥)
    (λ factor. (1 ≤ factor) × (decimal factor ≡ text))

-- what a text begins with
begins_with : (byte : ℕ) (text : List ℕ) → starts_with nat_eq text (byte ∷ []) ≡ true → get_or text 0 0 ≡ byte
begins_with byte [] begins = absurd (Prim.cc)
begins_with byte (c ∷ cs) begins = grind (arith, nat_tests)

begins_otherwise : (byte : ℕ) (text : List ℕ) → 0 < byte → starts_with nat_eq text (byte ∷ []) ≡ false → get_or text 0 0 ≢ byte
begins_otherwise byte [] some other = λ is. omega (arith, is, some)
begins_otherwise byte (c ∷ cs) some other = λ is. grind (arith, nat_tests)

-- a decimal begins with none of the bytes up to 48, the digit 0
pub no_factor : (byte : ℕ) (text : List ℕ) → byte ≤ 48 → starts_with nat_eq text (byte ∷ []) ≡ true → IsFactorOf text None
no_factor byte text low begins = λ factor some fits is.
    let large = first_decimal factor some (omega arith) in
    omega (arith, low, begins_with byte text begins, ap (λ l. get_or l 0 0) is, large)

-- digits that don't begin with 0 are the decimal of their value
value_is : (text : List ℕ) → AllDigits 10 text → 0 < length text → digits_value 10 text < 2 ^ 8 → get_or text 0 0 ≢ 48
    → decimal (digits_value 10 text) ≡ text
value_is text digits some fits zero = decimal-digits_value (numerals_by_value _ tells_digits) text digits some (λ is. absurd (zero is))
    (omega (arith, fits))

factor_or_none : {E : Type 0} (text : List ℕ) (parsed : Result ℕ E)
    → OkIff parsed (AllDigits 10 text × (0 < length text) × (digits_value 10 text < 2 ^ 8)) (digits_value 10 text) → get_or text 0 0 ≢ 48
    → IsFactorOf text (result_ok parsed)
factor_or_none text (Ok n) read zero =
    let is : decimal n ≡ text = ap decimal read.1 ∙ value_is text read.0.0 read.0.1 read.0.2 zero in
    let some : n ≢ 0 = λ none. zero (ap (λ l. get_or l 0 0) (sym is ∙ ap decimal none ∙ decimal_digit 0 (omega arith))) in
    (omega (arith, some), is)
factor_or_none text (Err e) read zero = λ factor some fits is.
    let known = decimal_is_IsNumeral factor (omega arith) in
    let value : digits_value 10 text ≡ factor = ap (digits_value 10) (sym is) ∙ known.1 in
    read (subst (AllDigits 10) is known.0.1, subst (λ l. 0 < length l) is known.0.0, omega (arith, value, fits))

pub parsed_factor : {E : Type 0} (text : List ℕ) (parsed : Result ℕ E) → ParsesUnsigned 8 10 text parsed → starts_with nat_eq text (43 ∷ []) ≡ false
    → starts_with nat_eq text (48 ∷ []) ≡ false → IsFactorOf text (result_ok parsed)
parsed_factor text parsed parses plus zero =
    factor_or_none text parsed (parse_plain (numerals_by_value _ tells_digits) 8 text parsed parses (begins_otherwise 43 text (omega arith) plus))
    (begins_otherwise 48 text (omega arith) zero)
