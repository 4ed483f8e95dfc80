-- Base64 and decimals are strings of the format, and so a stanza of them is made.
use Rattle.std.proofs.Common.{◌≡◌, ◌≢◌, ◌∙◌, ℕ, ◌^◌, ◌<◌, ◌≤◌, List, [], ◌∷◌, ◌++◌, length, map, arith, ap, refl, true}
use Rattle.std.specs.Fmt.{decimal}
use Rattle.std.specs.List.{AllByRecursion}
use Rattle.std.specs.Str.Parse.{AllDigits}
use Rattle.std.proofs.lemmas.Fmt.{decimal_is_IsNumeral}
use Rattle.std.proofs.lemmas.Str.Parse.{digit_from_value}
use Rattle.age_error.specs.Bytes.{AreBytesOf}
use Rattle.age_base64.specs.Base64.{columns}
use Rattle.age_base64.proofs.Columns.{IsSymbol, columns_symbols, length-columns}
use Rattle.age_v1.specs.Stanza.{IsGraphic, IsString, is_string_of, StanzaValue}
use Rattle.age_v1.proofs.Strings.{string_tested}

graphic : (xs : List ℕ) → AllByRecursion IsSymbol xs → AllByRecursion IsGraphic xs
graphic [] h = tt
graphic (x ∷ xs) h = ((omega (arith, h.0), omega (arith, h.0)), graphic xs h.1)

-- the base64 of some bytes
columns-string : (n : ℕ) (bytes : List ℕ) → 1 ≤ n → AreBytesOf n bytes → IsString (columns bytes)
columns-string n bytes more h =
    let size = length-columns bytes in
    let some : columns bytes ≢ [] = λ e. let none : length (columns bytes) ≡ 0 = ap length e in omega (arith, size, h.len, none, more) in
    (some, graphic (columns bytes) (columns_symbols bytes h.bytes))

-- so it passes the test on strings
pub columns-tested : (n : ℕ) (bytes : List ℕ) → 1 ≤ n → AreBytesOf n bytes → is_string_of (columns bytes) ≡ true
columns-tested n bytes more h = (string_tested (columns bytes)).1 (columns-string n bytes more h)

graphic_digits : (ds : List ℕ) → AllDigits 10 ds → AllByRecursion IsGraphic ds
graphic_digits [] d = tt
graphic_digits (c ∷ cs) d = let digit = digit_from_value c d.0 in ((omega (arith, digit), omega (arith, digit)), graphic_digits cs d.1)

-- a decimal
decimal-string : (n : ℕ) → n < 2 ^ 8 → IsString (decimal n)
decimal-string n fits =
    let is = decimal_is_IsNumeral n (omega arith) in
    let some : decimal n ≢ [] = λ e. let none : length (decimal n) ≡ 0 = ap length e in omega (arith, is.0.0, none) in
    (some, graphic_digits (decimal n) is.0.1)

-- one argument
pub one_argument : {A : Type 0} (f : A → List ℕ) (items before : List A) (x : A) (text : List ℕ) → items ≡ before ++ x ∷ [] → before ≡ [] → f x ≡ text
    → map f items ≡ text ∷ []
one_argument f items before x text e none is = rw (e, none) (ap (λ a. a ∷ []) is)

-- two arguments
pub two_arguments : {A : Type 0} (f : A → List ℕ) (items one before : List A) (x y : A) (text more : List ℕ) → items ≡ one ++ y ∷ []
    → one ≡ before ++ x ∷ []
    → before ≡ [] → f x ≡ text → f y ≡ more → map f items ≡ text ∷ more ∷ []
two_arguments f items one before x y text more second first none is too =
    rw (second, first, none) (ap (λ a. a ∷ f y ∷ []) is ∙ ap (λ b. text ∷ b ∷ []) too)

-- the argument of a share is a string, and so are those of a salt and a work factor
pub share-strings : (share : List ℕ) (args : List (List ℕ)) → AreBytesOf 32 share → args ≡ columns share ∷ [] → AllByRecursion IsString args
share-strings share args bytes are = rw are (columns-string 32 share (omega arith) bytes, tt)

pub stretching-strings : (salt : List ℕ) (factor : ℕ) (args : List (List ℕ)) → AreBytesOf 16 salt → factor < 2 ^ 8
    → args ≡ columns salt ∷ decimal factor ∷ []
    → AllByRecursion IsString args
stretching-strings salt factor args bytes fits are = rw are (columns-string 16 salt (omega arith) bytes, (decimal-string factor fits, tt))

-- a stanza that was made is this one
pub sealed_is : (s : StanzaValue) (given tag body sealed : List ℕ) (args : List (List ℕ)) → s ≡ record { tag = given; args = args; body = body }
    → given ≡ tag → body ≡ sealed → s ≡ record { tag = tag; args = args; body = sealed }
sealed_is s given tag body sealed args e is sealed_so = rw (e, is, sealed_so) refl
