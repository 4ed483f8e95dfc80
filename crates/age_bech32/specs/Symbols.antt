-- The symbols of Bech32 and the case of letters (BIP 173, "Bech32").
use Rattle.std.specs.Prelude.{◌≡◌, ℕ, suc, ◌<◌, ◌^◌, Bool, List, [], ◌∷◌, ◌⊎◌, true, false, ◌==◌, if◌then◌else◌, codes, map, slice_index, All}
use Rattle.std.specs.Char.{is_ascii_uppercase, is_ascii_lowercase, to_ascii_lowercase, to_ascii_uppercase}
use Rattle.std.specs.List.{list_any}

-- the symbols of the values 0 to 31 in their order
abbrev pub symbols : List ℕ
symbols = codes "qpzry9x8gf2tvdw0s3jn54khce6mua7l"

-- the symbol of a value
unfoldable pub symbol : ℕ → ℕ
symbol value = slice_index symbols value

-- the symbol of a value, in upper case where asked
abbrev pub symbol_in : Bool → ℕ → ℕ
symbol_in true value = to_ascii_uppercase (symbol value)
symbol_in false value = symbol value

-- how many of these stand before it
unfoldable pub symbol_place : ℕ → List ℕ → ℕ
symbol_place byte [] = 0
symbol_place byte (symbol ∷ symbols) = if byte == symbol then 0 else suc (symbol_place byte symbols)

-- the value of a symbol in either case, and 32 where a byte is none
unfoldable pub value_of : ℕ → ℕ
value_of byte = symbol_place (to_ascii_lowercase byte) symbols

-- the values of symbols
abbrev pub values_of : List ℕ → List ℕ
values_of text = map value_of text

-- each byte is a symbol
abbrev pub AreSymbols : List ℕ → Type 0
AreSymbols text = All (λ byte. value_of byte < 2 ^ 5) text

-- a text with each of its letters in lower case
abbrev pub lowered : List ℕ → List ℕ
lowered text = map to_ascii_lowercase text

-- some letter is in upper case
abbrev pub has_upper : List ℕ → Bool
has_upper text = list_any is_ascii_uppercase text

-- some letter is in lower case
abbrev pub has_lower : List ℕ → Bool
has_lower text = list_any is_ascii_lowercase text

-- not both cases stand in one text
abbrev pub IsOneCase : List ℕ → Type 0
IsOneCase text = (has_upper text ≡ false) ⊎ (has_lower text ≡ false)

-- in upper case no letter is in lower case, and the other way round
abbrev pub IsInCase : Bool → List ℕ → Type 0
IsInCase true text = has_lower text ≡ false
IsInCase false text = has_upper text ≡ false
