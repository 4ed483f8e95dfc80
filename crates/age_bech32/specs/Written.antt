-- The text that is written of a prefix and bytes (BIP 173, "Checksum" and "Bech32").
use Rattle.std.specs.Prelude.{ℕ, List, [], ◌∷◌, ◌++◌, map, bit_xor}
use Rattle.age_bech32.specs.Symbols.{has_upper, symbol_in}
use Rattle.age_bech32.specs.Remainder.{remainder, expanded}
use Rattle.age_bech32.specs.Groups.{digits, groups_of_bytes}

-- six values that are zero
abbrev pub zeros : List ℕ
zeros = 0 ∷ 0 ∷ 0 ∷ 0 ∷ 0 ∷ 0 ∷ []

-- the six values of the check of a prefix and groups: the remainder with six zeros after them, with its last bit turned
unfoldable pub check_values : List ℕ → List ℕ → List ℕ
check_values prefix groups = digits 5 6 (bit_xor (remainder (expanded prefix ++ groups ++ zeros)) 1)

-- the values that stand after the separator: the groups and the check
unfoldable pub values_of_bytes : List ℕ → List ℕ → List ℕ
values_of_bytes prefix bytes = groups_of_bytes bytes ++ check_values prefix (groups_of_bytes bytes)

-- the text: the prefix, the separator `1`, and the symbols of the values in the prefix's case
unfoldable pub bech32_text : List ℕ → List ℕ → List ℕ
bech32_text prefix bytes = prefix ++ 49 ∷ map (symbol_in (has_upper prefix)) (values_of_bytes prefix bytes)
