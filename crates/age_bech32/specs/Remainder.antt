-- The remainder of the check over values of five bits (BIP 173, "Checksum").
use Rattle.std.specs.Prelude.{ℕ, ◌*◌, ◌/◌, ◌%◌, ◌^◌, List, [], ◌∷◌, ◌++◌, map, bit_xor}
use Rattle.age_bech32.specs.Symbols.{lowered}

-- the generator where the bit of the top five at this place is set, and 0 elsewhere
abbrev pub chosen : ℕ → ℕ → ℕ → ℕ
chosen top place generator = top / 2 ^ place % 2 * generator

-- the sum of the generators that the top five bits choose
unfoldable pub generated : ℕ → ℕ
generated top = bit_xor (bit_xor (bit_xor (bit_xor (chosen top 0 0x3b6a57b2) (chosen top 1 0x26508e6d)) (chosen top 2 0x1ea119fa))
    (chosen top 3 0x3d4233dd)) (chosen top 4 0x2a1462b3)

-- the remainder with one value more: its low 25 bits move up by five, the value comes below, and what its top five choose is added
unfoldable pub step : ℕ → ℕ → ℕ
step sum value = bit_xor (bit_xor (sum % 2 ^ 25 * 2 ^ 5) value) (generated (sum / 2 ^ 25))

-- the remainder after these values, from that before them
unfoldable pub remainder_after : ℕ → List ℕ → ℕ
remainder_after sum [] = sum
remainder_after sum (value ∷ values) = remainder_after (step sum value) values

-- the remainder of a list of values
abbrev pub remainder : List ℕ → ℕ
remainder values = remainder_after 1 values

-- the values of a prefix in lower case: the high three bits of each byte, a 0, the low five bits of each
unfoldable pub expanded : List ℕ → List ℕ
expanded prefix = map (λ byte. byte / 2 ^ 5) (lowered prefix) ++ 0 ∷ map (λ byte. byte % 2 ^ 5) (lowered prefix)
