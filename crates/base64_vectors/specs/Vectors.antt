-- What is done to the lanes of a vector.
use Rattle.std.specs.Prelude.{◌≡◌, ℕ, ◌+◌, ◌*◌, ◌/◌, ◌%◌, ◌^◌, List, [], ◌∷◌, map, slice_index, if◌then◌else◌, ◌==◌, bit_and}
use Rattle.std.specs.Simd.Lanes.{Each1}

-- what stands in a table at each of these places
abbrev pub looked_up : List ℕ → List ℕ → List ℕ
looked_up table places = map (λ place. slice_index table place) places

-- the indices of six bits each that bytes come to, four for three (RFC 4648, section 4)
unfoldable pub indices : List ℕ → List ℕ
indices (a ∷ b ∷ c ∷ rest) = (a / 4) ∷ (a % 4 * 16 + b / 16) ∷ (b % 16 * 4 + c / 64) ∷ (c % 64) ∷ indices rest
indices (a ∷ b ∷ []) = []
indices (a ∷ []) = []
indices [] = []

-- what is wrong with a byte as a symbol, by its low four bits and by its high ones
unfoldable pub fault_of : ℕ → ℕ
fault_of c =
    bit_and (slice_index (0x15 ∷ 0x11 ∷ 0x11 ∷ 0x11 ∷ 0x11 ∷ 0x11 ∷ 0x11 ∷ 0x11 ∷ 0x11 ∷ 0x11 ∷ 0x13 ∷ 0x1a ∷ 0x1b ∷ 0x1b ∷ 0x1b ∷ 0x1a ∷ [])
    (c % 16))
    (slice_index (0x10 ∷ 0x10 ∷ 0x01 ∷ 0x02 ∷ 0x04 ∷ 0x08 ∷ 0x04 ∷ 0x08 ∷ 0x10 ∷ 0x10 ∷ 0x10 ∷ 0x10 ∷ 0x10 ∷ 0x10 ∷ 0x10 ∷ 0x10 ∷ []) (c / 16))

-- nothing is wrong with any of these bytes
abbrev pub IsFaultless : List ℕ → Type 0
IsFaultless columns = Each1 (λ c. fault_of c ≡ 0) columns

-- where a symbol's distance from its index stands
unfoldable pub place_of : ℕ → ℕ
place_of c = if c == 47 then 1 else c / 16

-- the index of a symbol
unfoldable pub index_of : ℕ → ℕ
index_of c = (c + slice_index (0 ∷ 16 ∷ 19 ∷ 4 ∷ 191 ∷ 191 ∷ 185 ∷ 185 ∷ 0 ∷ 0 ∷ 0 ∷ 0 ∷ 0 ∷ 0 ∷ 0 ∷ 0 ∷ []) (place_of c)) % 2 ^ 8
