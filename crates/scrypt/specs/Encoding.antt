-- Blocks of sixteen words as 64 bytes, and bytes as blocks: each word has its low byte first (RFC 7914, 3).
use Rattle.std.specs.Prelude.{ℕ, zero, suc, ◌+◌, ◌*◌, List, [], ◌∷◌, ◌++◌, take, drop, slice_index}
use Rattle.std.specs.Int.{w32, from_le_bytes, to_le_bytes}
use Rattle.std.specs.List.{flat_map}

-- word i of these bytes
abbrev pub word : List ℕ → ℕ → ℕ
word bytes i =
    from_le_bytes w32
    (slice_index bytes (4 * i) ∷ slice_index bytes (4 * i + 1) ∷ slice_index bytes (4 * i + 2) ∷ slice_index bytes (4 * i + 3) ∷ [])

-- the first `count` words of these bytes
unfoldable pub words : List ℕ → ℕ → List ℕ
words bytes zero = []
words bytes (suc count) = words bytes count ++ word bytes count ∷ []

-- the first `count` blocks of these bytes
unfoldable pub blocks : List ℕ → ℕ → List (List ℕ)
blocks bytes zero = []
blocks bytes (suc count) = blocks bytes count ++ words (take 64 (drop (64 * count) bytes)) 16 ∷ []

-- the bytes of a block
abbrev pub block_bytes : List ℕ → List ℕ
block_bytes block = flat_map (to_le_bytes w32) block

-- the bytes of blocks, one after another
abbrev pub blocks_bytes : List (List ℕ) → List ℕ
blocks_bytes b = flat_map block_bytes b
