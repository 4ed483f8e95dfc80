-- The scryptROMix algorithm (RFC 7914, 5) with a block size parameter r of 8, over B and the CPU and memory cost parameter N.
use Rattle.std.specs.Prelude.{ℕ, zero, suc, ◌+◌, ◌*◌, ◌%◌, ◌^◌, List, [], ◌∷◌}
use Rattle.std.specs.Simd.Lanes.{zip2}
use Rattle.scrypt.specs.BlockMix.{block_xor, block_at, block_mix}

-- X xor V[j]: lists of blocks combined block by block
abbrev pub blocks_xor : List (List ℕ) → List (List ℕ) → List (List ℕ)
blocks_xor = zip2 block_xor

-- words as one number, the low word first
abbrev pub number : List ℕ → ℕ
number [] = 0
number (word ∷ words) = word + 2 ^ 32 * number words

-- Integerify (X): its last block as a number
abbrev pub integerify : List (List ℕ) → ℕ
integerify x = number (block_at x 15)

-- V[i]: B mixed i times. After the N steps of the first loop X is what V[N] would be
unfoldable pub table_entry : List (List ℕ) → ℕ → List (List ℕ)
table_entry b zero = b
table_entry b (suc i) = block_mix (table_entry b i)

-- X after i steps of the second loop
unfoldable pub walked : List (List ℕ) → ℕ → ℕ → List (List ℕ)
walked b n zero = table_entry b n
walked b n (suc i) =
    let x = walked b n i in
    let j = integerify x % n in
    block_mix (blocks_xor x (table_entry b j))

-- B': X after the N steps of the second loop
unfoldable pub rom_mix : List (List ℕ) → ℕ → List (List ℕ)
rom_mix b n = walked b n n
