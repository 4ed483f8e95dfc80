-- Poly1305 (RFC 8439, 2.5), on lists of bytes.
use Rattle.std.specs.Prelude.{ℕ, zero, suc, ◌+◌, ◌-◌, ◌*◌, ◌/◌, ◌%◌, ◌^◌, List, take, drop, length, bit_and}
use Rattle.std.specs.Int.{w128, from_le_bytes, to_le_bytes}

-- the prime, p (2.5)
abbrev pub prime : ℕ
prime = 2 ^ 130 - 5

-- 16 bytes as a number, the low byte first, with 22 of its bits cleared, `clamp` (2.5, 2.5.1)
abbrev pub clamped : List ℕ → ℕ
clamped half = bit_and (from_le_bytes w128 half) 0x0ffffffc0ffffffc0ffffffc0fffffff

-- block i of a text: 16 bytes, and of the last one what is left (2.5)
unfoldable pub text_block : ℕ → List ℕ → List ℕ
text_block i text = take 16 (drop (16 * i) text)

-- how many blocks a text has (2.5.1)
abbrev pub block_count : List ℕ → ℕ
block_count text = (length text + 15) / 16

-- a block of at most 16 bytes as a number, the low byte first, with one bit more beyond its bytes (2.5)
unfoldable pub block_number : List ℕ → ℕ
block_number block = from_le_bytes w128 block + 2 ^ (8 * length block)

-- the accumulator after the first blocks: it begins with 0, each block is added, and the sum is multiplied by r, modulo p (2.5)
unfoldable pub accumulated : ℕ → List ℕ → ℕ → ℕ
accumulated r text zero = 0
accumulated r text (suc count) = ((accumulated r text count + block_number (text_block count text)) * r) % prime

-- the tag of a text under a key of 32 bytes, whose halves are r and s (2.5, 2.5.1)
unfoldable pub poly1305_mac : List ℕ → List ℕ → List ℕ
poly1305_mac key text =
    let r = clamped (take 16 key) in
    let s = from_le_bytes w128 (drop 16 key) in
    to_le_bytes w128 ((accumulated r text (block_count text) + s) % 2 ^ 128)
