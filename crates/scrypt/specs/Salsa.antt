-- The Salsa20/8 Core (RFC 7914, 3). A word is a number below 2 ^ 32, a block sixteen words.
use Rattle.std.specs.Prelude.{ℕ, zero, suc, ◌+◌, ◌%◌, ◌^◌, List, bit_xor, slice_index, slice_set}
use Rattle.std.specs.Int.{w32, rotate_left}
use Rattle.std.specs.Simd.Lanes.{zip2}

-- a + b: the sum of two words without its carry
abbrev pub word_sum : ℕ → ℕ → ℕ
word_sum a b = (a + b) % 2 ^ 32

-- x ^ R (a + b, n): exclusive or with a sum that was rotated to the left by n bits
abbrev pub xor_rotated_sum : ℕ → ℕ → ℕ → ℕ → ℕ
xor_rotated_sum x a b n = bit_xor x (rotate_left w32 (word_sum a b) n)

-- four steps of the loop's body, on four words: each is changed by the sum of the two before it, in a circle
unfoldable pub quarter_round : ℕ → ℕ → ℕ → ℕ → ℕ × ℕ × ℕ × ℕ
quarter_round a b c d =
    let b1 = xor_rotated_sum b a d 7 in
    let c1 = xor_rotated_sum c b1 a 9 in
    let d1 = xor_rotated_sum d c1 b1 13 in
    let a1 = xor_rotated_sum a d1 c1 18 in
    (a1, b1, c1, d1)

-- the same on the words x[i], x[j], x[k] and x[l] of a block: the other words stay
abbrev pub quarter_round_on : List ℕ → ℕ → ℕ → ℕ → ℕ → List ℕ
quarter_round_on x i j k l =
    let q = quarter_round (slice_index x i) (slice_index x j) (slice_index x k) (slice_index x l) in
    slice_set (slice_set (slice_set (slice_set x i q.0) j q.1) k q.2) l q.3

-- the first half of the loop's body: four steps on each column
unfoldable pub column_round : List ℕ → List ℕ
column_round x0 =
    let x1 = quarter_round_on x0 0 4 8 12 in
    let x2 = quarter_round_on x1 5 9 13 1 in
    let x3 = quarter_round_on x2 10 14 2 6 in
    quarter_round_on x3 15 3 7 11

-- the second half: four steps on each row
unfoldable pub row_round : List ℕ → List ℕ
row_round x0 =
    let x1 = quarter_round_on x0 0 1 2 3 in
    let x2 = quarter_round_on x1 5 6 7 4 in
    let x3 = quarter_round_on x2 10 11 8 9 in
    quarter_round_on x3 15 12 13 14

-- a block after this many runs of the loop's body
unfoldable pub double_rounds : ℕ → List ℕ → List ℕ
double_rounds zero x = x
double_rounds (suc count) x = row_round (column_round (double_rounds count x))

-- the hash of a block: four runs of the loop's body, which are eight rounds, and then the block itself added word by word
unfoldable pub salsa20_8 : List ℕ → List ℕ
salsa20_8 block = zip2 word_sum (double_rounds 4 block) block
