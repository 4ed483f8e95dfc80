-- The rounds of ChaCha20 (RFC 8439, 2.1 to 2.3). A word is a number below 2 ^ 32, a state sixteen words, four in a row.
use Rattle.std.specs.Prelude.{ℕ, zero, suc, ◌+◌, ◌%◌, ◌^◌, List, bit_xor, slice_index, slice_set}
use Rattle.std.specs.Int.{w32, rotate_left}

-- a + b: the sum of two words without its carry (2.1)
abbrev pub word_sum : ℕ → ℕ → ℕ
word_sum a b = (a + b) % 2 ^ 32

-- d ^= a; d <<<= n: exclusive or, and then a rotation to the left by n bits (2.1)
abbrev pub xor_rotate : ℕ → ℕ → ℕ → ℕ
xor_rotate d a n = rotate_left w32 (bit_xor d a) n

-- the quarter round on four words (2.1)
unfoldable pub quarter_round : ℕ → ℕ → ℕ → ℕ → ℕ × ℕ × ℕ × ℕ
quarter_round a0 b0 c0 d0 =
    let a1 = word_sum a0 b0 in
    let d1 = xor_rotate d0 a1 16 in
    let c1 = word_sum c0 d1 in
    let b1 = xor_rotate b0 c1 12 in
    let a2 = word_sum a1 b1 in
    let d2 = xor_rotate d1 a2 8 in
    let c2 = word_sum c1 d2 in
    let b2 = xor_rotate b1 c2 7 in
    (a2, b2, c2, d2)

-- the quarter round on the words of a state at places x, y, z and w: the other words stay (2.2)
abbrev pub quarter_round_on : List ℕ → ℕ → ℕ → ℕ → ℕ → List ℕ
quarter_round_on state x y z w =
    let q = quarter_round (slice_index state x) (slice_index state y) (slice_index state z) (slice_index state w) in
    slice_set (slice_set (slice_set (slice_set state x q.0) y q.1) z q.2) w q.3

-- a column round: the quarter round on each column (2.3)
unfoldable pub column_round : List ℕ → List ℕ
column_round state =
    let state1 = quarter_round_on state 0 4 8 12 in
    let state2 = quarter_round_on state1 1 5 9 13 in
    let state3 = quarter_round_on state2 2 6 10 14 in
    quarter_round_on state3 3 7 11 15

-- a diagonal round: the quarter round on each diagonal (2.3)
unfoldable pub diagonal_round : List ℕ → List ℕ
diagonal_round state =
    let state1 = quarter_round_on state 0 5 10 15 in
    let state2 = quarter_round_on state1 1 6 11 12 in
    let state3 = quarter_round_on state2 2 7 8 13 in
    quarter_round_on state3 3 4 9 14

-- a column round and then a diagonal round, `inner_block` of the RFC (2.3.1)
abbrev pub double_round : List ℕ → List ℕ
double_round state = diagonal_round (column_round state)

-- the state after this many double rounds
unfoldable pub double_rounds : ℕ → List ℕ → List ℕ
double_rounds zero state = state
double_rounds (suc count) state = double_round (double_rounds count state)
