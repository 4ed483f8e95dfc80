-- The words and the bytes of a block, place by place.
use Rattle.std.proofs.Common.{◌≡◌, ℕ, zero, suc, ◌+◌, ◌*◌, ◌/◌, ◌%◌, ◌^◌, ◌<◌, List, [], ◌∷◌, length, take, get_or, refl, ap, sym, arith, ◌∙◌, length-append}
use Rattle.std.proofs.lemmas.List.{length-set, length-take-le}
use Rattle.std.proofs.lemmas.List.Concat.{get_or-flat_map}
use Rattle.std.specs.Int.{w32, to_le_bytes}
use Rattle.std.specs.Prelude.{slice_index}
use Rattle.chacha20.specs.Rounds.{word_sum, column_round, diagonal_round, double_rounds}
use Rattle.chacha20.specs.Block.{initial_state, added, block_words, serialized, chacha20_block}
use Rattle.chacha20.specs.Encryption.{keystream_byte}

-- a sum at a place
pub get_or-added : (xs ys : List ℕ) (i : ℕ) → i < length xs → length xs ≡ length ys
    → get_or (added xs ys) i 0 ≡ word_sum (get_or xs i 0) (get_or ys i 0)
unfolding added
get_or-added [] ys i h e = absurd (omega arith)
get_or-added (x ∷ xs) [] i h e = absurd (omega arith)
get_or-added (x ∷ xs) (y ∷ ys) zero h e = refl
get_or-added (x ∷ xs) (y ∷ ys) (suc i) h e = get_or-added xs ys i (omega arith) (omega arith)

pub length-added : (xs ys : List ℕ) → length xs ≡ length ys → length (added xs ys) ≡ length xs
unfolding added
length-added [] ys e = refl
length-added (x ∷ xs) [] e = absurd (omega arith)
length-added (x ∷ xs) (y ∷ ys) e = ap suc (length-added xs ys (omega arith))

pub length-serialized : (words : List ℕ) → length (serialized words) ≡ 4 * length words
length-serialized [] = refl
length-serialized (word ∷ words) =
    let rest = length-serialized words in
    rw length-append (omega (arith, rest))

length-column_round : (state : List ℕ) → length (column_round state) ≡ length state
unfolding column_round
length-column_round state = simp length-set

length-diagonal_round : (state : List ℕ) → length (diagonal_round state) ≡ length state
unfolding diagonal_round
length-diagonal_round state = simp length-set

length-double_rounds : (count : ℕ) (state : List ℕ) → length (double_rounds count state) ≡ length state
unfolding double_rounds
length-double_rounds zero state = refl
length-double_rounds (suc count) state =
    let before = double_rounds count state in
    length-diagonal_round (column_round before) ∙ length-column_round before ∙ length-double_rounds count state

length-initial_state : (key : List ℕ) (counter : ℕ) (nonce : List ℕ) → length (initial_state key counter nonce) ≡ 16
unfolding initial_state
length-initial_state key counter nonce = refl

pub length-block_words : (key : List ℕ) (counter : ℕ) (nonce : List ℕ) → length (block_words key counter nonce) ≡ 16
unfolding block_words
length-block_words key counter nonce =
    let initial = initial_state key counter nonce in
    length-added (double_rounds 10 initial) initial (length-double_rounds 10 initial)
    ∙ length-double_rounds 10 initial ∙ length-initial_state key counter nonce

-- a word of a block
pub block_words-at : (key : List ℕ) (counter : ℕ) (nonce after initial : List ℕ) (k : ℕ) → k < 16
    → initial ≡ initial_state key counter nonce → after ≡ double_rounds 10 initial
    → word_sum (get_or after k 0) (get_or initial k 0) ≡ get_or (block_words key counter nonce) k 0
unfolding block_words
block_words-at key counter nonce after initial k h first last =
    let long : length initial ≡ 16 = ap length first ∙ length-initial_state key counter nonce in
    let kept : length after ≡ length initial = ap length last ∙ length-double_rounds 10 initial in
    let e = sym (get_or-added after initial k (omega arith) kept) in
    e ∙ ap (λ s. get_or (added s initial) k 0) last ∙ ap (λ s. get_or (added (double_rounds 10 s) s) k 0) first

-- a byte of a word
get_or-serialized : (words : List ℕ) (k b : ℕ) → k < length words → b < 4
    → get_or (serialized words) (4 * k + b) 0 ≡ get_or (to_le_bytes w32 (get_or words k 0)) b 0
get_or-serialized words k b h l =
    let front : length (serialized (take k words)) ≡ 4 * k
    = length-serialized (take k words) ∙ ap (λ n. 4 * n) (length-take-le k words (omega arith)) in
    let four : length (to_le_bytes w32 (get_or words k 0)) ≡ 4 = refl in
    let e = get_or-flat_map (to_le_bytes w32) words k b 0 0 h (omega arith) in
    rw front at e

-- a byte of the key stream is a byte of a word of its block
pub keystream_byte-at : (key : List ℕ) (counter : ℕ) (nonce : List ℕ) (m j k i : ℕ) → k < 16 → m ≡ 64 * j + 4 * k + i % 4
    → slice_index (to_le_bytes w32 (slice_index (block_words key ((counter + j) % 2 ^ 32) nonce) k)) (i % 4) ≡ keystream_byte key counter nonce m
unfolding chacha20_block
keystream_byte-at key counter nonce m j k i h e =
    let block = block_words key ((counter + j) % 2 ^ 32) nonce in
    let number : m / 64 ≡ j = omega arith in
    let place : m % 64 ≡ 4 * k + i % 4 = omega arith in
    sym (
    ap (λ n. get_or (serialized (block_words key ((counter + n) % 2 ^ 32) nonce)) (m % 64) 0) number
    ∙ ap (λ p. get_or (serialized block) p 0) place
    ∙ get_or-serialized block k (i % 4) (omega (arith, length-block_words key ((counter + j) % 2 ^ 32) nonce)) (omega arith))
