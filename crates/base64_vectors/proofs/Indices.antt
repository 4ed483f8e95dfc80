-- The indices of bytes, lane by lane.
use Rattle.std.proofs.Common.{◌≡◌, ◌∙◌, ap, refl, arith, lit<, ℕ, zero, suc, ◌+◌, ◌*◌, ◌/◌, ◌%◌, ◌^◌, ◌<◌, List, [], ◌∷◌, ◌++◌, length, take, get_or, replicate, bit_and}
use Rattle.std.proofs.Math.Nat.{div-le_self}
use native.Mathlib.Nat.{pow-zero}
use Rattle.std.proofs.lemmas.Nat.{and_mask, mod_below}
use Rattle.std.proofs.lemmas.List.{get_or_append_left, get_or-append-add}
use Rattle.std.proofs.lemmas.Simd.{get_or-zip2, length-zip2, get_or_narrower, get_or_wider, Each1-from_get_or, pick_l_left, pick_l-range_with_len}
use lib.Lanes.{Each1, zip2, chunk, digits_l, number_l, pick_l}
use Rattle.base64_vectors.specs.Vectors.{indices}

-- the bytes of each word, the second first
abbrev pair_places : List ℕ
pair_places = 1 ∷ 0 ∷ 2 ∷ 1 ∷ 4 ∷ 3 ∷ 5 ∷ 4 ∷ 7 ∷ 6 ∷ 8 ∷ 7 ∷ 10 ∷ 9 ∷ 11 ∷ 10 ∷ []

abbrev down : List ℕ
down = 10 ∷ 6 ∷ 10 ∷ 6 ∷ 10 ∷ 6 ∷ 10 ∷ 6 ∷ []

abbrev up : List ℕ
up = 4 ∷ 8 ∷ 4 ∷ 8 ∷ 4 ∷ 8 ∷ 4 ∷ 8 ∷ []

-- low bytes of one vector and high bytes of another
abbrev turns : List ℕ
turns = 0 ∷ 17 ∷ 2 ∷ 19 ∷ 4 ∷ 21 ∷ 6 ∷ 23 ∷ 8 ∷ 25 ∷ 10 ∷ 27 ∷ 12 ∷ 29 ∷ 14 ∷ 31 ∷ []

abbrev words_of : List ℕ → List ℕ
words_of xs = digits_l (2 ^ 16) 8 (number_l 256 xs)

abbrev bytes_of : List ℕ → List ℕ
bytes_of words = digits_l 256 16 (number_l (2 ^ 16) words)

abbrev lows : List ℕ → List ℕ
lows words = bytes_of (zip2 (λ x k. x / 2 ^ k) words down)

abbrev highs : List ℕ → List ℕ
highs words = bytes_of (zip2 (λ x k. x * 2 ^ k % 2 ^ 16) words up)

digit-below : (p n x k : ℕ) → 0 < p → get_or (digits_l p n x) k 0 < p
digit-below p zero x k h = h
digit-below p (suc n) x zero h = mod_below x p h
digit-below p (suc n) x (suc k) h = digit-below p n (x / p) k h

pub below_at : (xs : List ℕ) → Each1 (λ x. x < 256) xs → (k : ℕ) → get_or xs k 0 < 256
below_at [] h k = lit< tt
below_at (x ∷ xs) h zero = h.0
below_at (x ∷ xs) h (suc k) = below_at xs h.1 k

each-picked : (xs : List ℕ) → Each1 (λ x. x < 256) xs → (ks : List ℕ) → Each1 (λ x. x < 256) (pick_l 0 xs ks)
each-picked xs h [] = tt
each-picked xs h (k ∷ ks) = (below_at xs h k, each-picked xs h ks)

low_byte : (words : List ℕ) → length words ≡ 8 → ((k : ℕ) → get_or words k 0 < 2 ^ 16) → (j : ℕ) → j < 8
    → get_or (lows words) (2 * j + 0) 0 ≡ get_or words j 0 / 2 ^ get_or down j 0 / 256 ^ 0 % 256
low_byte words long fit j h =
    let at : (i : ℕ) → i < 8 → get_or (zip2 (λ x k. x / 2 ^ k) words down) i 0 ≡ get_or words i 0 / 2 ^ get_or down i 0
    = λ i l. get_or-zip2 (λ x k. x / 2 ^ k) words down i 0 0 0 (omega arith) l in
    let size = length-zip2 (λ x k. x / 2 ^ k) words down long ∙ long in
    let fits : Each1 (λ x. x < 2 ^ 16) (zip2 (λ x k. x / 2 ^ k) words down) = Each1-from_get_or (λ x. x < 2 ^ 16) _ 0 (λ i l.
    rw (at i (omega (arith, size))) (omega (arith, div-le_self (get_or words i 0) (2 ^ get_or down i 0), fit i))) in
    get_or_narrower (2 ^ 16) 2 256 16 (zip2 (λ x k. x / 2 ^ k) words down) j 0 refl fits (lit< tt) (omega arith)
    ∙ ap (λ n. n / 256 ^ 0 % 256) (at j h)

high_byte : (words : List ℕ) → length words ≡ 8 → (j : ℕ) → j < 8
    → get_or (highs words) (2 * j + 1) 0 ≡ get_or words j 0 * 2 ^ get_or up j 0 % 2 ^ 16 / 256 ^ 1 % 256
high_byte words long j h =
    let at : (i : ℕ) → i < 8 → get_or (zip2 (λ x k. x * 2 ^ k % 2 ^ 16) words up) i 0 ≡ get_or words i 0 * 2 ^ get_or up i 0 % 2 ^ 16
    = λ i l. get_or-zip2 (λ x k. x * 2 ^ k % 2 ^ 16) words up i 0 0 0 (omega arith) l in
    let size = length-zip2 (λ x k. x * 2 ^ k % 2 ^ 16) words up long ∙ long in
    let fits : Each1 (λ x. x < 2 ^ 16) (zip2 (λ x k. x * 2 ^ k % 2 ^ 16) words up) = Each1-from_get_or (λ x. x < 2 ^ 16) _ 0 (λ i l.
    rw (at i (omega (arith, size))) (mod_below (get_or words i 0 * 2 ^ get_or up i 0) (2 ^ 16) (lit< tt))) in
    get_or_narrower (2 ^ 16) 2 256 16 (zip2 (λ x k. x * 2 ^ k % 2 ^ 16) words up) j 1 refl fits (lit< tt) (omega arith)
    ∙ ap (λ n. n / 256 ^ 1 % 256) (at j h)

-- the indices of three bytes in two words
first_index : (a b : ℕ) → a < 256 → b < 256 → bit_and ((b + 256 * (a + 256 * 0)) / 2 ^ 10 / 256 ^ 0 % 256) 63 ≡ a / 4
first_index a b ha hb =
    let e : (b + 256 * (a + 256 * 0)) / 2 ^ 10 / 1 % 256 % 64 ≡ a / 4 = omega arith in
    and_mask ((b + 256 * (a + 256 * 0)) / 2 ^ 10 / 256 ^ 0 % 256) 6 ∙ ap (λ m. (b + 256 * (a + 256 * 0)) / 2 ^ 10 / m % 256 % 64) (pow-zero 256) ∙ e

second_index : (a b : ℕ) → a < 256 → b < 256 → bit_and ((b + 256 * (a + 256 * 0)) * 2 ^ 4 % 2 ^ 16 / 256 ^ 1 % 256) 63 ≡ a % 4 * 16 + b / 16
second_index a b ha hb =
    let e : (b + 256 * (a + 256 * 0)) * 2 ^ 4 % 2 ^ 16 / 256 % 256 % 64 ≡ a % 4 * 16 + b / 16 = omega arith in
    and_mask ((b + 256 * (a + 256 * 0)) * 2 ^ 4 % 2 ^ 16 / 256 ^ 1 % 256) 6 ∙ e

third_index : (b c : ℕ) → b < 256 → c < 256 → bit_and ((c + 256 * (b + 256 * 0)) / 2 ^ 6 / 256 ^ 0 % 256) 63 ≡ b % 16 * 4 + c / 64
third_index b c hb hc =
    let e : (c + 256 * (b + 256 * 0)) / 2 ^ 6 / 1 % 256 % 64 ≡ b % 16 * 4 + c / 64 = omega arith in
    and_mask ((c + 256 * (b + 256 * 0)) / 2 ^ 6 / 256 ^ 0 % 256) 6 ∙ ap (λ m. (c + 256 * (b + 256 * 0)) / 2 ^ 6 / m % 256 % 64) (pow-zero 256) ∙ e

fourth_index : (b c : ℕ) → b < 256 → c < 256 → bit_and ((c + 256 * (b + 256 * 0)) * 2 ^ 8 % 2 ^ 16 / 256 ^ 1 % 256) 63 ≡ c % 64
fourth_index b c hb hc =
    let e : (c + 256 * (b + 256 * 0)) * 2 ^ 8 % 2 ^ 16 / 256 % 256 % 64 ≡ c % 64 = omega arith in
    and_mask ((c + 256 * (b + 256 * 0)) * 2 ^ 8 % 2 ^ 16 / 256 ^ 1 % 256) 6 ∙ e

module _ (bytes : List ℕ) (long : length bytes ≡ 16) (each : Each1 (λ x. x < 256) bytes) where
  abbrev words : List ℕ
  words = words_of (pick_l 0 bytes pair_places)

  word_at : (j : ℕ) → j < 8 → get_or words j 0 ≡ number_l 256 (chunk (2 * j) 2 (pick_l 0 bytes pair_places))
  word_at j h = get_or_wider 256 2 (2 ^ 16) 8 (pick_l 0 bytes pair_places) j refl (each-picked bytes each pair_places) h

  fit : (k : ℕ) → get_or words k 0 < 2 ^ 16
  fit k = digit-below (2 ^ 16) 8 (number_l 256 (pick_l 0 bytes pair_places)) k (lit< tt)

  -- a lane of the low bytes, and one of the high bytes
  low_lane : (j : ℕ) → j < 8 → bit_and (get_or (lows words ++ highs words) (2 * j + 0) 0) 63
      ≡ bit_and (number_l 256 (chunk (2 * j) 2 (pick_l 0 bytes pair_places)) / 2 ^ get_or down j 0 / 256 ^ 0 % 256) 63
  low_lane j h =
      ap (λ n. bit_and n 63) (get_or_append_left (lows words) (highs words) 0 (2 * j + 0) (omega arith)
      ∙ low_byte words refl fit j h ∙ ap (λ n. n / 2 ^ get_or down j 0 / 256 ^ 0 % 256) (word_at j h))

  high_lane : (j : ℕ) → j < 8 → bit_and (get_or (lows words ++ highs words) (16 + (2 * j + 1)) 0) 63
      ≡ bit_and (number_l 256 (chunk (2 * j) 2 (pick_l 0 bytes pair_places)) * 2 ^ get_or up j 0 % 2 ^ 16 / 256 ^ 1 % 256) 63
  high_lane j h =
      ap (λ n. bit_and n 63) (get_or-append-add (lows words) (highs words) (2 * j + 1) 0
      ∙ high_byte words refl j h ∙ ap (λ n. n * 2 ^ get_or up j 0 % 2 ^ 16 / 256 ^ 1 % 256) (word_at j h))

  byte : (k : ℕ) → get_or bytes k 0 < 256
  byte k = below_at bytes each k

  at : ℕ → ℕ
  at k = get_or bytes k 0

  lanes : zip2 bit_and (pick_l 0 (lows words ++ highs words) turns) (replicate 16 63)
      ≡ indices (pick_l 0 bytes (0 ∷ 1 ∷ 2 ∷ 3 ∷ 4 ∷ 5 ∷ 6 ∷ 7 ∷ 8 ∷ 9 ∷ 10 ∷ 11 ∷ []))
  unfolding indices at
  lanes = λ i.
      (low_lane 0 (lit< tt) ∙ first_index (at 0) (at 1) (byte 0) (byte 1)) i
      ∷ (high_lane 0 (lit< tt) ∙ second_index (at 0) (at 1) (byte 0) (byte 1)) i
      ∷ (low_lane 1 (lit< tt) ∙ third_index (at 1) (at 2) (byte 1) (byte 2)) i
      ∷ (high_lane 1 (lit< tt) ∙ fourth_index (at 1) (at 2) (byte 1) (byte 2)) i
      ∷ (low_lane 2 (lit< tt) ∙ first_index (at 3) (at 4) (byte 3) (byte 4)) i
      ∷ (high_lane 2 (lit< tt) ∙ second_index (at 3) (at 4) (byte 3) (byte 4)) i
      ∷ (low_lane 3 (lit< tt) ∙ third_index (at 4) (at 5) (byte 4) (byte 5)) i
      ∷ (high_lane 3 (lit< tt) ∙ fourth_index (at 4) (at 5) (byte 4) (byte 5)) i
      ∷ (low_lane 4 (lit< tt) ∙ first_index (at 6) (at 7) (byte 6) (byte 7)) i
      ∷ (high_lane 4 (lit< tt) ∙ second_index (at 6) (at 7) (byte 6) (byte 7)) i
      ∷ (low_lane 5 (lit< tt) ∙ third_index (at 7) (at 8) (byte 7) (byte 8)) i
      ∷ (high_lane 5 (lit< tt) ∙ fourth_index (at 7) (at 8) (byte 7) (byte 8)) i
      ∷ (low_lane 6 (lit< tt) ∙ first_index (at 9) (at 10) (byte 9) (byte 10)) i
      ∷ (high_lane 6 (lit< tt) ∙ second_index (at 9) (at 10) (byte 9) (byte 10)) i
      ∷ (low_lane 7 (lit< tt) ∙ third_index (at 10) (at 11) (byte 10) (byte 11)) i
      ∷ (high_lane 7 (lit< tt) ∙ fourth_index (at 10) (at 11) (byte 10) (byte 11)) i
      ∷ []

  pub indices_are : zip2 bit_and (pick_l 0
      (lows (words_of (pick_l 0 (bytes ++ bytes) pair_places)) ++ highs (words_of (pick_l 0 (bytes ++ bytes) pair_places))) turns) (replicate 16 63)
      ≡ indices (take 12 bytes)
  indices_are =
      ap (λ xs. zip2 bit_and (pick_l 0 (lows (words_of xs) ++ highs (words_of xs)) turns) (replicate 16 63))
      (pick_l_left 0 bytes bytes 16 pair_places long tt)
      ∙ lanes ∙ ap indices (pick_l-range_with_len 0 bytes 0 12 (omega arith))
