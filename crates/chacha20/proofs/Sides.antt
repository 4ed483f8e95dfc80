-- Eight states side by side: what an operation on vectors does to the state in one lane.
use Rattle.std.proofs.Common.{◌≡◌, ℕ, zero, suc, ◌+◌, ◌-◌, ◌*◌, ◌/◌, ◌%◌, ◌^◌, ◌<◌, List, [], ◌∷◌, ◌++◌, length, replicate, map, get_or, set, bit_or, bit_xor, refl, ap, sym, arith, lit<, ◌∙◌}
use Rattle.std.proofs.Math.ListN.{get_or-map}
use Rattle.std.proofs.lemmas.List.{map-set, get_or-replicate}
use Rattle.std.proofs.lemmas.Nat.{mod_below, or_shifted, xor_lt}
use Rattle.std.proofs.lemmas.Simd.{get_or-zip2, length-zip2, get_or_narrower, get_or_wider, below_from_Fits, Each1-get_or, Each1-from_get_or, pick_l_left}
use Rattle.std.specs.Prelude.{slice_index}
use Rattle.std.specs.Simd.Lanes.{zip2}
use Rattle.std.specs.Int.{w32, rotate_left, to_le_bytes}
use lib.Lanes.{Each1, chunk, digits_l, number_l, pick_l}
use mir.Val.{Fits}
use native.Mathlib.Nat.{pow-zero, div-one}
use Rattle.chacha20.specs.Rounds.{xor_rotate, quarter_round, quarter_round_on}
use Rattle.chacha20.specs.Lanes.{lane}

-- a vector whose lanes are all one word
pub splat-at : (x j : ℕ) → j < 8 → slice_index (x ∷ x ∷ x ∷ x ∷ x ∷ x ∷ x ∷ x ∷ []) j ≡ x
splat-at x j h = get_or-replicate 8 j x 0 h

-- what holds of each of the eight lanes
pub each_lane : (P : ℕ → Type 0) → P 0 → P 1 → P 2 → P 3 → P 4 → P 5 → P 6 → P 7 → (j : ℕ) → j < 8 → P j
each_lane P p0 p1 p2 p3 p4 p5 p6 p7 zero h = p0
each_lane P p0 p1 p2 p3 p4 p5 p6 p7 (suc zero) h = p1
each_lane P p0 p1 p2 p3 p4 p5 p6 p7 (suc (suc zero)) h = p2
each_lane P p0 p1 p2 p3 p4 p5 p6 p7 (suc (suc (suc zero))) h = p3
each_lane P p0 p1 p2 p3 p4 p5 p6 p7 (suc (suc (suc (suc zero)))) h = p4
each_lane P p0 p1 p2 p3 p4 p5 p6 p7 (suc (suc (suc (suc (suc zero))))) h = p5
each_lane P p0 p1 p2 p3 p4 p5 p6 p7 (suc (suc (suc (suc (suc (suc zero)))))) h = p6
each_lane P p0 p1 p2 p3 p4 p5 p6 p7 (suc (suc (suc (suc (suc (suc (suc zero))))))) h = p7
each_lane P p0 p1 p2 p3 p4 p5 p6 p7 (suc (suc (suc (suc (suc (suc (suc (suc j)))))))) h = absurd (omega arith)

-- two shifts are a rotation
pub shifts_rotate : (d a : List ℕ) (n : ℕ) → 0 < n → n < 32 → length d ≡ 8 → length a ≡ 8 → (j : ℕ) → j < 8
    → slice_index (zip2 bit_or (zip2 (λ x k. x * 2 ^ k % 2 ^ 32) (zip2 bit_xor d a) (replicate 8 n))
    (zip2 (λ x k. x / 2 ^ k) (zip2 bit_xor d a) (replicate 8 (32 - n)))) j
    ≡ xor_rotate (slice_index d j) (slice_index a j) n
shifts_rotate d a n low high ld la j h =
    let word = zip2 bit_xor d a in
    let up = zip2 (λ x k. x * 2 ^ k % 2 ^ 32) word (replicate 8 n) in
    let down = zip2 (λ x k. x / 2 ^ k) word (replicate 8 (32 - n)) in
    let lw : length word ≡ 8 = length-zip2 bit_xor d a (omega arith) ∙ ld in
    let lu : length up ≡ 8 = length-zip2 (λ x k. x * 2 ^ k % 2 ^ 32) word (replicate 8 n) lw ∙ lw in
    let lv : length down ≡ 8 = length-zip2 (λ x k. x / 2 ^ k) word (replicate 8 (32 - n)) lw ∙ lw in
    let left : n % 32 ≡ n = omega arith in
    let right : (32 - n) % 32 ≡ 32 - n = omega arith in
    let e = get_or-zip2 bit_or up down j 0 0 0 (omega arith) (omega arith) in
    let eu = get_or-zip2 (λ x k. x * 2 ^ k % 2 ^ 32) word (replicate 8 n) j 0 0 0 (omega arith) h in
    let ev = get_or-zip2 (λ x k. x / 2 ^ k) word (replicate 8 (32 - n)) j 0 0 0 (omega arith) h in
    let ew = get_or-zip2 bit_xor d a j 0 0 0 (omega arith) (omega arith) in
    let en = get_or-replicate 8 j n 0 h in
    let em = get_or-replicate 8 j (32 - n) 0 h in
    rw (e, eu, ev, ew, en, em, left, right) refl

-- a word of the state in a lane
pub slice_index-lane : (states : List (List ℕ)) (j k : ℕ) → slice_index (lane j states) k ≡ slice_index (get_or states k []) j
slice_index-lane states j k = get_or-map (λ words. slice_index words j) states k []

-- words that are quarter rounds in a lane, written at four places
pub lane-quarter_round_on : (states : List (List ℕ)) (x y z w : ℕ) (q : List ℕ × List ℕ × List ℕ × List ℕ) (j : ℕ)
    → ◌≡◌ {A = ℕ × ℕ × ℕ × ℕ} (slice_index q.0 j, slice_index q.1 j, slice_index q.2 j, slice_index q.3 j)
    (quarter_round (slice_index (get_or states x []) j) (slice_index (get_or states y []) j) (slice_index (get_or states z []) j)
    (slice_index (get_or states w []) j))
    → lane j (set (set (set (set states x q.0) y q.1) z q.2) w q.3) ≡ quarter_round_on (lane j states) x y z w
lane-quarter_round_on states x y z w q j e =
    let words : ◌≡◌ {A = ℕ × ℕ × ℕ × ℕ} (slice_index q.0 j, slice_index q.1 j, slice_index q.2 j, slice_index q.3 j)
    (quarter_round (slice_index (lane j states) x) (slice_index (lane j states) y) (slice_index (lane j states) z) (slice_index (lane j states) w))
    = rw (slice_index-lane states j x, slice_index-lane states j y, slice_index-lane states j z, slice_index-lane states j w) e in
    let f = λ (a : List (List ℕ)). map (λ (v : List ℕ). slice_index v j) a in
    let one = map-set (λ v. slice_index v j) states x q.0 in
    let two = map-set (λ v. slice_index v j) (set states x q.0) y q.1 in
    let three = map-set (λ v. slice_index v j) (set (set states x q.0) y q.1) z q.2 in
    let four = map-set (λ v. slice_index v j) (set (set (set states x q.0) y q.1) z q.2) w q.3 in
    four ∙ ap (λ s. set s w (slice_index q.3 j)) (three ∙ ap (λ s. set s z (slice_index q.2 j)) (two ∙ ap (λ s. set s y (slice_index q.1 j)) one))
    ∙ ap (λ (r : ℕ × ℕ × ℕ × ℕ). set (set (set (set (lane j states) x r.0) y r.1) z r.2) w r.3) words

-- a byte of a word
byte_of : (n b : ℕ) → b < 4 → n / 256 ^ b % 256 ≡ slice_index (to_le_bytes w32 n) b
byte_of n zero h = ap (λ m. n / m % 256) (pow-zero 256) ∙ ap (λ m. m % 256) (div-one n)
byte_of n (suc zero) h = refl
byte_of n (suc (suc zero)) h = refl
byte_of n (suc (suc (suc zero))) h = refl
byte_of n (suc (suc (suc (suc b)))) h = absurd (omega arith)

-- the bytes of a vector of words
pub narrower : (words : List ℕ) → Each1 (Fits w32) words → (i : ℕ) → i < 32
    → slice_index (digits_l 256 32 (number_l (2 ^ 32) words)) i ≡ slice_index (to_le_bytes w32 (slice_index words (i / 4))) (i % 4)
narrower words fits i h =
    let place : 4 * (i / 4) + i % 4 ≡ i = omega arith in
    let below : i % 4 < 4 = omega arith in
    let within : 4 * (i / 4) + i % 4 < 32 = omega arith in
    ap (λ p. get_or (digits_l 256 32 (number_l (2 ^ 32) words)) p 0) (sym place)
    ∙ get_or_narrower (2 ^ 32) 4 256 32 words (i / 4) (i % 4) refl (below_from_Fits w32 words fits) below within
    ∙ byte_of (slice_index words (i / 4)) (i % 4) below

-- what holds of each item holds of those that are picked
each-picked : (P : ℕ → Type 0) (xs : List ℕ) → ((k : ℕ) → P (get_or xs k 0)) → (ks : List ℕ) → Each1 P (pick_l 0 xs ks)
each-picked P xs each [] = tt
each-picked P xs each (k ∷ ks) = (each k, each-picked P xs each ks)

-- a digit is below its base
digit-below : (p n x k : ℕ) → 0 < p → get_or (digits_l p n x) k 0 < p
digit-below p zero x k h = h
digit-below p (suc n) x zero h = mod_below x p h
digit-below p (suc n) x (suc k) h = digit-below p n (x / p) k h

-- where the bytes of each word stand, the last before the others
abbrev turned_places : List ℕ
turned_places =
    3 ∷ 0 ∷ 1 ∷ 2 ∷ 7 ∷ 4 ∷ 5 ∷ 6 ∷ 11 ∷ 8 ∷ 9 ∷ 10 ∷ 15 ∷ 12 ∷ 13 ∷ 14
    ∷ 19 ∷ 16 ∷ 17 ∷ 18 ∷ 23 ∷ 20 ∷ 21 ∷ 22 ∷ 27 ∷ 24 ∷ 25 ∷ 26 ∷ 31 ∷ 28 ∷ 29 ∷ 30 ∷ []

-- the last byte of a word put before the others is a rotation by 8 bits
turned_word : (n : ℕ) → n < 2 ^ 32
    → n / 256 ^ 3 % 256 + 256 * (n / 256 ^ 0 % 256 + 256 * (n / 256 ^ 1 % 256 + 256 * (n / 256 ^ 2 % 256 + 256 * 0))) ≡ rotate_left w32 n 8
turned_word n h =
    let up : n * 2 ^ 8 % 2 ^ 32 ≡ n % 2 ^ 24 * 2 ^ 8 = omega arith in
    let whole : n / 256 ^ 3 % 256 + 256 * (n / 1 % 256 + 256 * (n / 256 ^ 1 % 256 + 256 * (n / 256 ^ 2 % 256 + 256 * 0)))
    ≡ n % 2 ^ 24 * 2 ^ 8 + n / 2 ^ 24 = omega arith in
    ap (λ m. n / 256 ^ 3 % 256 + 256 * (n / m % 256 + 256 * (n / 256 ^ 1 % 256 + 256 * (n / 256 ^ 2 % 256 + 256 * 0)))) (pow-zero 256)
    ∙ whole ∙ sym (or_shifted (n % 2 ^ 24) 8 (n / 2 ^ 24) (omega arith)) ∙ ap (λ m. bit_or m (n / 2 ^ 24)) (sym up)

-- the words of bytes of which the last of each four stands before the others
lane_of_turned : (bytes : List ℕ) → ((k : ℕ) → get_or bytes k 0 < 256) → (j : ℕ) → j < 8
    → slice_index (digits_l (2 ^ 32) 8 (number_l 256 (pick_l 0 bytes turned_places))) j
    ≡ get_or bytes (4 * j + 3) 0 + 256 * (get_or bytes (4 * j + 0) 0 + 256
    * (get_or bytes (4 * j + 1) 0 + 256 * (get_or bytes (4 * j + 2) 0 + 256 * 0)))
lane_of_turned bytes below j h =
    get_or_wider 256 4 (2 ^ 32) 8 (pick_l 0 bytes turned_places) j refl (each-picked (λ x. x < 256) bytes below turned_places) h
    ∙ each_lane (λ j. number_l 256 (chunk (4 * j) 4 (pick_l 0 bytes turned_places))
    ≡ get_or bytes (4 * j + 3) 0 + 256 * (get_or bytes (4 * j + 0) 0 + 256
    * (get_or bytes (4 * j + 1) 0 + 256 * (get_or bytes (4 * j + 2) 0 + 256 * 0))))
    refl refl refl refl refl refl refl refl j h

-- a shuffle of bytes is a rotation by 8 bits
turned_words : (words : List ℕ) → length words ≡ 8 → Each1 (λ x. x < 2 ^ 32) words → (j : ℕ) → j < 8
    → slice_index (digits_l (2 ^ 32) 8 (number_l 256 (pick_l 0 (digits_l 256 32 (number_l (2 ^ 32) words)) turned_places))) j
    ≡ rotate_left w32 (get_or words j 0) 8
turned_words words size fit j h =
    let bytes = digits_l 256 32 (number_l (2 ^ 32) words) in
    let byte : (i : ℕ) → i < 4 → get_or bytes (4 * j + i) 0 ≡ get_or words j 0 / 256 ^ i % 256
    = λ i small. get_or_narrower (2 ^ 32) 4 256 32 words j i refl fit small (omega arith) in
    let n = get_or words j 0 in
    let four : get_or bytes (4 * j + 3) 0 + 256
    * (get_or bytes (4 * j + 0) 0 + 256 * (get_or bytes (4 * j + 1) 0 + 256 * (get_or bytes (4 * j + 2) 0 + 256 * 0)))
    ≡ n / 256 ^ 3 % 256 + 256 * (n / 256 ^ 0 % 256 + 256 * (n / 256 ^ 1 % 256 + 256 * (n / 256 ^ 2 % 256 + 256 * 0)))
    = rw (byte 3 (lit< tt), byte 0 (lit< tt), byte 1 (lit< tt), byte 2 (lit< tt)) refl in
    lane_of_turned bytes (λ k. digit-below 256 32 (number_l (2 ^ 32) words) k (lit< tt)) j h
    ∙ four ∙ turned_word n (Each1-get_or (λ x. x < 2 ^ 32) words j 0 (omega arith) fit)

pub bytes_rotate : (d a : List ℕ) → length d ≡ 8 → length a ≡ 8 → Each1 (Fits w32) d → Each1 (Fits w32) a → (j : ℕ) → j < 8
    → slice_index (digits_l (2 ^ 32) 8 (number_l 256 (pick_l 0 (digits_l 256 32 (number_l (2 ^ 32) (zip2 bit_xor d a))
    ++ digits_l 256 32 (number_l (2 ^ 32) (zip2 bit_xor d a))) turned_places))) j
    ≡ xor_rotate (slice_index d j) (slice_index a j) 8
bytes_rotate d a ld la fits_d fits_a j h =
    let words = zip2 bit_xor d a in
    let bytes = digits_l 256 32 (number_l (2 ^ 32) words) in
    let size : length words ≡ 8 = length-zip2 bit_xor d a (omega arith) ∙ ld in
    let at : (i : ℕ) → i < 8 → get_or words i 0 ≡ bit_xor (get_or d i 0) (get_or a i 0)
    = λ i small. get_or-zip2 bit_xor d a i 0 0 0 (omega arith) (omega arith) in
    let fit : Each1 (λ x. x < 2 ^ 32) words = Each1-from_get_or (λ x. x < 2 ^ 32) words 0 (λ i small.
    rw (at i (omega arith)) (xor_lt 32 (get_or d i 0) (get_or a i 0)
    (Each1-get_or (λ x. x < 2 ^ 32) d i 0 (omega arith) (below_from_Fits w32 d fits_d))
    (Each1-get_or (λ x. x < 2 ^ 32) a i 0 (omega arith) (below_from_Fits w32 a fits_a)))) in
    ap (λ xs. slice_index (digits_l (2 ^ 32) 8 (number_l 256 xs)) j) (pick_l_left 0 bytes bytes 32 turned_places refl tt)
    ∙ turned_words words size fit j h
    ∙ ap (λ n. rotate_left w32 n 8) (at j h)

-- a lane of eight vectors
abbrev pub column : List (List ℕ) → ℕ → List ℕ
column columns j =
    slice_index (get_or columns 0 []) j ∷ slice_index (get_or columns 1 []) j ∷ slice_index (get_or columns 2 []) j
    ∷ slice_index (get_or columns 3 []) j
    ∷ slice_index (get_or columns 4 []) j ∷ slice_index (get_or columns 5 []) j ∷ slice_index (get_or columns 6 []) j
    ∷ slice_index (get_or columns 7 []) j ∷ []

pub column-at : (columns : List (List ℕ)) (j k : ℕ) → k < 8 → slice_index (column columns j) k ≡ slice_index (get_or columns k []) j
column-at columns j k h = each_lane (λ k. slice_index (column columns j) k ≡ slice_index (get_or columns k []) j) refl refl refl refl refl refl
    refl refl k h

-- eight vectors and eight more
abbrev pub joined : List (List ℕ) → List (List ℕ) → List (List ℕ)
joined fronts backs =
    get_or fronts 0 [] ∷ get_or fronts 1 [] ∷ get_or fronts 2 [] ∷ get_or fronts 3 [] ∷ get_or fronts 4 [] ∷ get_or fronts 5 []
    ∷ get_or fronts 6 [] ∷ get_or fronts 7 []
    ∷ get_or backs 0 [] ∷ get_or backs 1 [] ∷ get_or backs 2 [] ∷ get_or backs 3 [] ∷ get_or backs 4 [] ∷ get_or backs 5 [] ∷ get_or backs 6 []
    ∷ get_or backs 7 [] ∷ []

pub front_of : (fronts backs : List (List ℕ)) (j k : ℕ) → j < 8 → slice_index (lane k (joined fronts backs)) j ≡ slice_index (lane k fronts) j
front_of fronts backs j k h =
    rw (slice_index-lane fronts k j) (each_lane (λ j. slice_index (lane k (joined fronts backs)) j ≡ slice_index (get_or fronts j []) k)
    refl refl refl refl refl refl refl refl j h)

pub back_of : (fronts backs : List (List ℕ)) (j k : ℕ) → j < 8 → slice_index (lane k (joined fronts backs)) (8 + j) ≡ slice_index (lane k backs) j
back_of fronts backs j k h =
    rw (slice_index-lane backs k j) (each_lane (λ j. slice_index (lane k (joined fronts backs)) (8 + j) ≡ slice_index (get_or backs j []) k)
    refl refl refl refl refl refl refl refl j h)
