-- Indices joined to groups, and the bytes of groups, lane by lane.
use Rattle.std.proofs.Common.{◌≡◌, ◌∙◌, ap, sym, refl, arith, lit<, ℕ, zero, suc, ◌+◌, ◌-◌, ◌*◌, ◌/◌, ◌%◌, ◌^◌, ◌<◌, ◌≤◌, List, [], ◌∷◌, ◌++◌, length, take, get_or, replicate, bit_and}
use native.Mathlib.Nat.{pow-zero, pow-suc, div-one}
use Rattle.std.proofs.lemmas.Nat.{and_mask}
use Rattle.std.proofs.lemmas.List.{take_all}
use Rattle.std.proofs.lemmas.Simd.{get_or-zip2, length-zip2, get_or-replicate, length-replicate, get_or_narrower, get_or_wider, Each1-get_or, pick_l_left, pick_l-range_with_len}
use lib.Lanes.{Each1, zip2, chunk, digits_l, number_l, pick_l}
use Rattle.std.specs.Prelude.{slice_index}
use Rattle.base64_vectors.specs.Vectors.{indices}

-- two neighbours
two_of : (p : ℕ) (xs : List ℕ) (i : ℕ) → i + 2 ≤ length xs → number_l p (chunk i 2 xs) ≡ get_or xs i 0 + p * (get_or xs (i + 1) 0 + p * 0)
two_of p xs i fits = ap (number_l p) (sym (pick_l-range_with_len 0 xs i 2 fits))

-- the sum of a lane's low half, shifted, and its high half, at halves of k bits and a shift by s
abbrev summed : ℕ → ℕ → ℕ → ℕ → List ℕ → List ℕ
summed n size half s words =
    zip2 (λ a b. (a + b) % 2 ^ size) (zip2 (λ x k. x * 2 ^ k % 2 ^ size) (zip2 bit_and words (replicate n (2 ^ half - 1))) (replicate n s))
    (zip2 (λ x k. x / 2 ^ k) words (replicate n half))

summed-at : (n size half s : ℕ) (words : List ℕ) (j : ℕ) → length words ≡ n → j < n
    → get_or (summed n size half s words) j 0 ≡ (get_or words j 0 % 2 ^ half * 2 ^ s % 2 ^ size + get_or words j 0 / 2 ^ half) % 2 ^ size
summed-at n size half s words j long h =
    let mask = replicate n (2 ^ half - 1) in
    let low = zip2 bit_and words mask in
    let up = zip2 (λ x k. x * 2 ^ k % 2 ^ size) low (replicate n s) in
    let down = zip2 (λ x k. x / 2 ^ k) words (replicate n half) in
    let l1 : length low ≡ n = length-zip2 bit_and words mask (long ∙ sym (length-replicate n (2 ^ half - 1))) ∙ long in
    let l2 : length up ≡ n = length-zip2 (λ x k. x * 2 ^ k % 2 ^ size) low (replicate n s) (l1 ∙ sym (length-replicate n s)) ∙ l1 in
    let l3 : length down ≡ n = length-zip2 (λ x k. x / 2 ^ k) words (replicate n half) (long ∙ sym (length-replicate n half)) ∙ long in
    let e = get_or-zip2 (λ a b. (a + b) % 2 ^ size) up down j 0 0 0 (omega (arith, l2)) (omega (arith, l3)) in
    let eu = get_or-zip2 (λ x k. x * 2 ^ k % 2 ^ size) low (replicate n s) j 0 0 0 (omega (arith, l1)) (omega (arith, length-replicate n s)) in
    let ed = get_or-zip2 (λ x k. x / 2 ^ k) words (replicate n half) j 0 0 0 (omega (arith, long)) (omega (arith, length-replicate n half)) in
    let el = get_or-zip2 bit_and words mask j 0 0 0 (omega (arith, long)) (omega (arith, length-replicate n (2 ^ half - 1))) in
    let em = get_or-replicate n j (2 ^ half - 1) 0 h in
    let es = get_or-replicate n j s 0 h in
    let eh = get_or-replicate n j half 0 h in
    let masked : get_or low j 0 ≡ get_or words j 0 % 2 ^ half = el ∙ ap (λ m. bit_and (get_or words j 0) m) em ∙ and_mask (get_or words j 0) half in
    e ∙ (λ i. (eu i + ed i) % 2 ^ size) ∙ (λ i. (masked i * 2 ^ es i % 2 ^ size + get_or words j 0 / 2 ^ eh i) % 2 ^ size)

pub pairs_are : (xs : List ℕ) → length xs ≡ 16 → Each1 (λ x. x < 256) xs → Each1 (λ index. index < 64) xs → (j : ℕ) → j < 8
    → slice_index (summed 8 16 8 6 (digits_l (2 ^ 16) 8 (number_l 256 xs))) j ≡ 64 * slice_index xs (2 * j) + slice_index xs (2 * j + 1)
pairs_are xs long fits small j h =
    let words = digits_l (2 ^ 16) 8 (number_l 256 xs) in
    let v = get_or xs (2 * j) 0 in
    let w = get_or xs (2 * j + 1) 0 in
    let hv : v < 64 = Each1-get_or (λ index. index < 64) xs (2 * j) 0 (omega (arith, long)) small in
    let hw : w < 64 = Each1-get_or (λ index. index < 64) xs (2 * j + 1) 0 (omega (arith, long)) small in
    let is : get_or words j 0 ≡ v + 256 * (w + 256 * 0) =
    get_or_wider 256 2 (2 ^ 16) 8 xs j refl fits h ∙ two_of 256 xs (2 * j) (omega (arith, long)) in
    summed-at 8 16 8 6 words j refl h ∙ ap (λ n. (n % 2 ^ 8 * 2 ^ 6 % 2 ^ 16 + n / 2 ^ 8) % 2 ^ 16) is ∙ omega (arith, hv, hw)

-- a number's digits have its value
number_of_digits : (n x : ℕ) → x < 256 ^ n → number_l 256 (digits_l 256 n x) ≡ x
number_of_digits zero x h = let none : x < 1 = rw (pow-zero 256) at h in omega (arith, none)
number_of_digits (suc n) x h =
    let below : x < 256 ^ n * 256 = rw (pow-suc 256 n) at h in
    let rest = number_of_digits n (x / 256) (omega (arith, below)) in
    omega (arith, rest)

number_below : (xs : List ℕ) → Each1 (λ x. x < 2 ^ 16) xs → number_l (2 ^ 16) xs < (2 ^ 16) ^ length xs
number_below [] h = rw (pow-zero (2 ^ 16)) (lit< tt)
number_below (x ∷ xs) h =
    let rest = number_below xs h.1 in
    let small : x < 2 ^ 16 = h.0 in
    rw (pow-suc (2 ^ 16) (length xs)) (omega (arith, rest, small))

pub groups_are : (xs : List ℕ) → length xs ≡ 8 → Each1 (λ x. x < 2 ^ 16) xs → ((j : ℕ) → j < 8 → slice_index xs j < 4096) → (k : ℕ) → k < 4
    → slice_index (summed 4 32 16 12 (digits_l (2 ^ 32) 4 (number_l 256 (digits_l 256 16 (number_l (2 ^ 16) xs))))) k
    ≡ 4096 * slice_index xs (2 * k) + slice_index xs (2 * k + 1)
groups_are xs long fits small k h =
    let below : number_l (2 ^ 16) xs < (2 ^ 16) ^ 8 = ap_below (number_below xs fits) in
    let same = number_of_digits 16 (number_l (2 ^ 16) xs) below in
    let v = get_or xs (2 * k) 0 in
    let w = get_or xs (2 * k + 1) 0 in
    let hv : v < 4096 = small (2 * k) (omega arith) in
    let hw : w < 4096 = small (2 * k + 1) (omega arith) in
    let words = digits_l (2 ^ 32) 4 (number_l (2 ^ 16) xs) in
    let is : get_or words k 0 ≡ v + 2 ^ 16 * (w + 2 ^ 16 * 0) =
    get_or_wider (2 ^ 16) 2 (2 ^ 32) 4 xs k refl fits h ∙ two_of (2 ^ 16) xs (2 * k) (omega (arith, long)) in
    ap (λ n. slice_index (summed 4 32 16 12 (digits_l (2 ^ 32) 4 n)) k) same
    ∙ summed-at 4 32 16 12 words k refl h ∙ ap (λ n. (n % 2 ^ 16 * 2 ^ 12 % 2 ^ 32 + n / 2 ^ 16) % 2 ^ 32) is ∙ omega (arith, hv, hw)
  where
    ap_below : number_l (2 ^ 16) xs < (2 ^ 16) ^ length xs → number_l (2 ^ 16) xs < (2 ^ 16) ^ 8
    ap_below l = rw long at l

-- what holds of each of four groups
each_group : (P : ℕ → Type 0) → P 0 → P 1 → P 2 → P 3 → (k : ℕ) → k < 4 → P k
each_group P p0 p1 p2 p3 zero h = p0
each_group P p0 p1 p2 p3 (suc zero) h = p1
each_group P p0 p1 p2 p3 (suc (suc zero)) h = p2
each_group P p0 p1 p2 p3 (suc (suc (suc zero))) h = p3
each_group P p0 p1 p2 p3 (suc (suc (suc (suc k)))) h = absurd (omega arith)

-- the low three bytes of each group, the last first
abbrev byte_places : List ℕ
byte_places = 2 ∷ 1 ∷ 0 ∷ 6 ∷ 5 ∷ 4 ∷ 10 ∷ 9 ∷ 8 ∷ 14 ∷ 13 ∷ 12 ∷ 3 ∷ 3 ∷ 3 ∷ 3 ∷ []

picked : (bytes : List ℕ) (k : ℕ) → k < 4
    → (get_or (pick_l 0 bytes byte_places) (3 * k) 0 ≡ get_or bytes (4 * k + 2) 0)
    × (get_or (pick_l 0 bytes byte_places) (3 * k + 1) 0 ≡ get_or bytes (4 * k + 1) 0)
    × (get_or (pick_l 0 bytes byte_places) (3 * k + 2) 0 ≡ get_or bytes (4 * k + 0) 0)
picked bytes = each_group (λ k.
    (get_or (pick_l 0 bytes byte_places) (3 * k) 0 ≡ get_or bytes (4 * k + 2) 0)
    × (get_or (pick_l 0 bytes byte_places) (3 * k + 1) 0 ≡ get_or bytes (4 * k + 1) 0)
    × (get_or (pick_l 0 bytes byte_places) (3 * k + 2) 0 ≡ get_or bytes (4 * k + 0) 0))
    (refl, refl, refl) (refl, refl, refl) (refl, refl, refl) (refl, refl, refl)

pub bytes_are : (groups : List ℕ) → Each1 (λ x. x < 2 ^ 32) groups → (k : ℕ) → k < 4
    → (slice_index (pick_l 0 (digits_l 256 16 (number_l (2 ^ 32) groups) ++ digits_l 256 16 (number_l (2 ^ 32) groups)) byte_places) (3 * k)
    ≡ slice_index groups k / 2 ^ 16 % 2 ^ 8)
    × (slice_index (pick_l 0 (digits_l 256 16 (number_l (2 ^ 32) groups) ++ digits_l 256 16 (number_l (2 ^ 32) groups)) byte_places) (3 * k + 1)
    ≡ slice_index groups k / 2 ^ 8 % 2 ^ 8)
    × (slice_index (pick_l 0 (digits_l 256 16 (number_l (2 ^ 32) groups) ++ digits_l 256 16 (number_l (2 ^ 32) groups)) byte_places) (3 * k + 2)
    ≡ slice_index groups k % 2 ^ 8)
bytes_are groups fits k h =
    let bytes = digits_l 256 16 (number_l (2 ^ 32) groups) in
    let left = pick_l_left 0 bytes bytes 16 byte_places refl tt in
    let at = picked bytes k h in
    let byte : (i : ℕ) → i < 4 → get_or bytes (4 * k + i) 0 ≡ get_or groups k 0 / 256 ^ i % 256
    = λ i l. get_or_narrower (2 ^ 32) 4 256 16 groups k i refl fits l (omega arith) in (
      ap (λ l. get_or l (3 * k) 0) left ∙ at.0 ∙ byte 2 (lit< tt),
      ap (λ l. get_or l (3 * k + 1) 0) left ∙ at.1 ∙ byte 1 (lit< tt),
      ap (λ l. get_or l (3 * k + 2) 0) left ∙ at.2 ∙ byte 0 (lit< tt) ∙ ap (λ m. get_or groups k 0 / m % 256) (pow-zero 256)
          ∙ ap (λ m. m % 256) (div-one (get_or groups k 0)),
    )

-- the indices of the three bytes of a group are those that it was made of
indices_back : (g s t u v : ℕ) → s < 64 → t < 64 → u < 64 → v < 64 → g ≡ 4096 * (64 * s + t) + (64 * u + v)
    → (g / 2 ^ 16 % 2 ^ 8 / 4 ≡ s) × (g / 2 ^ 16 % 2 ^ 8 % 4 * 16 + g / 2 ^ 8 % 2 ^ 8 / 16 ≡ t)
    × (g / 2 ^ 8 % 2 ^ 8 % 16 * 4 + g % 2 ^ 8 / 64 ≡ u) × (g % 2 ^ 8 % 64 ≡ v)
indices_back g s t u v hs ht hu hv is = (omega (arith, is), omega (arith, is), omega (arith, is), omega (arith, is))

module _ (xs pairs groups bytes : List ℕ) (long : length xs ≡ 16) (size : length bytes ≡ 16) (small : Each1 (λ index. index < 64) xs)
    (paired : (j : ℕ) → j < 8 → slice_index pairs j ≡ 64 * slice_index xs (2 * j) + slice_index xs (2 * j + 1))
    (grouped : (k : ℕ) → k < 4 → slice_index groups k ≡ 4096 * slice_index pairs (2 * k) + slice_index pairs (2 * k + 1))
    (cut : (k : ℕ) → k < 4 → (slice_index bytes (3 * k) ≡ slice_index groups k / 2 ^ 16 % 2 ^ 8)
    × (slice_index bytes (3 * k + 1) ≡ slice_index groups k / 2 ^ 8 % 2 ^ 8)
    × (slice_index bytes (3 * k + 2) ≡ slice_index groups k % 2 ^ 8)) where
  below : (i : ℕ) → i < 16 → get_or xs i 0 < 64
  below i h = Each1-get_or (λ index. index < 64) xs i 0 (omega (arith, long)) small

  quad : (k : ℕ) → k < 4
      → (get_or bytes (3 * k) 0 / 4 ≡ get_or xs (2 * (2 * k)) 0)
      × (get_or bytes (3 * k) 0 % 4 * 16 + get_or bytes (3 * k + 1) 0 / 16 ≡ get_or xs (2 * (2 * k) + 1) 0)
      × (get_or bytes (3 * k + 1) 0 % 16 * 4 + get_or bytes (3 * k + 2) 0 / 64 ≡ get_or xs (2 * (2 * k + 1)) 0)
      × (get_or bytes (3 * k + 2) 0 % 64 ≡ get_or xs (2 * (2 * k + 1) + 1) 0)
  quad k h =
      let parts = cut k h in
      let g = get_or groups k 0 in
      let is : g ≡ 4096 * (64 * get_or xs (2 * (2 * k)) 0 + get_or xs (2 * (2 * k) + 1) 0)
      + (64 * get_or xs (2 * (2 * k + 1)) 0 + get_or xs (2 * (2 * k + 1) + 1) 0)
      = grouped k h ∙ (λ i. 4096 * paired (2 * k) (omega arith) i + paired (2 * k + 1) (omega arith) i) in
      let back = indices_back g (get_or xs (2 * (2 * k)) 0) (get_or xs (2 * (2 * k) + 1) 0) (get_or xs (2 * (2 * k + 1)) 0)
      (get_or xs (2 * (2 * k + 1) + 1) 0)
      (below (2 * (2 * k)) (omega arith)) (below (2 * (2 * k) + 1) (omega arith)) (below (2 * (2 * k + 1)) (omega arith))
      (below (2 * (2 * k + 1) + 1) (omega arith)) is in (
        ap (λ n. n / 4) parts.0 ∙ back.0,
        (λ i. parts.0 i % 4 * 16 + parts.1 i / 16) ∙ back.1,
        (λ i. parts.1 i % 16 * 4 + parts.2 i / 64) ∙ back.2,
        ap (λ n. n % 64) parts.2 ∙ back.3,
      )

  pub indices_of_bytes : indices (take 12 bytes) ≡ xs
  unfolding indices
  indices_of_bytes =
      let q0 = quad 0 (lit< tt) in
      let q1 = quad 1 (lit< tt) in
      let q2 = quad 2 (lit< tt) in
      let q3 = quad 3 (lit< tt) in
      ap indices (sym (pick_l-range_with_len 0 bytes 0 12 (omega (arith, size))))
      ∙ (λ i. q0.0 i ∷ q0.1 i ∷ q0.2 i ∷ q0.3 i ∷ q1.0 i ∷ q1.1 i ∷ q1.2 i ∷ q1.3 i ∷ q2.0 i ∷ q2.1 i ∷ q2.2 i ∷ q2.3 i ∷ q3.0 i ∷ q3.1 i ∷ q3.2 i
      ∷ q3.3 i ∷ [])
      ∙ pick_l-range_with_len 0 xs 0 16 (omega (arith, long)) ∙ take_all 16 xs (omega (arith, long))
