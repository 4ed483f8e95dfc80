-- Blocks as numbers, with the bit beyond their bytes.
use Rattle.std.proofs.Common.{◌≡◌, ◌≢◌, ℕ, zero, suc, ◌+◌, ◌*◌, ◌^◌, ◌<◌, ◌≤◌, List, [], ◌∷◌, ◌++◌, length, set, get_or, replicate, drop, refl, sym, ap, inl, inr, ◌∙◌, arith, length-append}
use Rattle.std.proofs.lemmas.Bool.{cases_lt}
use Rattle.std.proofs.lemmas.Nat.{pow-add}
use Rattle.std.proofs.Math.Nat.{pow-suc}
use Rattle.std.proofs.lemmas.List.{get_or-drop, get_or-set_same, get_or-set_other, get_or_past}
use Rattle.std.specs.Int.{w128, from_le_bytes, byte_worth, sum_through}
use Rattle.poly1305.specs.Mac.{block_number}

pub number_of_whole : (block : List ℕ) (number : ℕ) → length block ≡ 16 → number ≡ from_le_bytes w128 block → number + 2 ^ 128 ≡ block_number block
unfolding block_number
number_of_whole block number size is = rw (size, is) refl

-- a sum of which one item is greater
module _ (f g : ℕ → ℕ) (place more : ℕ) (same : (i : ℕ) → i ≢ place → g i ≡ f i) (raised : g place ≡ f place + more) where
  sum_before : (k : ℕ) → k < place → sum_through g k ≡ sum_through f k
  sum_before zero below = same 0 (omega arith)
  sum_before (suc k) below = rw (sum_before k (omega arith), same (suc k) (omega arith)) refl

  sum_raised : (k : ℕ) → place ≤ k → sum_through g k ≡ sum_through f k + more
  sum_raised zero reached = let here : place ≡ 0 = omega arith in rw here at raised
  sum_raised (suc k) reached =
      elim (cases_lt k place) [
        | inl before ↦
            let here : place ≡ suc k = omega arith in
            let last : g (suc k) ≡ f (suc k) + more = rw here at raised in
            let sum = sum_before k before in
            omega arith
        | inr after ↦
            let last = same (suc k) (omega arith) in
            let sum = sum_raised k after in
            omega arith
      ]

-- zeros after a list are what lies beyond it
get_or_zeros : (xs zeros : List ℕ) (i : ℕ) → ((k : ℕ) → get_or zeros k 0 ≡ 0) → get_or (xs ++ zeros) i 0 ≡ get_or xs i 0
get_or_zeros [] zeros i are = are i
get_or_zeros (x ∷ xs) zeros zero are = refl
get_or_zeros (x ∷ xs) zeros (suc i) are = get_or_zeros xs zeros i are

power_of_256 : (k : ℕ) → 256 ^ k ≡ 2 ^ (8 * k)
power_of_256 zero = refl
power_of_256 (suc k) =
    let next : 8 * suc k ≡ 8 * k + 8 = omega arith in
    pow-suc 256 k ∙ ap (λ n. n * 256) (power_of_256 k) ∙ sym (pow-add 2 (8 * k) 8) ∙ ap (λ n. 2 ^ n) (sym next)

-- a one in the place of a zero
one_at : (i : ℕ) → byte_worth i 1 ≡ byte_worth i 0 + 2 ^ (8 * i)
one_at zero = refl
one_at (suc i) = omega (arith, power_of_256 (suc i))

pub number_of_padded : (block zeros : List ℕ) → length block < 16 → 0 < length zeros → ((k : ℕ) → get_or zeros k 0 ≡ 0)
    → from_le_bytes w128 (set (block ++ zeros) (length block) 1) ≡ block_number block
unfolding block_number
number_of_padded block zeros short some are =
    let place = length block in
    let padded = set (block ++ zeros) place 1 in
    let within : place < length (block ++ zeros) = omega (arith, length-append block zeros) in
    sum_raised (λ i. byte_worth i (get_or block i 0)) (λ i. byte_worth i (get_or padded i 0)) place (2 ^ (8 * place))
    (λ (i : ℕ) (other : i ≢ place). ap (λ b. byte_worth i b) (get_or-set_other (block ++ zeros) place i 1 0 other ∙ get_or_zeros block zeros i are))
    (ap (λ b. byte_worth place b) (get_or-set_same (block ++ zeros) place 1 0 within)
    ∙ one_at place
    ∙ ap (λ b. byte_worth place b + 2 ^ (8 * place)) (sym (get_or_past block place 0 (omega arith))))
    15 (omega arith)

-- a list of zeros has a zero everywhere, also past its end
zeros : (n i : ℕ) → get_or {A = ℕ} (replicate n 0) i 0 ≡ 0
zeros zero i = refl
zeros (suc n) zero = refl
zeros (suc n) (suc i) = zeros n i

pub zeros-drop : (n m k : ℕ) → get_or {A = ℕ} (drop m (replicate n 0)) k 0 ≡ 0
zeros-drop n m k = get_or-drop m (replicate n 0) k 0 ∙ zeros n (m + k)
