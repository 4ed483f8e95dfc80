-- The symbols at indices, in each lane.
use Rattle.std.proofs.Common.{◌≡◌, ◌∙◌, ap, refl, arith, ℕ, zero, suc, ◌+◌, ◌-◌, ◌%◌, ◌^◌, ◌<◌, Bool, true, List, [], ◌∷◌, length, map, replicate}
use Rattle.std.proofs.lemmas.Bool.{and_parts, eqb-true, ltb-true}
use Rattle.std.specs.Prelude.{slice_index, ◌==◌, ◌&&◌, nat_lt}
use Rattle.base64.specs.Tables.{all_below}
use Rattle.base64.proofs.Tables.{all_below_at}
use mathlib.Core.Bool.{cond}
use lib.Dec.{ltb}
use lib.Lanes.{Each1, zip2, sel_l, top}
use Rattle.age_base64.specs.Base64.{symbols}
use Rattle.base64_vectors.specs.Vectors.{looked_up}

-- what is added to an index, for each range of the alphabet
abbrev pub offsets : List ℕ
offsets = 71 ∷ 252 ∷ 252 ∷ 252 ∷ 252 ∷ 252 ∷ 252 ∷ 252 ∷ 252 ∷ 252 ∷ 252 ∷ 237 ∷ 240 ∷ 65 ∷ 0 ∷ 0 ∷ []

-- the range of an index
range_of : ℕ → ℕ
range_of a = cond (top 7 (cond (ltb a 26) (2 ^ 8 - 1) 0)) 13 ((cond (top 7 (cond (ltb a 51) (2 ^ 8 - 1) 0)) 51 a + (2 ^ 8 - 51)) % 2 ^ 8)

abbrev pub ranges : ℕ → List ℕ → List ℕ
ranges n xs =
    sel_l (map (top 7) (zip2 (λ a b. cond (ltb a b) (2 ^ 8 - 1) 0) xs (replicate n 26))) (replicate n 13)
    (zip2 (λ a b. (a + (2 ^ 8 - b)) % 2 ^ 8)
    (sel_l (map (top 7) (zip2 (λ a b. cond (ltb a b) (2 ^ 8 - 1) 0) xs (replicate n 51))) (replicate n 51) xs) (replicate n 51))

ranges_are : (n : ℕ) (xs : List ℕ) → length xs ≡ n → ranges n xs ≡ map range_of xs
unfolding range_of
ranges_are zero [] e = refl
ranges_are zero (x ∷ xs) e = absurd (omega arith)
ranges_are (suc n) [] e = absurd (omega arith)
ranges_are (suc n) (x ∷ xs) e = ap (λ l. range_of x ∷ l) (ranges_are n xs (omega arith))

-- each index is tested
passes : ℕ → Bool
passes a = nat_lt (range_of a) 16 && ((a + slice_index offsets (range_of a)) % 2 ^ 8 == slice_index symbols a)

all_pass : all_below passes 64 ≡ true
unfolding passes range_of
all_pass = refl

passed : (a : ℕ) → a < 64 → (range_of a < 16) × ((a + slice_index offsets (range_of a)) % 2 ^ 8 ≡ slice_index symbols a)
unfolding passes
passed a h =
    let both = and_parts (nat_lt (range_of a) 16) ((a + slice_index offsets (range_of a)) % 2 ^ 8 == slice_index symbols a)
    (all_below_at passes 64 a all_pass h) in
    (ltb-true (range_of a) 16 both.0, eqb-true ((a + slice_index offsets (range_of a)) % 2 ^ 8) (slice_index symbols a) both.1)

small : (xs : List ℕ) → Each1 (λ index. index < 64) xs → Each1 (λ place. place < 16) (map range_of xs)
small [] h = tt
small (x ∷ xs) h = ((passed x h.0).0, small xs h.1)

pub ranges_fit : (xs : List ℕ) → length xs ≡ 16 → Each1 (λ index. index < 64) xs → Each1 (λ place. place < 16) (ranges 16 xs)
ranges_fit xs e h = rw (ranges_are 16 xs e) (small xs h)

added : (xs : List ℕ) → Each1 (λ index. index < 64) xs
    → zip2 (λ a b. (a + b) % 2 ^ 8) xs (looked_up offsets (map range_of xs)) ≡ looked_up symbols xs
added [] h = refl
added (x ∷ xs) h = λ i. (passed x h.0).1 i ∷ added xs h.1 i

pub symbols_are : (xs offset : List ℕ) → length xs ≡ 16 → Each1 (λ index. index < 64) xs → offset ≡ looked_up offsets (ranges 16 xs)
    → zip2 (λ a b. (a + b) % 2 ^ 8) xs offset ≡ looked_up symbols xs
symbols_are xs offset e h is =
    ap (λ l. zip2 (λ a b. (a + b) % 2 ^ 8) xs l) (is ∙ ap (looked_up offsets) (ranges_are 16 xs e)) ∙ added xs h
