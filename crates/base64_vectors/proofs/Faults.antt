-- What is wrong with columns, and the indices of symbols, in each lane.
use Rattle.std.proofs.Common.{◌≡◌, ◌∙◌, ap, sym, subst, refl, arith, ℕ, zero, suc, ◌+◌, ◌-◌, ◌*◌, ◌/◌, ◌%◌, ◌^◌, ◌<◌, Bool, true, List, [], ◌∷◌, length, map, replicate, bit_and, bit_or}
use Rattle.std.proofs.lemmas.Bool.{and_parts, eqb-true, ltb-true, eq-eqb, ne_eqb}
use Rattle.std.proofs.lemmas.Nat.{and_mask, le_or_l, le_or_r}
use Rattle.std.proofs.lemmas.Simd.{mask_l-mod, length-zip2}
use Rattle.std.specs.Int.Bits.{mask_lt, or_zero_l}
use Rattle.std.specs.Prelude.{slice_index, not, ◌==◌, ◌&&◌, ◌||◌, nat_lt, IsTrue}
use Rattle.base64.specs.Tables.{all_below}
use Rattle.base64.proofs.Tables.{all_below_at}
use mathlib.Core.Bool.{cond}
use lib.Dec.{eqb}
use lib.Lanes.{Each1, zip2, sel_l, top, mask_l}
use Rattle.age_base64.specs.Base64.{symbols}
use Rattle.base64_vectors.specs.Vectors.{looked_up, IsFaultless, fault_of, index_of, place_of}

abbrev of_low : List ℕ
of_low = 0x15 ∷ 0x11 ∷ 0x11 ∷ 0x11 ∷ 0x11 ∷ 0x11 ∷ 0x11 ∷ 0x11 ∷ 0x11 ∷ 0x11 ∷ 0x13 ∷ 0x1a ∷ 0x1b ∷ 0x1b ∷ 0x1b ∷ 0x1a ∷ []

abbrev of_high : List ℕ
of_high = 0x10 ∷ 0x10 ∷ 0x01 ∷ 0x02 ∷ 0x04 ∷ 0x08 ∷ 0x04 ∷ 0x08 ∷ 0x10 ∷ 0x10 ∷ 0x10 ∷ 0x10 ∷ 0x10 ∷ 0x10 ∷ 0x10 ∷ 0x10 ∷ []

abbrev distances : List ℕ
distances = 0 ∷ 16 ∷ 19 ∷ 4 ∷ 191 ∷ 191 ∷ 185 ∷ 185 ∷ 0 ∷ 0 ∷ 0 ∷ 0 ∷ 0 ∷ 0 ∷ 0 ∷ 0 ∷ []

-- the low four bits and the high four bits of each lane
abbrev lows : ℕ → List ℕ → List ℕ
lows n xs = zip2 bit_and xs (replicate n 15)

abbrev highs : ℕ → List ℕ → List ℕ
highs n xs = zip2 (λ x k. x / 2 ^ k) xs (replicate n 4)

pub lows_fit : (n : ℕ) (xs : List ℕ) → length xs ≡ n → Each1 (λ place. place < 16) (lows n xs)
lows_fit zero [] e = tt
lows_fit zero (x ∷ xs) e = absurd (omega arith)
lows_fit (suc n) [] e = absurd (omega arith)
lows_fit (suc n) (x ∷ xs) e = (mask_lt x 4, lows_fit n xs (omega arith))

pub highs_fit : (n : ℕ) (xs : List ℕ) → length xs ≡ n → Each1 (λ x. x < 256) xs → Each1 (λ place. place < 16) (highs n xs)
highs_fit zero [] e h = tt
highs_fit zero (x ∷ xs) e h = absurd (omega arith)
highs_fit (suc n) [] e h = absurd (omega arith)
highs_fit (suc n) (x ∷ xs) e h =
    let small : x < 256 = h.0 in
    (omega (arith, small), highs_fit n xs (omega arith) h.1)

faults_are : (n : ℕ) (xs : List ℕ) → length xs ≡ n → zip2 bit_and (looked_up of_low (lows n xs)) (looked_up of_high (highs n xs)) ≡ map fault_of xs
unfolding fault_of
faults_are zero [] e = refl
faults_are zero (x ∷ xs) e = absurd (omega arith)
faults_are (suc n) [] e = absurd (omega arith)
faults_are (suc n) (x ∷ xs) e = λ i. bit_and (slice_index of_low (and_mask x 4 i)) (slice_index of_high (x / 16)) ∷ faults_are n xs (omega arith) i

pub faults_of : (xs low high : List ℕ) → length xs ≡ 16 → low ≡ looked_up of_low (lows 16 xs) → high ≡ looked_up of_high (highs 16 xs)
    → zip2 bit_and low high ≡ map fault_of xs
faults_of xs low high e is_low is_high = (λ i. zip2 bit_and (is_low i) (is_high i)) ∙ faults_are 16 xs e

-- where the distances stand, as they are computed
place : ℕ → ℕ
place c = (c / 2 ^ 4 + cond (top 7 (cond (eqb c 47) (2 ^ 8 - 1) 0)) 255 0) % 2 ^ 8

abbrev places : ℕ → List ℕ → List ℕ
places n xs =
    zip2 (λ a b. (a + b) % 2 ^ 8) (highs n xs)
    (sel_l (map (top 7) (zip2 (λ a b. cond (eqb a b) (2 ^ 8 - 1) 0) xs (replicate n 47))) (replicate n 255) (replicate n 0))

places_are : (n : ℕ) (xs : List ℕ) → length xs ≡ n → places n xs ≡ map place xs
unfolding place
places_are zero [] e = refl
places_are zero (x ∷ xs) e = absurd (omega arith)
places_are (suc n) [] e = absurd (omega arith)
places_are (suc n) (x ∷ xs) e = ap (λ l. place x ∷ l) (places_are n xs (omega arith))

-- each byte is tested
passes : ℕ → Bool
passes c = nat_lt (place c) 16 && (place c == place_of c)
    && (not (fault_of c == 0) || (nat_lt (index_of c) 64 && (slice_index symbols (index_of c) == c)))

all_pass : all_below passes 256 ≡ true
unfolding passes place place_of fault_of index_of
all_pass = refl

placed : (c : ℕ) → c < 256 → (place c < 16) × (place c ≡ place_of c)
unfolding passes
placed c h =
    let all = and_parts (nat_lt (place c) 16 && (place c == place_of c))
    (not (fault_of c == 0) || (nat_lt (index_of c) 64 && (slice_index symbols (index_of c) == c))) (all_below_at passes 256 c all_pass h) in
    let both = and_parts (nat_lt (place c) 16) (place c == place_of c) all.0 in
    (ltb-true (place c) 16 both.0, eqb-true (place c) (place_of c) both.1)

symbol_of : (c : ℕ) → c < 256 → fault_of c ≡ 0 → (index_of c < 64) × (slice_index symbols (index_of c) ≡ c)
unfolding passes
symbol_of c h none =
    let all = and_parts (nat_lt (place c) 16 && (place c == place_of c))
    (not (fault_of c == 0) || (nat_lt (index_of c) 64 && (slice_index symbols (index_of c) == c))) (all_below_at passes 256 c all_pass h) in
    let clear : (fault_of c == 0) ≡ true = eq-eqb (fault_of c) 0 none in
    let is : (nat_lt (index_of c) 64 && (slice_index symbols (index_of c) == c)) ≡ true
    = subst (λ b. (not b || (nat_lt (index_of c) 64 && (slice_index symbols (index_of c) == c))) ≡ true) clear all.1 in
    let both = and_parts (nat_lt (index_of c) 64) (slice_index symbols (index_of c) == c) is in
    (ltb-true (index_of c) 64 both.0, eqb-true (slice_index symbols (index_of c)) c both.1)

places_small : (xs : List ℕ) → Each1 (λ x. x < 256) xs → Each1 (λ p. p < 16) (map place xs)
places_small [] h = tt
places_small (x ∷ xs) h = ((placed x h.0).0, places_small xs h.1)

pub places_fit : (xs : List ℕ) → length xs ≡ 16 → Each1 (λ x. x < 256) xs → Each1 (λ p. p < 16) (places 16 xs)
places_fit xs e h = rw (places_are 16 xs e) (places_small xs h)

added : (xs : List ℕ) → Each1 (λ x. x < 256) xs → zip2 (λ a b. (a + b) % 2 ^ 8) xs (looked_up distances (map place xs)) ≡ map index_of xs
unfolding index_of
added [] h = refl
added (x ∷ xs) h = λ i. (x + slice_index distances ((placed x h.0).1 i)) % 2 ^ 8 ∷ added xs h.1 i

pub indices_of : (xs distance : List ℕ) → length xs ≡ 16 → Each1 (λ x. x < 256) xs → distance ≡ looked_up distances (places 16 xs)
    → zip2 (λ a b. (a + b) % 2 ^ 8) xs distance ≡ map index_of xs
indices_of xs distance e h is = ap (λ l. zip2 (λ a b. (a + b) % 2 ^ 8) xs l) (is ∙ ap (looked_up distances) (places_are 16 xs e)) ∙ added xs h

-- columns that are symbols have indices, and are the symbols at them
pub indices_fit : (xs : List ℕ) → Each1 (λ x. x < 256) xs → IsFaultless xs → Each1 (λ index. index < 64) (map index_of xs)
indices_fit [] h f = tt
indices_fit (x ∷ xs) h f = ((symbol_of x h.0 f.0).0, indices_fit xs h.1 f.1)

pub symbols_back : (xs : List ℕ) → Each1 (λ x. x < 256) xs → IsFaultless xs → looked_up symbols (map index_of xs) ≡ xs
symbols_back [] h f = refl
symbols_back (x ∷ xs) h f = λ i. (symbol_of x h.0 f.0).1 i ∷ symbols_back xs h.1 f.1 i

-- nothing is wrong with a symbol
right : ℕ → Bool
right index = fault_of (slice_index symbols index) == 0

all_right : all_below right 64 ≡ true
unfolding right fault_of
all_right = refl

pub symbols_faultless : (xs : List ℕ) → Each1 (λ index. index < 64) xs → IsFaultless (looked_up symbols xs)
unfolding right
symbols_faultless [] h = tt
symbols_faultless (x ∷ xs) h = (eqb-true (fault_of (slice_index symbols x)) 0 (all_below_at right 64 x all_right h.0), symbols_faultless xs h.1)

-- no lane of a vector is set
abbrev flags : ℕ → List ℕ → List Bool
flags n xs = map (top 7) (zip2 (λ a b. cond (not (eqb a b)) (2 ^ 8 - 1) 0) xs (replicate n 0))

length-flags : (n : ℕ) (xs : List ℕ) → length xs ≡ n → length (flags n xs) ≡ n
length-flags zero [] e = refl
length-flags zero (x ∷ xs) e = absurd (omega arith)
length-flags (suc n) [] e = absurd (omega arith)
length-flags (suc n) (x ∷ xs) e = ap suc (length-flags n xs (omega arith))

abbrev IsZero : List ℕ → Type 0
IsZero xs = Each1 (λ x. x ≡ 0) xs

-- what a lane adds to a mask
abbrev flag_of : Bool → ℕ
flag_of b = cond (top 7 (cond (not b) (2 ^ 8 - 1) 0)) 1 0

is_set : (x : ℕ) → flag_of (eqb (suc x) 0) ≡ 1
is_set x = ap flag_of (ne_eqb (suc x) 0 (λ e. omega arith))

unset : (n : ℕ) (xs : List ℕ) → length xs ≡ n → mask_l (flags n xs) ≡ 0 → IsZero xs
unset zero [] e f = tt
unset zero (x ∷ xs) e f = absurd (omega arith)
unset (suc n) [] e f = absurd (omega arith)
unset (suc n) (zero ∷ xs) e f = (refl, unset n xs (omega arith) (omega (arith, f)))
unset (suc n) (suc x ∷ xs) e f =
    let set : 1 + 2 * mask_l (flags n xs) ≡ 0 = ap (λ (k : ℕ). k + 2 * mask_l (flags n xs)) (sym (is_set x)) ∙ f in
    absurd (omega (arith, set))

none_set : (n : ℕ) (xs : List ℕ) → length xs ≡ n → IsZero xs → mask_l (flags n xs) ≡ 0
none_set zero [] e h = refl
none_set zero (x ∷ xs) e h = absurd (omega arith)
none_set (suc n) [] e h = absurd (omega arith)
none_set (suc n) (zero ∷ xs) e h = let rest = none_set n xs (omega arith) h.1 in omega (arith, rest)
none_set (suc n) (suc x ∷ xs) e h = let wrong = h.0 in absurd (omega (arith, wrong))

joined : (xs ys : List ℕ) → length xs ≡ length ys → IsZero (zip2 bit_or xs ys) → IsZero xs × IsZero ys
joined [] [] e h = (tt, tt)
joined [] (y ∷ ys) e h = absurd (omega arith)
joined (x ∷ xs) [] e h = absurd (omega arith)
joined (x ∷ xs) (y ∷ ys) e h =
    let rest = joined xs ys (omega arith) h.1 in
    let none = h.0 in
    ((omega (arith, none, le_or_l x y), rest.0), (omega (arith, none, le_or_r x y), rest.1))

both_zero : (xs ys : List ℕ) → IsZero xs → IsZero ys → IsZero (zip2 bit_or xs ys)
both_zero [] ys h k = tt
both_zero (x ∷ xs) [] h k = tt
both_zero (x ∷ xs) (y ∷ ys) h k = ((λ i. bit_or (h.0 i) (k.0 i)) ∙ or_zero_l 0, both_zero xs ys h.1 k.1)

faultless_from : (xs : List ℕ) → IsZero (map fault_of xs) → IsFaultless xs
faultless_from [] h = tt
faultless_from (x ∷ xs) h = (h.0, faultless_from xs h.1)

faultless_to : (xs : List ℕ) → IsFaultless xs → IsZero (map fault_of xs)
faultless_to [] h = tt
faultless_to (x ∷ xs) h = (h.0, faultless_to xs h.1)

length-faults : (xs faults : List ℕ) → length xs ≡ 16 → faults ≡ map fault_of xs → length faults ≡ 16
length-faults xs faults e is = ap length is ∙ length-mapped xs ∙ e
  where
    length-mapped : (xs : List ℕ) → length (map fault_of xs) ≡ length xs
    length-mapped [] = refl
    length-mapped (x ∷ xs) = ap suc (length-mapped xs)

module _ (a b c d fa fb fc fd : List ℕ) (la : length a ≡ 16) (lb : length b ≡ 16) (lc : length c ≡ 16) (ld : length d ≡ 16)
    (is_a : fa ≡ map fault_of a) (is_b : fb ≡ map fault_of b) (is_c : fc ≡ map fault_of c) (is_d : fd ≡ map fault_of d) where
  abbrev all : List ℕ
  all = zip2 bit_or (zip2 bit_or (zip2 bit_or fa fb) fc) fd

  sa : length fa ≡ 16
  sa = length-faults a fa la is_a

  sab : length (zip2 bit_or fa fb) ≡ 16
  sab = length-zip2 bit_or fa fb (sa ∙ sym (length-faults b fb lb is_b)) ∙ sa

  sabc : length (zip2 bit_or (zip2 bit_or fa fb) fc) ≡ 16
  sabc = length-zip2 bit_or (zip2 bit_or fa fb) fc (sab ∙ sym (length-faults c fc lc is_c)) ∙ sab

  size : length all ≡ 16
  size = length-zip2 bit_or (zip2 bit_or (zip2 bit_or fa fb) fc) fd (sabc ∙ sym (length-faults d fd ld is_d)) ∙ sabc

  whole : mask_l (flags 16 all) % 2 ^ 64 ≡ mask_l (flags 16 all)
  whole = mask_l-mod (flags 16 all) 64 (omega (arith, length-flags 16 all size))

  pub all_faultless : IsTrue (mask_l (flags 16 all) % 2 ^ 64 == 0) → IsFaultless a × IsFaultless b × IsFaultless c × IsFaultless d
  all_faultless is =
      let zero_all = unset 16 all size (sym whole ∙ eqb-true (mask_l (flags 16 all) % 2 ^ 64) 0 is) in
      let abc_d = joined (zip2 bit_or (zip2 bit_or fa fb) fc) fd (sabc ∙ sym (length-faults d fd ld is_d)) zero_all in
      let ab_c = joined (zip2 bit_or fa fb) fc (sab ∙ sym (length-faults c fc lc is_c)) abc_d.0 in
      let a_b = joined fa fb (sa ∙ sym (length-faults b fb lb is_b)) ab_c.0 in (
        faultless_from a (subst IsZero is_a a_b.0),
        faultless_from b (subst IsZero is_b a_b.1),
        faultless_from c (subst IsZero is_c ab_c.1),
        faultless_from d (subst IsZero is_d abc_d.1),
      )

  pub all_taken : IsFaultless a → IsFaultless b → IsFaultless c → IsFaultless d → IsTrue (mask_l (flags 16 all) % 2 ^ 64 == 0)
  all_taken ha hb hc hd =
      let za = subst IsZero (sym is_a) (faultless_to a ha) in
      let zb = subst IsZero (sym is_b) (faultless_to b hb) in
      let zc = subst IsZero (sym is_c) (faultless_to c hc) in
      let zd = subst IsZero (sym is_d) (faultless_to d hd) in
      eq-eqb (mask_l (flags 16 all) % 2 ^ 64) 0
      (whole ∙ none_set 16 all size (both_zero (zip2 bit_or (zip2 bit_or fa fb) fc) fd
      (both_zero (zip2 bit_or fa fb) fc (both_zero fa fb za zb) zc) zd))
