-- What a payload delivers, chunk by chunk.
use Rattle.std.proofs.Common.{◌≡◌, ◌∙◌, ◌⊎◌, refl, sym, ap, inl, inr, suc, ℕ, ◌+◌, ◌-◌, ◌/◌, ◌<◌, ◌≤◌, ◌^◌, List, [], ◌∷◌, ◌++◌, length, take, drop, length-drop, append_assoc, add-one, arith}
use Rattle.std.specs.Prelude.{Bool, true, false, ◌==◌, cond, nat_lt, Option, Some, None, option_map, Result, Ok, Err}
use Rattle.std.proofs.lemmas.Bool.{cases_lt, lt-ltb, ne_eqb}
use Rattle.std.proofs.lemmas.Bool.Decides.{leb_tells}
use Rattle.std.proofs.lemmas.List.{append-nil, drop_all, length-take-le, nil_from_length, take_all}
use Rattle.age.specs.Bytes.{AreBytes, AreBytesOf}
use Rattle.age.specs.DeliveredPayload.{Chunk, after_chunk, after_last, allowed, allowed_if, chunk_of, payload_delivers, delivers, is_empty, opened_as, opened_chunk, or_else, prepend}
use Rattle.age.specs.ErrorVariants.{OutOfMemory, Truncated}
use Rattle.age.specs.Payload.{Seal, chunk_nonce}
use Rattle.age.specs.Stretch.{Stretch, nothing, whole}
use Rattle.age.specs.Suite.{IsCipher}
use Rattle.age.specs.Types.{Error}
use Rattle.age_slices.specs.Chunks.{OpensChunk}
use Rattle.age_slices.specs.Reading.{IsNoMiddle}

pub prepend_twice : (a b : List ℕ) (s : Stretch) → prepend a (prepend b s) ≡ prepend (a ++ b) s
prepend_twice a b s = ap (λ bytes. record { bytes = bytes; ends_well = s.ends_well }) (sym (append_assoc a b s.bytes))

-- a chunk that isn't empty, or is the only one, and isn't past the longest plaintext
allowed_piece : (number : ℕ) (piece : List ℕ) (last : Bool) → ((piece ≡ []) → number ≡ 0) → nat_lt number (2 ^ 44) ≡ true
    → allowed number (piece, last) ≡ Ok (piece, last)
allowed_piece number [] last first below = rw (first refl) refl
allowed_piece number (x ∷ xs) last first below = rw below refl

-- what isn't allowed ends badly
cond_ends : (b : Bool) (e : Error) (piece : List ℕ) (middle last : Stretch) → last.ends_well ≡ false
    → (after_chunk middle last (cond b (Err e) (Ok (piece, true)))).ends_well ≡ false
cond_ends true e piece middle last bad = refl
cond_ends false e piece middle last bad = bad

cond_ends_too : (b : Bool) (e : Error) (piece : List ℕ) (middle last : Stretch) → last.ends_well ≡ false
    → (after_chunk middle last (cond b (Ok (piece, true)) (Err e))).ends_well ≡ false
cond_ends_too true e piece middle last bad = bad
cond_ends_too false e piece middle last bad = refl

-- a chunk that is opened as the last where more follows
last_more : (number : ℕ) (o : Option (List ℕ)) (middle last : Stretch) → last.ends_well ≡ false
    → (after_chunk middle last (allowed_if number (option_map (λ plain. (plain, true)) o))).ends_well ≡ false
last_more number None middle last bad = refl
last_more number (Some []) middle last bad = cond_ends (nat_lt 0 number) _ [] middle last bad
last_more number (Some (x ∷ xs)) middle last bad = cond_ends_too (nat_lt number (2 ^ 44)) _ (x ∷ xs) middle last bad

-- past the longest plaintext none is allowed
none_allowed : (number : ℕ) (o : Option Chunk) (middle last : Stretch) → nat_lt number (2 ^ 44) ≡ false → nat_lt 0 number ≡ true
    → (after_chunk middle last (allowed_if number o)).ends_well ≡ false
none_allowed number None middle last past some = refl
none_allowed number (Some ([], b)) middle last past some = rw some refl
none_allowed number (Some (x ∷ xs, b)) middle last past some = rw past refl

empty_or : (b : Bool) (r : Result Chunk Error) (middle last : Stretch) → (after_chunk middle last r).ends_well ≡ false
    → (after_chunk middle last (cond b (Err Truncated) r)).ends_well ≡ false
empty_or true r middle last bad = refl
empty_or false r middle last bad = bad

none_first : (b : Bool) (first second : Option Chunk) → first ≡ None → cond b (or_else first second) second ≡ second
none_first true first second none = rw none refl
none_first false first second none = refl

module _ (opened : List ℕ → List ℕ → List ℕ → Option (List ℕ)) (key : List ℕ) (number : ℕ) where
  -- the text as a middle chunk is none
  abbrev NoMiddle : List ℕ → Type 0
  NoMiddle text = ((length text == 65552) ≡ false) ⊎ (opened key (chunk_nonce number false) text ≡ None)

  as_last : (text : List ℕ) → NoMiddle text → opened_chunk opened key number text ≡ opened_as opened key number true text
  as_last text (inl short) = rw short refl
  as_last text (inr none) = none_first (length text == 65552) (opened_as opened key number false text) (opened_as opened key number true text)
      (ap (λ o. option_map (λ plain. (plain, false)) o) none)

  chunk_middle : (text piece : List ℕ) → is_empty text ≡ false → (length text == 65552) ≡ true
      → opened key (chunk_nonce number false) text ≡ Some piece
      → ((piece ≡ []) → number ≡ 0) → nat_lt number (2 ^ 44) ≡ true → chunk_of opened key number text ≡ Ok (piece, false)
  unfolding chunk_of
  chunk_middle text piece some full opens first below = rw (some, full, opens) (allowed_piece number piece false first below)

  chunk_last : (text piece : List ℕ) → is_empty text ≡ false → NoMiddle text → opened key (chunk_nonce number true) text ≡ Some piece
      → ((piece ≡ []) → number ≡ 0) → nat_lt number (2 ^ 44) ≡ true → chunk_of opened key number text ≡ Ok (piece, true)
  unfolding chunk_of
  chunk_last text piece some none opens first below = rw (some, as_last text none, opens) (allowed_piece number piece true first below)

  chunk_past : (text : List ℕ) (middle last : Stretch) → nat_lt number (2 ^ 44) ≡ false → nat_lt 0 number ≡ true
      → (after_chunk middle last (chunk_of opened key number text)).ends_well ≡ false
  unfolding chunk_of
  chunk_past text middle last past some = empty_or (is_empty text) _ middle last (none_allowed number _ middle last past some)

  -- what more follows isn't opened well as the last
  chunk_more : (text : List ℕ) (middle last : Stretch) → NoMiddle text → last.ends_well ≡ false
      → (after_chunk middle last (chunk_of opened key number text)).ends_well ≡ false
  unfolding chunk_of
  chunk_more text middle last none bad =
      empty_or (is_empty text) _ middle last (rw (as_last text none) (last_more number (opened key (chunk_nonce number true) text) middle last bad))

  -- the text as the last chunk is none, or an empty one after others
  abbrev NoLast : List ℕ → Type 0
  NoLast text = (opened key (chunk_nonce number true) text ≡ None)
      ⊎ ((opened key (chunk_nonce number true) text ≡ Some []) × (nat_lt 0 number ≡ true))

  chunk_bad : (text : List ℕ) (middle last : Stretch) → NoMiddle text → NoLast text
      → (after_chunk middle last (chunk_of opened key number text)).ends_well ≡ false
  unfolding chunk_of
  chunk_bad text middle last none (inl bad) = empty_or (is_empty text) _ middle last (rw (as_last text none, bad) refl)
  chunk_bad text middle last none (inr (empty, later)) = empty_or (is_empty text) _ middle last (rw (as_last text none, empty, later) refl)

some_of : (xs : List ℕ) → 0 < length xs → is_empty xs ≡ false
some_of [] none = absurd (omega (arith, none))
some_of (x ∷ xs) some = refl

no_more : (n : ℕ) → n < 65552 → n / 65552 ≡ 0
no_more n few = omega arith

one_more : (n : ℕ) → 65552 ≤ n → n / 65552 ≡ suc ((n - 65552) / 65552)
one_more n many = omega arith

full_is : (n : ℕ) → n ≡ 65552 → (n == 65552) ≡ true
full_is n is = rw is refl

short_is : (n : ℕ) → n < 65552 → (n == 65552) ≡ false
short_is n few = ne_eqb n 65552 (λ is. omega (arith, few, is))

below_is : (n m : ℕ) → n < m → nat_lt n m ≡ true
below_is n m below = lt-ltb n m below

past_is : (n m : ℕ) → m ≤ n → nat_lt n m ≡ false
past_is n m past = elim (leb_tells (suc n) m) [
  | inl below ↦ absurd (omega (arith, below.1, past))
  | inr other ↦ other.0
]

after_nothing : (piece : List ℕ) (middle : Stretch) → after_chunk middle (after_last [] true) (Ok (piece, true)) ≡ whole piece
after_nothing piece middle = ap (λ bytes. whole bytes) (append-nil piece)

module _ (opened : List ℕ → List ℕ → List ℕ → Option (List ℕ)) (key : List ℕ) (number : ℕ) (rest : List ℕ) where
  few_left : length rest < 65552
      → payload_delivers opened key number (whole rest) ≡ after_chunk nothing (after_last [] true) (chunk_of opened key number rest)
  unfolding delivers
  few_left few = rw (no_more (length rest) few) refl

  many_left : 65552 ≤ length rest
      → payload_delivers opened key number (whole rest) ≡ after_chunk (payload_delivers opened key (number + 1) (whole (drop 65552 rest)))
      (after_last (drop 65552 rest) true) (chunk_of opened key number (take 65552 rest))
  unfolding delivers
  many_left many = rw (one_more (length rest) many, length-drop 65552 rest, add-one) refl

  full_front : 65552 ≤ length rest → length (take 65552 rest) ≡ 65552
  full_front many = length-take-le 65552 rest many

  -- a middle chunk
  pub middle_delivers : (piece : List ℕ) → 65552 ≤ length rest → opened key (chunk_nonce number false) (take 65552 rest) ≡ Some piece
      → 0 < length piece
      → number < 2 ^ 44
      → payload_delivers opened key number (whole rest) ≡ prepend piece (payload_delivers opened key (number + 1) (whole (drop 65552 rest)))
  middle_delivers piece many opens some below =
      let text = take 65552 rest in
      let full : length text ≡ 65552 = full_front many in
      let holds : chunk_of opened key number text ≡ Ok (piece, false) = chunk_middle opened key number text piece (some_of text (omega (arith, full)))
      (full_is (length text) full) opens (λ none. absurd (omega (arith, some, ap length none))) (below_is number (2 ^ 44) below) in
      many_left many ∙ ap (λ r. after_chunk (payload_delivers opened key (number + 1) (whole (drop 65552 rest)))
      (after_last (drop 65552 rest) true) r) holds

  -- the last chunk
  pub last_delivers : (piece : List ℕ) → IsNoMiddle opened key number rest → 0 < length rest → length rest ≤ 65552
      → opened key (chunk_nonce number true) rest ≡ Some piece
      → ((piece ≡ []) → number ≡ 0) → number < 2 ^ 44 → payload_delivers opened key number (whole rest) ≡ whole piece
  last_delivers piece (inl few) some fits opens first below =
      let holds : chunk_of opened key number rest ≡ Ok (piece, true) = chunk_last opened key number rest piece (some_of rest some)
      (inl (short_is (length rest) few)) opens first (below_is number (2 ^ 44) below) in
      few_left few ∙ ap (λ r. after_chunk nothing (after_last [] true) r) holds ∙ after_nothing piece nothing
  last_delivers piece (inr none) some fits opens first below =
      let text : take 65552 rest ≡ rest = take_all 65552 rest fits in
      let over : drop 65552 rest ≡ [] = drop_all 65552 rest fits in
      let after = payload_delivers opened key (number + 1) (whole (drop 65552 rest)) in
      let holds : chunk_of opened key number (take 65552 rest) ≡ Ok (piece, true) = rw text
      (chunk_last opened key number rest piece (some_of rest some) (inr (rw text at none.1)) opens first (below_is number (2 ^ 44) below)) in
      many_left none.0 ∙ ap (λ r. after_chunk after (after_last (drop 65552 rest) true) r) holds
      ∙ ap (λ d. after_chunk after (after_last d true) (Ok (piece, true))) over ∙ after_nothing piece after

  -- no chunk is left
  pub none_left : length rest ≡ 0 → (payload_delivers opened key number (whole rest)).ends_well ≡ false
  unfolding chunk_of
  none_left none =
      let empty : rest ≡ [] = nil_from_length rest none in
      ap (λ (s : Stretch). s.ends_well) (few_left (omega (arith, none))
      ∙ ap (λ r. after_chunk nothing (after_last [] true) (chunk_of opened key number r)) empty)

  -- past the longest plaintext
  pub past_delivers : 2 ^ 44 ≤ number → (payload_delivers opened key number (whole rest)).ends_well ≡ false
  past_delivers past =
      let before : nat_lt number (2 ^ 44) ≡ false = past_is number (2 ^ 44) past in
      let some : nat_lt 0 number ≡ true = below_is 0 number (omega (arith, past)) in
      elim (cases_lt (length rest) 65552) [
        | inl few ↦ ap (λ (s : Stretch). s.ends_well) (few_left few) ∙ chunk_past opened key number rest nothing (after_last [] true) before some
        | inr many ↦ ap (λ (s : Stretch). s.ends_well) (many_left many) ∙ chunk_past opened key number (take 65552 rest)
            (payload_delivers opened key (number + 1) (whole (drop 65552 rest))) (after_last (drop 65552 rest) true) before some
      ]

  -- the rest is longer than a chunk, and begins with no middle one
  more_delivers : (65552 < length rest) → opened key (chunk_nonce number false) (take 65552 rest) ≡ None
      → (payload_delivers opened key number (whole rest)).ends_well ≡ false
  more_delivers more none =
      let over : is_empty (drop 65552 rest) ≡ false = some_of (drop 65552 rest) (omega (arith, more, length-drop 65552 rest)) in
      ap (λ (s : Stretch). s.ends_well) (many_left (omega (arith, more)))
      ∙ chunk_more opened key number (take 65552 rest) (payload_delivers opened key (number + 1) (whole (drop 65552 rest)))
      (after_last (drop 65552 rest) true)
      (inr none) (rw over refl)

  -- the rest is no last chunk: too long, or no seal, or an empty one after others
  pub bad_delivers : IsNoMiddle opened key number rest → (65552 < length rest) ⊎ NoLast opened key number rest
      → (payload_delivers opened key number (whole rest)).ends_well ≡ false
  bad_delivers (inl few) (inl more) = absurd (omega (arith, few, more))
  bad_delivers (inl few) (inr bad) = ap (λ (s : Stretch). s.ends_well) (few_left few)
      ∙ chunk_bad opened key number rest nothing (after_last [] true) (inl (short_is (length rest) few)) bad
  bad_delivers (inr none) (inl more) = more_delivers more none.1
  bad_delivers (inr none) (inr bad) = elim (cases_lt 65552 (length rest)) [
    | inl more ↦ more_delivers more none.1
    | inr fits ↦
        let text : take 65552 rest ≡ rest = take_all 65552 rest fits in
        ap (λ (s : Stretch). s.ends_well) (many_left none.0)
        ∙ chunk_bad opened key number (take 65552 rest) (payload_delivers opened key (number + 1) (whole (drop 65552 rest)))
        (after_last (drop 65552 rest) true)
        (inr none.1) (rw text bad)
  ]

-- a text that opens is 16 bytes longer than what it opens to
pub opened_length : (seal_of : Seal) (opened : List ℕ → List ℕ → List ℕ → Option (List ℕ)) → IsCipher seal_of opened → (key nonce text piece : List ℕ)
    → AreBytesOf 32 key → AreBytesOf 12 nonce → AreBytes text → opened key nonce text ≡ Some piece → length text ≡ length piece + 16
opened_length seal_of opened cipher key nonce text piece of_key of_nonce bytes opens =
    let (plain, is) = (cipher.opens_exactly key nonce text piece of_key of_nonce bytes).0 opens in
    ap length is ∙ (cipher.seal_is_longer key nonce piece of_key of_nonce plain).len

-- a full text that isn't opened as a middle chunk is none
pub no_middle : (opened : List ℕ → List ℕ → List ℕ → Option (List ℕ)) (key : List ℕ) (number : ℕ) (text : List ℕ) (e : Error)
    → OpensChunk opened key number false text (Err e) → (e ≡ OutOfMemory → ⊥) → length text ≡ 65552
    → opened key (chunk_nonce number false) text ≡ None
no_middle opened key number text e (inl memory) other full = absurd (other memory)
no_middle opened key number text e (inr (inl (is, inl short))) other full = absurd (short full)
no_middle opened key number text e (inr (inl (is, inr none))) other full = none
no_middle opened key number text e (inr (inr (is, last, opens, later))) other full = absurd (Prim.cc)

-- what isn't opened as the last chunk doesn't end well
pub no_last : (opened : List ℕ → List ℕ → List ℕ → Option (List ℕ)) (key : List ℕ) (number : ℕ) (rest : List ℕ) (e : Error)
    → IsNoMiddle opened key number rest → OpensChunk opened key number true rest (Err e)
    → (e ≡ OutOfMemory) ⊎ ((payload_delivers opened key number (whole rest)).ends_well ≡ false)
no_last opened key number rest e none (inl memory) = inl memory
no_last opened key number rest e none (inr (inl (is, inl long))) = elim (cases_lt 65552 (length rest)) [
  | inl more ↦ inr (bad_delivers opened key number rest none (inl more))
  | inr fits ↦ absurd (long fits)
]
no_last opened key number rest e none (inr (inl (is, inr bad))) = inr (bad_delivers opened key number rest none (inr (inl bad)))
no_last opened key number rest e none (inr (inr (is, last, opens, later))) =
    inr (bad_delivers opened key number rest none (inr (inr (opens, below_is 0 number later))))

-- one chunk more was read
pub goes_on : (opened : List ℕ → List ℕ → List ℕ → Option (List ℕ)) (key : List ℕ) (number : ℕ) (sealed rest plain piece grown after : List ℕ)
    → payload_delivers opened key 0 (whole sealed) ≡ prepend plain (payload_delivers opened key number (whole rest))
    → payload_delivers opened key number (whole rest) ≡ prepend piece (payload_delivers opened key (number + 1) (whole (drop 65552 rest)))
    → grown ≡ plain ++ piece → after ≡ drop 65552 rest
    → payload_delivers opened key 0 (whole sealed) ≡ prepend grown (payload_delivers opened key (number + 1) (whole after))
goes_on opened key number sealed rest plain piece grown after so_far next more left =
    so_far ∙ ap (λ s. prepend plain s) next ∙ prepend_twice plain piece (payload_delivers opened key (number + 1) (whole (drop 65552 rest)))
    ∙ ap (λ l. prepend l (payload_delivers opened key (number + 1) (whole (drop 65552 rest)))) (sym more)
    ∙ ap (λ l. prepend grown (payload_delivers opened key (number + 1) (whole l))) (sym left)

pub shorter : (rest after : List ℕ) → 65552 ≤ length rest → after ≡ drop 65552 rest → length after < length rest
shorter rest after many is = omega (arith, many, ap length is, length-drop 65552 rest)
