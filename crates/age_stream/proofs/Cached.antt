-- The chunks that a reader has opened stay those of its payload.
use Rattle.std.specs.Prelude.{◌≡◌, ℕ, ◌+◌, ◌-◌, ◌*◌, ◌/◌, ◌^◌, ◌<◌, ◌≤◌, ◌⊎◌, Bool, true, false, cond, Option, Some, None, option_map, Ok, List, length}
use Rattle.std.proofs.Common.{◌∙◌, ap, arith, inl, inr, refl, sym, subst}
use Rattle.std.proofs.lemmas.Bool.{cases_lt, eq-eqb, false_from_ne_true}
use Rattle.std.proofs.lemmas.List.Elements.{All-drop}
use Rattle.age_error.specs.Bytes.{AreBytes}
use Rattle.age_io.specs.Stretch.{Stretch}
use Rattle.age_io.specs.Reading.{StandsIn}
use Rattle.age_stream.specs.declared.cache.Cache.{Cache}
use Rattle.age_stream.specs.declared.cache.Opened.{Opened}
use Rattle.age_stream.specs.Cache.{has_number, last_used, HasOne}
use Rattle.age_stream.specs.PrivateCache.{IsAtChunk, IsKept, IsText}
use Rattle.age_v1.specs.DeliveredPayload.{chunk_of}
use Rattle.age_v1.proofs.OpenedTexts.{Shorter}
use Rattle.age_v1.specs.Payload.{chunk_nonce}
use Rattle.age_stream.specs.Reading.{payload_at, IsHeld, TookText}
use Rattle.age_v1.proofs.WellEndedPayloads.{accepted}
use Rattle.age_stream.proofs.Holding.{stood-taken, text-read}
use Rattle.age_stream.proofs.Last.{text-held}
use Rattle.age_v1.proofs.TextLengths.{some-within}

-- the place went on in the chunk, which is used now
pub moved-in : (number at new_at : ℕ) (old new : Cache) → new.first ≡ old.first → new.judged ≡ old.judged → at ≤ new_at →
    new_at ≤ length old.first.piece.items → IsAtChunk number at old → IsAtChunk number new_at new
moved-in number at new_at old new same same_judged onward within is =
    let long : length new.first.piece.items ≡ length old.first.piece.items = ap (λ o. length o.piece.items) same in
    let last : new.first.last ≡ old.first.last = ap (λ o. o.last) same in
    record {
      in_chunk = omega (arith, within, long);
      small = omega (arith, is.small, long);
      more = is.more;
      full = λ middle. long ∙ is.full (sym last ∙ middle);
      first = ap (λ o. o.number) same ∙ is.first;
      unjudged = λ none.
          let was = is.unjudged (sym same_judged ∙ none) in
          record { end = omega (arith, onward, within, was.end, was.full); is_last = last ∙ was.is_last; full = long ∙ was.full };
    }

-- a reader that tells which chunk it used last hasn't failed
pub used-good : (failed : Bool) (used : Option ℕ) (b : ℕ) → cond failed None used ≡ Some b → (failed ≡ false) × (used ≡ Some b)
used-good true used b is = cc
used-good false used b is = (refl, is)

some-same : (a b : ℕ) → Some a ≡ Some b → a ≡ b
some-same a b is = cc

-- the chunk that was used last is there
pub used-there : (cache : Cache) (b : ℕ) → last_used cache ≡ Some b → HasOne cache b
used-there cache b is = by cache.used cache.judged cache.other cache.first.number b is refl refl refl
  where
    by : (used judged : Bool) (other : Option Opened) (number b : ℕ)
        → cond used (cond judged (Some number) None) (option_map (λ it. it.number) other) ≡ Some b →
        cache.judged ≡ judged → cache.first.number ≡ number → cache.other ≡ other → HasOne cache b
    by true true other number b is judged same there = inl (judged, same ∙ some-same number b is)
    by true false other number b is judged same there = cc
    by false judged None number b is first same there = cc
    by false judged (Some it) number b is first same there = inr (rw there (eq-eqb it.number b (some-same it.number b is)))

-- A reader that holds a chunk, and isn't after the last one, comes to the chunk at its place next where it has that opened.
pub comes : (held : Bool) (number at : ℕ) (cache : Cache) → held ≡ true → at ≤ length cache.first.piece.items
    → length cache.first.piece.items ≤ 65536 →
    (cache.first.last ≡ false → length cache.first.piece.items ≡ 65536) → cache.first.number ≡ number
    → ((held ≡ true) × (cache.first.last ≡ true) × (at ≡ length cache.first.piece.items) → ⊥) →
    HasOne cache ((65536 * number + at) / 65536) → ((held ≡ true) × (at < length cache.first.piece.items)) ⊎
    ((held ≡ true → (cache.first.last ≡ false) × (at ≡ length cache.first.piece.items))
    × (has_number (cond held (number + 1) number) cache.other ≡ true))
comes held number at cache is inside small full first apart has = elim (cases_lt at (length cache.first.piece.items)) [
  | inl less ↦ inl (is, less)
  | inr more ↦
      let given : at ≡ length cache.first.piece.items = omega (arith, inside, more) in
      let middle = false_from_ne_true cache.first.last (λ last. apart (is, last, given)) in
      let next : (65536 * number + at) / 65536 ≡ number + 1 = omega (arith, given, full middle) in
      inr (
        (λ _. (middle, given)),
        elim (subst (HasOne cache) next has) [
          | inl one ↦ absurd (omega (arith, one.1, first))
          | inr other ↦ rw is other
        ],
      )
]

-- the verdict on the text of a chunk that was read
pub held-read : (opened : List ℕ → List ℕ → List ℕ → Option (List ℕ)) (key : List ℕ) (payload : Stretch) (number : ℕ) (text plain : List ℕ)
    (last : Bool) →
    IsText payload number text → (length text < 65552 → last ≡ true) → chunk_of opened key number text ≡ Ok (plain, last)
    → IsHeld opened key payload number last 0 plain
held-read opened key payload number text plain last read short ok =
    let a = accepted opened key number text plain last ok in
    record {
      opens = ap (opened key (chunk_nonce number last)) read.is ∙ a.opens;
      judged = λ _. ap (chunk_of opened key number) read.is ∙ ok;
      whole = λ less. let few = subst (λ (xs : List ℕ). length xs < 65552) read.is less in (read.ended few, short few);
      some = some-within 65552 (65552 * number) payload.bytes (omega (arith, a.some, ap length read.is));
    }

-- what was read is the text of the chunk
pub is-text : (content rest after : Stretch) (place taken number : ℕ) (text : List ℕ) → StandsIn content place rest → taken ≤ place
    → taken ≡ 65552 * number →
    TookText rest after text → IsText (payload_at place taken content) number text
is-text content rest after place taken number text stands fits stood took = record {
  is = text-read content rest after place taken number text stands fits stood took;
  ended = λ less. sym (ap (λ s. s.ends_well) (stood-taken content rest after place taken text stands fits took)) ∙ sym took.came.end
      ∙ (took.ended less).ends_well;
}

-- what is known of a text that was opened
pub record IsOpenedText (opened : List ℕ → List ℕ → List ℕ → Option (List ℕ)) (key : List ℕ) (number : ℕ) (text plain : List ℕ)
    (last : Bool) : Type 0 where
  pub ok : chunk_of opened key number text ≡ Ok (plain, last)
  pub short : length text < 65552 → last ≡ true
  pub longer : length plain + 16 ≡ length text

-- The first chunk is that of the text that an inner reader gave.
pub brought : (opened : List ℕ → List ℕ → List ℕ → Option (List ℕ)) (key : List ℕ) (law : Shorter opened key) (content rest after : Stretch)
    (place taken number : ℕ)
    (text : List ℕ) (cache : Cache) → AreBytes content.bytes → StandsIn content place rest → taken ≤ place → taken ≡ 65552 * number
    → TookText rest after text →
    (cache.judged ≡ true) × (cache.first.number ≡ number) × (cache.used ≡ true) →
    (IsText (payload_at place taken content) number text → IsKept opened key (payload_at place taken content) cache) →
    IsOpenedText opened key number text cache.first.piece.items cache.first.last
brought opened key law content rest after place taken number text cache bytes stands fits stood took first kept =
    let payload = payload_at place taken content in
    let read = is-text content rest after place taken number text stands fits stood took in
    let held = subst (λ n. IsHeld opened key payload n cache.first.last 0 cache.first.piece.items) first.1 ((kept read).first first.0) in
    record {
      ok = ap (chunk_of opened key number) (sym read.is) ∙ held.judged (λ e. absurd (omega (arith, e.full)));
      short = λ less. (held.whole (subst (λ (xs : List ℕ). length xs < 65552) (sym read.is) less)).1;
      longer = text-held opened key law payload number 0 cache.first.last cache.first.piece.items
          (All-drop (λ x. x < 2 ^ 8) (place - taken) content.bytes bytes) held ∙ ap length read.is;
    }

module _ (opened : List ℕ → List ℕ → List ℕ → Option (List ℕ)) (key : List ℕ) (cache : Cache) where
  -- the payload is the same
  pub kept-same : (old new : Stretch) → new ≡ old → IsKept opened key old cache → IsKept opened key new cache
  kept-same old new same kept = subst (λ p. IsKept opened key p cache) (sym same) kept
