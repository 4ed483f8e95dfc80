-- What a `StreamReader`'s steps do to what it keeps and to what reads can still deliver.
use Rattle.std.specs.Prelude.{◌≡◌, ℕ, ◌+◌, ◌-◌, ◌*◌, ◌^◌, ◌<◌, ◌≤◌, Option, Ok, Err, Bool, true, false, IsTrue, List, [], ◌∷◌, ◌++◌, length, take, drop, min}
use Rattle.std.proofs.Common.{refl, sym, ap, subst, ◌∙◌, inl, inr, arith, length-append, length-drop, add-one, length-take-le}
use Rattle.std.proofs.lemmas.List.{append-nil, take-append-drop, drop-drop, drop_all, take_all, append_assoc, drop_at, take_at, nil_from_length, drop-append-le}
use Rattle.std.proofs.lemmas.List.Elements.{All-drop, All-take}
use Rattle.std.proofs.lemmas.Bool.{cases_lt, true≢false}
use Rattle.age_error.specs.Bytes.{AreBytes}
use Rattle.age_error.specs.declared.io.Error.{Error}
use Rattle.age_io.specs.declared.traits.Read.{Ghosts}
use Rattle.age_io.specs.Stretch.{Stretch, nothing, from_place, stretch-ext, IsCleanEnd, IsFault}
use Rattle.age_io.specs.Reading.{StandsIn, Delivers, EndsEarly}
use Rattle.age_v1.specs.Payload.{chunk_nonce}
use Rattle.age_v1.proofs.OpenedTexts.{Shorter}
use Rattle.age_v1.specs.DeliveredPayload.{chunk_of, prepend, after_last, payload_delivers, text_at}
use Rattle.age_v1.proofs.DeliveredChunks.{delivered-chunk, delivered-refused, delivered-cut}
use Rattle.age_v1.proofs.WellEndedPayloads.{accepted, delivered-nothing}
use Rattle.age_stream.specs.declared.cache.Cache.{Cache}
use Rattle.age_stream.specs.declared.place.Place.{Place}
use Rattle.age_stream.specs.declared.source.Source.{Source}
use Rattle.age_stream.specs.Reading.{payload_at, payload_from, behind, rest_of, spare, tells_from, IsRestOfText, IsHeld, IsPast, StandsBeforeChunk, IsInside, IsSound, TookFromInner, TookText}
use Rattle.age_stream.specs.ReadingLemmas.{taken-rest}
use Rattle.age_v1.proofs.TextLengths.{length-text, plain-inside}

-- ---- lists

-- what was read into room for it
pub took_text : (asked : ℕ) (buf : List ℕ) (count : ℕ) (before after : Stretch) → length buf ≡ asked → count ≤ length buf
    → Delivers (take count buf) before after →
    (count < length buf → IsCleanEnd after) → TookFromInner asked before after (take count buf)
took_text asked buf count before after size fits came ended =
    let long : length (take count buf) ≡ count = length-take-le count buf fits in
    record { came = came; most = omega arith; ended = λ less. ended (omega (arith, long, size, less)) }

-- the text that was read is what stands at the front
pub front_of : (before after : Stretch) (text : List ℕ) → TookText before after text → take 65552 before.bytes ≡ text
front_of before after text took = elim (cases_lt (length text) 65552) [
  | inl less ↦ rw (took.came.bytes, (took.ended less).bytes, append-nil) (take_all 65552 text took.most)
  | inr full ↦ rw took.came.bytes (take_at text after.bytes 65552 (omega (arith, took.most)))
]

-- a reader that gave a text hadn't failed: it stood after the bytes that were taken
pub stood-taken : (content rest after : Stretch) (place taken : ℕ) (text : List ℕ) → StandsIn content place rest → taken ≤ place
    → TookText rest after text →
    rest ≡ from_place taken (payload_at place taken content)
stood-taken content rest after place taken text stands fits took = elim (taken-rest content rest place taken stands fits) [
  | inl is ↦ is
  | inr is ↦
      let none : length text + length after.bytes ≡ 0 =
      sym (length-append text after.bytes) ∙ sym (ap length took.came.bytes) ∙ ap (λ s. length s.bytes) is in
      let clean = took.ended (omega (arith, none)) in
      absurd (true≢false (sym clean.ends_well ∙ took.came.end ∙ ap (λ s. s.ends_well) is))
]

-- the text that was read is that of the chunk at the place
pub text-read : (content rest after : Stretch) (place taken number : ℕ) (text : List ℕ) → StandsIn content place rest → taken ≤ place
    → taken ≡ 65552 * number →
    TookText rest after text → text_at number (payload_at place taken content) ≡ text
text-read content rest after place taken number text stands fits stood took =
    let payload = payload_at place taken content in
    let here : rest.bytes ≡ drop (65552 * number) payload.bytes =
    ap (λ s. s.bytes) (stood-taken content rest after place taken text stands fits took) ∙ ap (λ n. drop n payload.bytes) stood in
    ap (take 65552) (sym here) ∙ front_of rest after text took

-- what was copied to the front of a buffer
pub copied : (chunk copy after : List ℕ) (at count : ℕ) → at + count ≤ length chunk → copy ≡ take ((at + count) - at) (drop at chunk) →
    take count (copy ++ after) ≡ take count (drop at chunk)
copied chunk copy after at count fits is =
    let n : (at + count) - at ≡ count = omega arith in
    let front : copy ≡ take count (drop at chunk) = is ∙ ap (λ k. take k (drop at chunk)) n in
    let long : length copy ≡ count = ap length front ∙ length-take-le count (drop at chunk) (omega (arith, length-drop at chunk)) in
    take_at copy after count long ∙ front

pub middle-by : (last : Bool) (at n : ℕ) → (last ≡ true → at < n) → n ≤ at → last ≡ false
middle-by true at n more given = absurd (omega (arith, more refl))
middle-by false at n more given = refl

-- what a chunk that was opened leaves to open
pub spare-opened : (held last : Bool) (old new : ℕ) → held ≡ true → (last ≡ false → new ≤ old + 1) → new ≤ old + 2 → new + spare held last ≤ old + 2
spare-opened true true old new is middle most = omega (arith, most)
spare-opened true false old new is middle most = omega (arith, middle refl)
spare-opened false last old new is middle most = absurd (true≢false (sym is))

pub spare-none : (held last : Bool) → held ≡ false → spare held last ≡ 2
spare-none held last is = rw is refl

fault-of : (s : Stretch) → s ≡ nothing → IsFault s
fault-of s is = rw is record { bytes = refl; ends_badly = refl }

pub same-rest : (old new : Stretch) (text : List ℕ) → Delivers text old new → length text ≡ 0 → new ≡ old
same-rest old new text came none =
    let empty : text ≡ [] = nil_from_length text none in
    stretch-ext new old (sym (came.bytes ∙ ap (λ t. t ++ new.bytes) empty)) came.end

-- ---- the payload

-- the payload stays where a read of the inner reader moves on
pub payload-read : (content new_content : Stretch) (place new_place taken new_taken count : ℕ) → new_content ≡ content → new_place ≡ place + count
    → new_place < 2 ^ 63 →
    new_taken ≡ min (taken + count) (2 ^ 64 - 1) → taken ≤ place →
    (new_taken ≡ taken + count) × (payload_at new_place new_taken new_content ≡ payload_at place taken content)
payload-read content new_content place new_place taken new_taken count same moved short took fits =
    let all : new_taken ≡ taken + count = omega (arith, moved, took, fits, short) in
    let start : new_place - new_taken ≡ place - taken = omega (arith, moved, all, fits) in
    (all, rw (same, start) refl)

-- a chunk that is opened for a place behind its front has a byte there
pub opened-before : (content rest after : Stretch) (place taken number at : ℕ) (text : List ℕ) (size : ℕ) → StandsIn content place rest
    → taken ≤ place →
    StandsBeforeChunk (length (payload_at place taken content).bytes) number at taken → TookText rest after text → size + 16 ≡ length text
    → 0 < at → at < size
opened-before content rest after place taken number at text size stands fits before took longer some =
    let payload = payload_at place taken content in
    let inner = stood-taken content rest after place taken text stands fits took in
    let here : rest.bytes ≡ drop (65552 * number) payload.bytes = ap (λ s. s.bytes) inner ∙ ap (λ n. drop n payload.bytes) before.stood in
    let long : length text + length after.bytes ≡ length payload.bytes - 65552 * number =
    sym (length-append text after.bytes) ∙ sym (ap length took.came.bytes) ∙ ap length here ∙ length-drop (65552 * number) payload.bytes in
    elim (cases_lt (length text) 65552) [
      | inl less ↦ let none : length after.bytes ≡ 0 = ap length (took.ended less).bytes in omega (arith, before.inside some, long, longer, none)
      | inr full ↦ omega (arith, before.under, longer, full)
    ]

-- a reader that delivered a beginning of what it had stands further in front
front-gives : (content : Stretch) (place : ℕ) (front : List ℕ) (old new : Stretch) → IsRestOfText content place old → Delivers front old new
    → IsRestOfText content (place + length front) new
front-gives content place front old new is came = λ well.
    let was = is (sym came.end ∙ well) in
    stretch-ext new (from_place (place + length front) content)
    (sym (drop_at front new.bytes (length front) refl) ∙ ap (drop (length front)) (sym came.bytes ∙ ap (λ s. s.bytes) was)
    ∙ drop-drop (length front) place content.bytes)
    (came.end ∙ ap (λ s. s.ends_well) was)

-- where a reader stands that hasn't failed
pub record StandsAt (place : Place) (in_chunk from_front : ℕ) (holds has_sought : Bool) : Type 0 where
  pub number : place.number ≡ in_chunk
  pub at : place.at ≡ from_front
  pub held : place.held ≡ holds
  pub sought : place.sought ≡ has_sought
  pub good : place.failed ≡ false

module _ (opened : List ℕ → List ℕ → List ℕ → Option (List ℕ)) (key : List ℕ) where
  -- ---- what reads can still deliver

  pub rest_failed : (place : Place) (cache : Cache) (rest : Stretch) → place.failed ≡ true → rest_of opened key place cache rest ≡ nothing
  unfolding rest_of
  rest_failed place cache rest is = rw is refl

  pub fault_failed : (place : Place) (cache : Cache) (rest : Stretch) → place.failed ≡ true → IsFault (rest_of opened key place cache rest)
  fault_failed place cache rest is = fault-of _ (rest_failed place cache rest is)

  pub rest-held : (place : Place) (cache : Cache) (rest : Stretch) → place.failed ≡ false → place.held ≡ true →
      rest_of opened key place cache rest ≡ prepend (drop place.at cache.first.piece.items) (behind opened key cache.first.last place.number rest)
  unfolding rest_of
  rest-held place cache rest good is = rw (good, is) refl

  pub rest-open : (place : Place) (cache : Cache) (rest : Stretch) → place.failed ≡ false → place.held ≡ false →
      rest_of opened key place cache rest ≡ from_place place.at (payload_delivers opened key place.number rest)
  unfolding rest_of
  rest-open place cache rest good is = rw (good, is) refl

  -- the place is the same
  pub rest-like : (place now : Place) (cache : Cache) (rest : Stretch) → now.number ≡ place.number → now.at ≡ place.at → now.held ≡ place.held
      → now.failed ≡ place.failed → rest_of opened key now cache rest ≡ rest_of opened key place cache rest
  unfolding rest_of
  rest-like place now cache rest number at held failed = rw (failed, held, at, number) refl

  -- the place is the front of the next chunk
  pub rest-passed : (place now : Place) (cache : Cache) (rest : Stretch) → place.failed ≡ false → place.held ≡ true → cache.first.last ≡ false
      → place.at ≡ length cache.first.piece.items → StandsAt now (place.number + 1) 0 false place.sought →
      rest_of opened key now cache rest ≡ rest_of opened key place cache rest
  rest-passed place now cache rest good is middle given there =
      rest-open now cache rest there.good there.held
      ∙ rw (there.at, there.number) (sym (rest-held place cache rest good is
      ∙ rw (drop_all place.at cache.first.piece.items (omega (arith, given)), middle) refl))

  -- nothing is held after the last chunk
  rest-last : (place : Place) (cache : Cache) (rest : Stretch) → place.failed ≡ false → place.held ≡ true → cache.first.last ≡ true
      → place.at ≡ length cache.first.piece.items → rest_of opened key place cache rest ≡ after_last rest.bytes rest.ends_well
  rest-last place cache rest good is end given =
      rest-held place cache rest good is ∙ rw (drop_all place.at cache.first.piece.items (omega (arith, given)), end) refl

  pub end-early : (place : Place) (cache : Cache) (rest : Stretch) → place.failed ≡ false → place.held ≡ true → cache.first.last ≡ true
      → place.at ≡ length cache.first.piece.items → EndsEarly 1 rest → IsFault (rest_of opened key place cache rest)
  end-early place cache rest good is end given early =
      let none : rest.bytes ≡ [] = nil_from_length rest.bytes (omega (arith, early.short)) in
      fault-of _ (rest-last place cache rest good is end given ∙ rw (none, early.badly) refl)

  some-more : (bytes : List ℕ) (w : Bool) → 0 < length bytes → after_last bytes w ≡ nothing
  some-more [] w some = absurd (omega arith)
  some-more (x ∷ xs) w some = refl

  pub end-more : (place : Place) (cache : Cache) (rest after : Stretch) (text : List ℕ) → place.failed ≡ false → place.held ≡ true
      → cache.first.last ≡ true → place.at ≡ length cache.first.piece.items → Delivers text rest after → 0 < length text
      → IsFault (rest_of opened key place cache rest)
  end-more place cache rest after text good is end given came some =
      fault-of _ (rest-last place cache rest good is end given
      ∙ some-more rest.bytes rest.ends_well (omega (arith, ap length came.bytes, length-append text after.bytes)))

  pub end-clean : (place now : Place) (cache : Cache) (rest after : Stretch) (text : List ℕ) → place.failed ≡ false → place.held ≡ true
      → cache.first.last ≡ true → place.at ≡ length cache.first.piece.items → StandsAt now place.number place.at true place.sought →
      Delivers text rest after → length text ≡ 0 → IsCleanEnd after →
      IsCleanEnd (rest_of opened key place cache rest) × (rest_of opened key now cache after ≡ rest_of opened key place cache rest)
  end-clean place now cache rest after text good is end given there came none clean =
      let no_text : text ≡ [] = nil_from_length text none in
      let no_bytes : rest.bytes ≡ [] = came.bytes ∙ rw (no_text, clean.bytes) refl in
      let well : rest.ends_well ≡ true = sym came.end ∙ clean.ends_well in
      let before = rest-last place cache rest good is end given ∙ rw (no_bytes, well) refl in
      let later = rest-last now cache after there.good there.held end (there.at ∙ given) ∙ rw (clean.bytes, clean.ends_well) refl in
      (rw before record { bytes = refl; ends_well = refl }, later ∙ sym before)

  -- what was copied from the chunk that is held was delivered
  pub gives : (place now : Place) (cache new_cache : Cache) (count : ℕ) (rest : Stretch) (front : List ℕ) →
      place.failed ≡ false → place.held ≡ true → StandsAt now place.number (place.at + count) true place.sought →
      new_cache.first.piece.items ≡ cache.first.piece.items → new_cache.first.last ≡ cache.first.last
      → front ≡ take count (drop place.at cache.first.piece.items) →
      Delivers front (rest_of opened key place cache rest) (rest_of opened key now new_cache rest)
  gives place now cache new_cache count rest front good is there piece last same =
      let chunk = cache.first.piece.items in
      let b = behind opened key cache.first.last place.number rest in
      let onward : drop count (drop place.at chunk) ≡ drop (place.at + count) chunk = drop-drop count place.at chunk in
      let later : rest_of opened key now new_cache rest ≡ prepend (drop (place.at + count) chunk) b =
      rest-held now new_cache rest there.good there.held ∙ rw (there.at, there.number, piece, last) refl in
      rw (rest-held place cache rest good is, later) record {
        bytes = rw (same, ← onward) (ap (λ h. h ++ b.bytes) (sym (take-append-drop count (drop place.at chunk)))
            ∙ append_assoc (take count (drop place.at chunk)) (drop count (drop place.at chunk)) b.bytes);
        end = refl;
      }

  -- ---- opening the chunk at the place

  -- nothing stands at any place of nothing
  gone-from : (at : ℕ) (s : Stretch) → s ≡ nothing → from_place at s ≡ nothing
  gone-from at s is = ap (from_place at) is ∙ stretch-ext (from_place at nothing) nothing (drop_all at [] (omega arith)) refl

  pub open-early : (place : Place) (cache : Cache) (rest : Stretch) → place.failed ≡ false → place.held ≡ false →
      EndsEarly 65552 rest → IsFault (rest_of opened key place cache rest)
  open-early place cache rest good is early =
      let gone : payload_delivers opened key place.number rest ≡ nothing =
      rw early.badly (delivered-cut opened key place.number rest.bytes early.short) in
      fault-of _ (rest-open place cache rest good is ∙ gone-from place.at _ gone)

  over-by : (text : List ℕ) (rest after : Stretch) → TookText rest after text → length text < 65552 → (after.bytes ≡ []) × (rest.ends_well ≡ true)
  over-by text rest after took less = ((took.ended less).bytes, sym took.came.end ∙ (took.ended less).ends_well)

  pub open-refused : (place : Place) (cache : Cache) (rest after : Stretch) (text : List ℕ) (e : Error) → place.failed ≡ false → place.held ≡ false →
      TookText rest after text → chunk_of opened key place.number text ≡ Err e → IsFault (rest_of opened key place cache rest)
  open-refused place cache rest after text e good is took bad =
      let gone : payload_delivers opened key place.number rest ≡ nothing =
      rw took.came.bytes (delivered-refused opened key place.number text after.bytes rest.ends_well e took.most (over-by text rest after took) bad) in
      fault-of _ (rest-open place cache rest good is ∙ gone-from place.at _ gone)

  opened-rest : (number : ℕ) (rest after : Stretch) (text plain : List ℕ) (last : Bool) → TookText rest after text →
      (length text < 65552 → last ≡ true) → chunk_of opened key number text ≡ Ok (plain, last) →
      payload_delivers opened key number rest ≡ prepend plain (behind opened key last number after)
  opened-rest number rest after text plain last took short is =
      let chunked = delivered-chunk opened key number text after.bytes rest.ends_well plain last took.most (over-by text rest after took) short is in
      rw (took.came.bytes, add-one, took.came.end) chunked

  module _ (place now : Place) (cache new_cache : Cache) (rest after : Stretch) (text : List ℕ) (good : place.failed ≡ false)
      (is : place.held ≡ false) (there : StandsAt now place.number place.at true place.sought) (took : TookText rest after text)
      (short : length text < 65552 → new_cache.first.last ≡ true)
      (ok : chunk_of opened key place.number text ≡ Ok (new_cache.first.piece.items, new_cache.first.last)) where
    opened-now : rest_of opened key now new_cache after
        ≡ prepend (drop place.at new_cache.first.piece.items) (behind opened key new_cache.first.last place.number after)
    opened-now = rest-held now new_cache after there.good there.held ∙ rw (there.at, there.number) refl

    -- the chunk at the place is held now
    pub rest-opened : place.at ≤ length new_cache.first.piece.items → rest_of opened key now new_cache after ≡ rest_of opened key place cache rest
    rest-opened within =
        let plain = new_cache.first.piece.items in
        opened-now
        ∙ stretch-ext _ _ (sym (drop-append-le place.at plain (behind opened key new_cache.first.last place.number after).bytes within)) refl
        ∙ sym (rest-open place cache rest good is
        ∙ ap (from_place place.at) (opened-rest place.number rest after text plain new_cache.first.last took short ok))

    -- an empty chunk was opened: nothing but a clean end was left
    pub clean-opened : length new_cache.first.piece.items + 16 ≡ length text → (0 < place.at → place.at < length new_cache.first.piece.items)
        → place.at ≡ length new_cache.first.piece.items → IsCleanEnd (rest_of opened key place cache rest)
    clean-opened longer before whole =
        let plain = new_cache.first.piece.items in
        let none : place.at ≡ 0 = elim (cases_lt 0 place.at) [
          | inl some ↦ absurd (omega (arith, before some, whole))
          | inr zero ↦ omega (arith, zero)
        ] in
        let few : length text < 65552 = omega (arith, whole, longer, none) in
        let same = rest-opened (omega (arith, whole)) in
        let end = took.ended few in
        rw (← same, opened-now, short few, drop_all place.at plain (omega (arith, whole)), end.bytes, end.ends_well)
        record { bytes = refl; ends_well = refl }

  -- the text of the chunk at the place was read and accepted
  pub held-now : (content rest after : Stretch) (place taken number at : ℕ) (text plain : List ℕ) (last : Bool) → StandsIn content place rest
      → taken ≤ place → taken ≡ 65552 * number →
      TookText rest after text → (length text < 65552 → last ≡ true) → chunk_of opened key number text ≡ Ok (plain, last) →
      IsHeld opened key (payload_at place taken content) number last at plain
      × IsPast (payload_at place taken content) number last (taken + length text) after
  held-now content rest after place taken number at text plain last stands fits stood took short ok =
      let came = took.came in
      let ended = took.ended in
      let payload = payload_at place taken content in
      let a = accepted opened key number text plain last ok in
      let inner = stood-taken content rest after place taken text stands fits took in
      let here : rest.bytes ≡ drop (65552 * number) payload.bytes = ap (λ s. s.bytes) inner ∙ ap (λ n. drop n payload.bytes) stood in
      let is_text = text-read content rest after place taken number text stands fits stood took in
      let long : length text + length after.bytes ≡ length payload.bytes - 65552 * number =
      sym (length-append text after.bytes) ∙ sym (ap length came.bytes) ∙ ap length here ∙ length-drop (65552 * number) payload.bytes in
      let well : rest.ends_well ≡ payload.ends_well = ap (λ s. s.ends_well) inner in (
        record {
          opens = ap (opened key (chunk_nonce number last)) is_text ∙ a.opens;
          judged = λ _. ap (chunk_of opened key number) is_text ∙ ok;
          whole = λ less. let few = subst (λ (xs : List ℕ). length xs < 65552) is_text less in
              (sym well ∙ sym came.end ∙ (ended few).ends_well, short few);
          some = omega (arith, a.some, long);
        },
        record {
          stood = λ middle. omega (arith, a.full middle, stood);
          past = elim (cases_lt (length text) 65552) [
            | inl less ↦
                let none : length after.bytes ≡ 0 = ap length (ended less).bytes in
                drop_all (taken + length text) payload.bytes (omega (arith, long, none, stood))
                ∙ sym (drop_all (65552 * number + 65552) payload.bytes (omega (arith, long, none, less)))
            | inr full ↦ let there : taken + length text ≡ 65552 * number + 65552 = omega (arith, stood, full, took.most) in
                ap (λ n. drop n payload.bytes) there
          ];
          ahead = stretch-ext after (from_place (65552 * number + 65552) payload)
              (elim (cases_lt (length text) 65552) [
                | inl less ↦
                    let none : length after.bytes ≡ 0 = ap length (ended less).bytes in
                    (ended less).bytes ∙ sym (drop_all (65552 * number + 65552) payload.bytes (omega (arith, long, none, less)))
                | inr full ↦ sym (drop_at text after.bytes 65552 (omega (arith, full, took.most))) ∙ ap (drop 65552) (sym came.bytes ∙ here)
                    ∙ drop-drop 65552 (65552 * number) payload.bytes
              ]) (came.end ∙ well);
        },
      )

  -- ---- what a reader keeps

  module _ {R : Type 0} {read : Ghosts R} where
    -- a new reader
    pub sound-new : (now : Place) (cache : Cache) (source : Source R read) → StandsAt now 0 0 false false → source.taken ≡ 0
        → StandsIn (read.content source.inner) (read.place source.inner) (read.rest source.inner) → IsSound opened key now cache source
    sound-new now cache source there none stands =
        let payload = payload_from source in
        let rest = read.rest source.inner in
        let whole : read.place source.inner ≡ read.place source.inner - source.taken = omega (arith, none) in
        record {
          inside = record { front = omega (arith, there.number); inside = λ some. absurd (omega (arith, there.at)) };
          before = λ _ _. record {
            stood = omega (arith, none, there.number);
            under = omega (arith, there.at);
            inside = λ some. absurd (omega (arith, there.at));
          };
          is_held = λ held. absurd (true≢false (sym held ∙ there.held));
          is_past = λ _ held. absurd (true≢false (sym held ∙ there.held));
          front = λ _ _ well.
              let unheld : rest_of opened key now cache rest ≡ payload_delivers opened key 0 rest =
              rest-open now cache rest there.good there.held ∙ rw (there.at, there.number) refl in
              let front : 0 ≡ 65536 * now.number + now.at = omega (arith, there.number, there.at) in
              subst (λ n. rest_of opened key now cache rest ≡ from_place n (payload_delivers opened key 0 payload)) front
              (unheld ∙ elim stands.reaches [
                | inl is ↦ ap (payload_delivers opened key 0) (is ∙ ap (λ n. from_place n (read.content source.inner)) whole)
                | inr is ↦ absurd (true≢false (sym well ∙ ap (λ s. s.ends_well)
                    (unheld ∙ ap (payload_delivers opened key 0) is ∙ delivered-nothing opened key 0)))
              ]);
        }

    module _ (place : Place) (cache : Cache) (source : Source R read) (sound : IsSound opened key place cache source) where
      -- bytes of the chunk that is held were given
      pub sound-given : (law : Shorter opened key) (now : Place) (new_cache : Cache) (count : ℕ) → AreBytes (read.content source.inner).bytes
          → place.failed ≡ false → place.held ≡ true → place.at + count ≤ length cache.first.piece.items → length cache.first.piece.items ≤ 65536 →
          StandsAt now place.number (place.at + count) true place.sought → new_cache.first.piece.items ≡ cache.first.piece.items
          → new_cache.first.last ≡ cache.first.last → IsSound opened key now new_cache source
      sound-given law now new_cache count bytes good is_held within small there piece last =
          let payload = payload_from source in
          let rest = read.rest source.inner in
          let chunk = cache.first.piece.items in
          let text = text_at place.number payload in
          let all : AreBytes payload.bytes =
          All-drop (λ x. x < 2 ^ 8) (read.place source.inner - source.taken) (read.content source.inner).bytes bytes in
          let are : AreBytes text = All-take (λ x. x < 2 ^ 8) 65552 (drop (65552 * place.number) payload.bytes)
          (All-drop (λ x. x < 2 ^ 8) (65552 * place.number) payload.bytes all) in
          let was = sound.is_held is_held in
          let short = law place.number cache.first.last text chunk are was.opens in
          let here : 65536 * place.number + place.at + length (take count (drop place.at chunk)) ≡ 65536 * now.number + now.at =
          omega (arith, there.number, there.at, length-take-le count (drop place.at chunk) (omega (arith, length-drop place.at chunk))) in
          record {
            inside = record {
              front = omega (arith, sound.inside.front, there.number);
              inside = λ some. rw (there.number, there.at) (plain-inside place.number (length text) (length chunk) (length payload.bytes) short
                  (length-text 65552 (65552 * place.number) payload.bytes) was.some (place.at + count) within);
            };
            before = λ _ shut. absurd (true≢false (sym there.held ∙ shut));
            is_held = λ _. rw (there.number, there.at, piece, last) record {
              opens = was.opens;
              judged = λ apart. was.judged (λ e. apart (record { is_last = e.is_last; none = e.none; full = omega (arith, e.full, within, small) }));
              whole = was.whole;
              some = was.some;
            };
            is_past = λ _ _. rw (there.number, last) (sound.is_past good is_held);
            front = λ unsought _. subst (λ n. IsRestOfText (payload_delivers opened key 0 payload) n (rest_of opened key now new_cache rest)) here
                (front-gives (payload_delivers opened key 0 payload) (65536 * place.number + place.at) (take count (drop place.at chunk)) _ _
                (sound.front (sym there.sought ∙ unsought) good)
                (gives place now cache new_cache count rest (take count (drop place.at chunk)) good is_held there piece last refl));
          }

      -- no byte came of the inner reader
      pub sound-stayed : (now : Place) (new : Source R read) → place.failed ≡ false → place.held ≡ true →
          StandsAt now place.number place.at true place.sought → payload_from new ≡ payload_from source → new.taken ≡ source.taken
          → read.rest new.inner ≡ read.rest source.inner → IsSound opened key now cache new
      sound-stayed now new good is_held there same taken rest =
          let payload = payload_from source in
          let here : 65536 * place.number + place.at ≡ 65536 * now.number + now.at = omega (arith, there.number, there.at) in
          let kept : rest_of opened key now cache (read.rest new.inner) ≡ rest_of opened key place cache (read.rest source.inner) =
          ap (rest_of opened key now cache) rest
          ∙ rest-like place now cache (read.rest source.inner) there.number there.at (there.held ∙ sym is_held) (there.good ∙ sym good) in
          record {
            inside = subst (λ p. IsInside (length p.bytes) now.number now.at) (sym same) (rw (there.number, there.at) sound.inside);
            before = λ _ shut. absurd (true≢false (sym there.held ∙ shut));
            is_held = λ _. subst (λ p. IsHeld opened key p now.number cache.first.last now.at cache.first.piece.items) (sym same)
                (rw (there.number, there.at) (sound.is_held is_held));
            is_past = λ _ _. subst (λ p. IsPast p now.number cache.first.last new.taken (read.rest new.inner)) (sym same)
                (rw (there.number, taken, rest) (sound.is_past good is_held));
            front = λ unsought _.
                subst (λ p. IsRestOfText (payload_delivers opened key 0 p) (65536 * now.number + now.at)
                (rest_of opened key now cache (read.rest new.inner))) (sym same)
                (subst (λ n. IsRestOfText (payload_delivers opened key 0 payload) n (rest_of opened key now cache (read.rest new.inner))) here
                (rw kept (sound.front (sym there.sought ∙ unsought) good)));
          }

      -- a middle chunk was given whole
      pub sound-passed : (now : Place) → place.failed ≡ false → place.held ≡ true → cache.first.last ≡ false
          → place.at ≡ length cache.first.piece.items
          → length cache.first.piece.items ≡ 65536 → StandsAt now (place.number + 1) 0 false place.sought → IsSound opened key now cache source
      sound-passed now good is_held middle given full there =
          let payload = payload_from source in
          let rest = read.rest source.inner in
          let here : 65536 * place.number + place.at ≡ 65536 * now.number + now.at = omega (arith, given, full, there.number, there.at) in
          let same = rest-passed place now cache rest good is_held middle given there in
          let inside = sound.inside.inside (omega (arith, given, full)) in
          record {
            inside = record {
              front = omega (arith, inside, given, full, there.number);
              inside = λ some. absurd (omega (arith, there.at));
            };
            before = λ _ _. record {
              stood = omega (arith, (sound.is_past good is_held).stood middle, there.number);
              under = omega (arith, there.at);
              inside = λ some. absurd (omega (arith, there.at));
            };
            is_held = λ held_now. absurd (true≢false (sym held_now ∙ there.held));
            is_past = λ _ held_now. absurd (true≢false (sym held_now ∙ there.held));
            front = λ unsought _. subst (λ n. IsRestOfText (payload_delivers opened key 0 payload) n (rest_of opened key now cache rest)) here
                (rw same (sound.front (sym there.sought ∙ unsought) good));
          }

      -- the chunk at the place was read and opened
      pub sound-opened : (now : Place) (new_cache : Cache) (new : Source R read) (text : List ℕ) → IsTrue (tells_from source) →
          payload_from new ≡ payload_from source → new.taken ≡ source.taken + length text → place.failed ≡ false → place.held ≡ false
          → place.at ≤ length new_cache.first.piece.items → StandsIn (read.content source.inner) (read.place source.inner) (read.rest source.inner) →
          TookText (read.rest source.inner) (read.rest new.inner) text → (length text < 65552 → new_cache.first.last ≡ true) →
          chunk_of opened key place.number text ≡ Ok (new_cache.first.piece.items, new_cache.first.last) →
          StandsAt now place.number place.at true place.sought → IsSound opened key now new_cache new
      sound-opened now new_cache new text told same took good is_open within stands took_text short ok there =
          let payload = payload_from source in
          let plain = new_cache.first.piece.items in
          let last = new_cache.first.last in
          let kept = rest-opened place now cache new_cache (read.rest source.inner) (read.rest new.inner) text good is_open there took_text short ok
          within in
          let held = held-now (read.content source.inner) (read.rest source.inner) (read.rest new.inner) (read.place source.inner) source.taken
          place.number place.at text plain last stands (source.fits told) (sound.before good is_open).stood took_text short ok in
          let is_past : IsPast payload place.number last new.taken (read.rest new.inner) =
          subst (λ n. IsPast payload place.number last n (read.rest new.inner)) (sym took) held.1 in
          record {
            inside = subst (λ p. IsInside (length p.bytes) now.number now.at) (sym same) (rw (there.number, there.at) sound.inside);
            before = λ _ shut. absurd (true≢false (sym there.held ∙ shut));
            is_held = λ _. subst (λ p. IsHeld opened key p now.number last now.at plain) (sym same) (rw (there.number, there.at) held.0);
            is_past = λ _ _. subst (λ p. IsPast p now.number last new.taken (read.rest new.inner)) (sym same) (rw there.number is_past);
            front = λ unsought _.
                let here : 65536 * place.number + place.at ≡ 65536 * now.number + now.at = omega (arith, there.number, there.at) in
                subst (λ p. IsRestOfText (payload_delivers opened key 0 p) (65536 * now.number + now.at)
                (rest_of opened key now new_cache (read.rest new.inner))) (sym same)
                (subst (λ n. IsRestOfText (payload_delivers opened key 0 payload) n (rest_of opened key now new_cache (read.rest new.inner))) here
                (rw kept (sound.front (sym there.sought ∙ unsought) good)));
          }
