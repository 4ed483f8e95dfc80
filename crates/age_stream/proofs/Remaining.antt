-- What reads can still deliver stands in the plaintext, also where the payload is bad.
use Rattle.std.specs.Prelude.{◌≡◌, ◌⊎◌, ℕ, ◌+◌, ◌-◌, ◌*◌, ◌/◌, ◌<◌, ◌≤◌, ◌&&◌, Option, Some, Ok, Err, Result, Bool, IsTrue, true, false, cond, List, [], ◌∷◌, ◌++◌, length, take, drop}
use Rattle.std.proofs.Common.{zero, suc, get_or, refl, sym, ap, subst, ◌∙◌, inl, inr, arith, length-append, length-drop}
use Rattle.std.proofs.Math.Seq.{drop-nil}
use Rattle.std.proofs.lemmas.Bool.{cases_lt, true≢false}
use Rattle.std.proofs.lemmas.List.{append-nil, take_all, drop-drop, get_or-drop, get_or_append_left, nil_from_length}
use Rattle.std.proofs.lemmas.List.Elements.{All-drop, All-take}
use Rattle.age_error.specs.Bytes.{AreBytes, AreBytesOf}
use Rattle.age_error.specs.declared.io.Error.{Error}
use Rattle.age_suite.specs.Suite.{IsCipher}
use Rattle.age_io.specs.declared.traits.Read.{Ghosts}
use Rattle.age_io.specs.Stretch.{Stretch, nothing, from_place}
use Rattle.age_io.specs.Reading.{StandsIn}
use Rattle.age_v1.specs.Payload.{Seal}
use Rattle.age_v1.proofs.OpenedTexts.{shorter}
use Rattle.age_v1.specs.DeliveredPayload.{Chunk, is_empty, chunk_of, after_chunk, after_last, delivers, payload_delivers, text_at}
use Rattle.age_v1.proofs.WellEndedPayloads.{accepted, delivered-nothing, well-length-by}
use Rattle.age_stream.specs.declared.cache.Cache.{Cache}
use Rattle.age_stream.specs.declared.place.Place.{Place}
use Rattle.age_stream.specs.declared.source.Source.{Source}
use Rattle.age_stream.specs.PrivateCache.{IsAtChunk}
use Rattle.age_stream.specs.Reading.{payload_from, behind, rest_of, tells_from, IsHeld, IsPast, StandsBeforeChunk, IsSound}
use Rattle.age_stream.specs.ReadingLemmas.{taken-rest}
use Rattle.age_v1.specs.PayloadAnswers.{OpensAs, IsByteAt, StandAt, IsGoodEnd}
use Rattle.age_v1.proofs.JudgedChunks.{judged-middle, judged-last, ends_last}
use Rattle.age_v1.proofs.TextLengths.{length-text, some-within, below-most, plain-most, plain-full, plain-whole, last-by_length, last-place}
use Rattle.age_v1.proofs.PayloadLengths.{plain_len-last}
use Rattle.age_stream.proofs.Answered.{good-end}
use Rattle.age_stream.proofs.Holding.{rest_failed, rest-held, rest-open}
use Rattle.age_v1.proofs.StandingBytes.{held-seal, stand-none, stand-joined}

module _ (seal_of : Seal) (opened : List ℕ → List ℕ → List ℕ → Option (List ℕ)) (law : IsCipher seal_of opened) (key : List ℕ) (k : AreBytesOf 32 key)
    (sealed : List ℕ) (b : AreBytes sealed) where
  -- the text of a chunk
  abbrev text_of : ℕ → List ℕ
  text_of number = take 65552 (drop (65552 * number) sealed)

  held_as : (last : Bool) (number : ℕ) (plain : List ℕ) → chunk_of opened key number (text_of number) ≡ Ok (plain, last)
      → OpensAs last seal_of key sealed number plain
  held_as true number plain is = judged-last seal_of opened law key k sealed b number plain is
  held_as false number plain is = judged-middle seal_of opened law key k sealed b number plain is

  -- the plaintext of a chunk that is accepted
  stand-chunk : (number : ℕ) (plain : List ℕ) (last : Bool) → chunk_of opened key number (text_of number) ≡ Ok (plain, last) →
      (length plain ≤ 65536) × (last ≡ false → length plain ≡ 65536) × StandAt seal_of key sealed (65536 * number) plain
  stand-chunk number plain last is =
      let seal = held-seal seal_of key last sealed plain number (held_as last number plain is) in
      let a = accepted opened key number (text_of number) plain last is in
      let less = shorter seal_of opened law key k number last (text_of number) plain
      (All-take (λ x. x < 256) 65552 (drop (65552 * number) sealed) (All-drop (λ x. x < 256) (65552 * number) sealed b)) a.opens in
      let most = plain-most number (length (text_of number)) (length plain) (length sealed) less (length-text 65552 (65552 * number) sealed) in (
        most,
        λ middle. plain-full number (length (text_of number)) (length plain) (length sealed) less (a.full middle),
        λ i within. record {
          number = number;
          at = i;
          last = last;
          plain = plain;
          stands = refl;
          under = below-most i (length plain) 65536 within most;
          within = within;
          bytes = seal.0;
          is_seal = seal.1;
          short = seal.2;
          is = refl;
        },
      )

  -- with what comes after it
  stand-after : (number : ℕ) (text : List ℕ) (middle last : Stretch) (found : Result Chunk Error) → text ≡ text_of number
      → chunk_of opened key number text ≡ found →
      last.bytes ≡ [] → StandAt seal_of key sealed (65536 * suc number) middle.bytes
      → StandAt seal_of key sealed (65536 * number) (after_chunk middle last found).bytes
  stand-after number text middle last (Err e) same is none after = stand-none seal_of key sealed (65536 * number)
  stand-after number text middle last (Ok (plain, true)) same is none after =
      let (most, full, stands) = stand-chunk number plain true (rw same at is) in
      subst (λ (l : List ℕ). StandAt seal_of key sealed (65536 * number) l) (sym (ap (λ l. plain ++ l) none ∙ append-nil plain)) stands
  stand-after number text middle last (Ok (plain, false)) same is none after =
      let (most, full, stands) = stand-chunk number plain false (rw same at is) in
      let next : 65536 * suc number ≡ 65536 * number + length plain = omega (arith, full refl) in
      stand-joined seal_of key sealed (65536 * number) plain middle.bytes stands
      (subst (λ (p : ℕ). StandAt seal_of key sealed p middle.bytes) next after)

  stand-end : (number : ℕ) (text : List ℕ) (ends_well : Bool) → text ≡ text_of number →
      StandAt seal_of key sealed (65536 * number)
      (cond ends_well (after_chunk nothing (after_last [] true) (chunk_of opened key number text)) nothing).bytes
  stand-end number text true same =
      stand-after number text nothing (after_last [] true) (chunk_of opened key number text) same refl refl
      (stand-none seal_of key sealed (65536 * suc number))
  stand-end number text false same = stand-none seal_of key sealed (65536 * number)

  -- what bytes of the payload deliver that have so many full chunks
  stand-delivers : (full number : ℕ) (bytes : List ℕ) (ends_well : Bool) → bytes ≡ drop (65552 * number) sealed → 65552 * full ≤ length bytes →
      length bytes < 65552 * full + 65552 → StandAt seal_of key sealed (65536 * number) (delivers opened key full number bytes ends_well).bytes
  unfolding delivers
  stand-delivers zero number bytes ends_well same few most =
      stand-end number bytes ends_well (sym (take_all 65552 bytes (omega (arith, most))) ∙ ap (λ l. take 65552 l) same)
  stand-delivers (suc full) number bytes ends_well same few most =
      let there : 65552 * number + 65552 ≡ 65552 * suc number = omega arith in
      let next : drop 65552 bytes ≡ drop (65552 * suc number) sealed =
      ap (λ l. drop 65552 l) same ∙ drop-drop 65552 (65552 * number) sealed ∙ ap (λ n. drop n sealed) there in
      let size = length-drop 65552 bytes in
      stand-after number (take 65552 bytes) (delivers opened key full (suc number) (drop 65552 bytes) ends_well)
      (after_last (drop 65552 bytes) ends_well)
      (chunk_of opened key number (take 65552 bytes)) (ap (λ l. take 65552 l) same) refl refl
      (stand-delivers full (suc number) (drop 65552 bytes) ends_well next (omega (arith, few, size)) (omega (arith, most, size)))

  -- what a reader delivers that stands before a chunk
  pub stand-delivered : (number : ℕ) (rest : Stretch) → rest.bytes ≡ drop (65552 * number) sealed
      → StandAt seal_of key sealed (65536 * number) (payload_delivers opened key number rest).bytes
  stand-delivered number rest same =
      stand-delivers (length rest.bytes / 65552) number rest.bytes rest.ends_well same (omega arith) (omega arith)

module _ (seal_of : Seal) (key sealed : List ℕ) where
  -- without the first of them
  pub stand-dropped : (place n : ℕ) (bytes : List ℕ) → StandAt seal_of key sealed place bytes → StandAt seal_of key sealed (place + n) (drop n bytes)
  stand-dropped place n bytes stands = λ i within.
      let there : place + (n + i) ≡ place + n + i = omega arith in
      let byte : get_or bytes (n + i) 0 ≡ get_or (drop n bytes) i 0 = sym (get_or-drop n bytes i 0) in
      subst (λ (v : ℕ). IsByteAt seal_of key sealed (place + n + i) v) byte
      (subst (λ (p : ℕ). IsByteAt seal_of key sealed p (get_or bytes (n + i) 0)) there (stands (n + i) (omega (arith, within, length-drop n bytes))))

  -- the first of them
  pub stand-front : (place : ℕ) (front after : List ℕ) → StandAt seal_of key sealed place (front ++ after) → StandAt seal_of key sealed place front
  stand-front place front after stands = λ i within.
      subst (λ (v : ℕ). IsByteAt seal_of key sealed (place + i) v) (get_or_append_left front after 0 i within)
      (stands i (omega (arith, within, length-append front after)))

module _ (seal_of : Seal) (opened : List ℕ → List ℕ → List ℕ → Option (List ℕ)) (law : IsCipher seal_of opened) (key : List ℕ) (k : AreBytesOf 32 key)
    (payload : Stretch) (b : AreBytes payload.bytes) where
  -- what is left of the chunk that is held
  held-left : (number at : ℕ) (last : Bool) (plain : List ℕ) → IsHeld opened key payload number last at plain → at ≤ length plain
      → length plain ≤ 65536 →
      StandAt seal_of key payload.bytes (65536 * number + at) (drop at plain)
  held-left number at last plain held within small = elim (cases_lt at (length plain)) [
    | inl more ↦
        let judged = held.judged (λ e. absurd (omega (arith, e.full, more, small))) in
        let (most, full, stands) = stand-chunk seal_of opened law key k payload.bytes b number plain last judged in
        stand-dropped seal_of key payload.bytes (65536 * number) at plain stands
    | inr end ↦
        let none : drop at plain ≡ [] = nil_from_length (drop at plain) (omega (arith, end, length-drop at plain)) in
        subst (λ (l : List ℕ). StandAt seal_of key payload.bytes (65536 * number + at) l) (sym none)
        (stand-none seal_of key payload.bytes (65536 * number + at))
  ]

  -- and what comes after it
  held-on : (number at : ℕ) (last : Bool) (plain : List ℕ) (rest : Stretch) → IsHeld opened key payload number last at plain → at ≤ length plain
      → length plain ≤ 65536 →
      (last ≡ false → length plain ≡ 65536) → rest ≡ from_place (65552 * number + 65552) payload →
      StandAt seal_of key payload.bytes (65536 * number + at) (drop at plain ++ (behind opened key last number rest).bytes)
  held-on number at true plain rest held within small full ahead =
      subst (λ (l : List ℕ). StandAt seal_of key payload.bytes (65536 * number + at) l) (sym (append-nil (drop at plain)))
      (held-left number at true plain held within small)
  held-on number at false plain rest held within small full ahead =
      let next : 65552 * number + 65552 ≡ 65552 * (number + 1) = omega arith in
      let there : 65536 * (number + 1) ≡ 65536 * number + at + length (drop at plain) = omega (arith, within, full refl, length-drop at plain) in
      let after = stand-delivered seal_of opened law key k payload.bytes b (number + 1) rest
      (ap (λ s. s.bytes) ahead ∙ ap (λ n. drop n payload.bytes) next) in
      stand-joined seal_of key payload.bytes (65536 * number + at) (drop at plain) (payload_delivers opened key (number + 1) rest).bytes
      (held-left number at false plain held within small)
      (subst (λ (p : ℕ). StandAt seal_of key payload.bytes p (payload_delivers opened key (number + 1) rest).bytes) there after)

  -- what stands from the chunk at the place on
  before-on : (number at taken : ℕ) (rest : Stretch) → taken ≡ 65552 * number → (rest ≡ from_place taken payload) ⊎ (rest ≡ nothing) →
      StandAt seal_of key payload.bytes (65536 * number + at) (drop at (payload_delivers opened key number rest).bytes)
  before-on number at taken rest stood (inl is) =
      stand-dropped seal_of key payload.bytes (65536 * number) at (payload_delivers opened key number rest).bytes
      (stand-delivered seal_of opened law key k payload.bytes b number rest (ap (λ s. s.bytes) is ∙ ap (λ n. drop n payload.bytes) stood))
  before-on number at taken rest stood (inr is) =
      let none : drop at (payload_delivers opened key number rest).bytes ≡ [] =
      ap (λ s. drop at (payload_delivers opened key number s).bytes) is ∙ ap (λ s. drop at s.bytes) (delivered-nothing opened key number)
      ∙ drop-nil at in
      subst (λ (l : List ℕ). StandAt seal_of key payload.bytes (65536 * number + at) l) (sym none)
      (stand-none seal_of key payload.bytes (65536 * number + at))

-- ---- a clean end of what is left

ended-by : (bytes : List ℕ) (w : Bool) → (is_empty bytes && w) ≡ true → (length bytes ≡ 0) × (w ≡ true)
ended-by [] w is = (refl, is)
ended-by (x ∷ xs) w is = absurd (true≢false (sym is))

module _ (seal_of : Seal) (opened : List ℕ → List ℕ → List ℕ → Option (List ℕ)) (law : IsCipher seal_of opened) (key : List ℕ) (k : AreBytesOf 32 key)
    (payload : Stretch) (b : AreBytes payload.bytes) where
  -- the chunk is accepted as the last, and nothing follows it
  last-good : (number : ℕ) (plain : List ℕ) → chunk_of opened key number (text_at number payload) ≡ Ok (plain, true) →
      length payload.bytes ≤ 65552 * number + 65552 → payload.ends_well ≡ true → IsGoodEnd seal_of key payload (65536 * number + length plain)
  last-good number plain is few well =
      let text = text_at number payload in
      let a = accepted opened key number text plain true is in
      let some : 0 < number → 0 < length plain = λ later. elim (cases_lt 0 (length plain)) [
        | inl byte ↦ byte
        | inr empty ↦ absurd (omega (arith, later, a.first (omega (arith, empty))))
      ] in
      let are : AreBytes text = All-take (λ x. x < 256) 65552 (drop (65552 * number) payload.bytes)
      (All-drop (λ x. x < 256) (65552 * number) payload.bytes b) in
      let whole = plain-whole number (length text) (length plain) (length payload.bytes)
      (shorter seal_of opened law key k number true text plain are a.opens)
      (length-text 65552 (65552 * number) payload.bytes) few (some-within 65552 (65552 * number) payload.bytes a.some) in
      let by_length = plain_len-last (length payload.bytes) number (last-by_length number (length plain) (length payload.bytes) whole few some) in
      let place = last-place number (length plain) (length payload.bytes) whole in
      record {
        ends_well = well;
        length_is = by_length.1 ∙ ap (λ n. Some n) place;
        last = ends_last seal_of opened law key k payload.bytes b number plain (sym by_length.0) a.opens;
      }

  -- what a chunk and what comes after it deliver ends well
  good-after : (number : ℕ) (text : List ℕ) (middle last : Stretch) (found : Result Chunk Error) → text ≡ text_at number payload →
      chunk_of opened key number text ≡ found → last.bytes ≡ [] →
      (last.ends_well ≡ true → (length payload.bytes ≤ 65552 * number + 65552) × (payload.ends_well ≡ true)) →
      (middle.ends_well ≡ true → IsGoodEnd seal_of key payload (65536 * suc number + length middle.bytes)) →
      (after_chunk middle last found).ends_well ≡ true → IsGoodEnd seal_of key payload (65536 * number + length (after_chunk middle last found).bytes)
  good-after number text middle last (Err e) same is none end on well = absurd (true≢false (sym well))
  good-after number text middle last (Ok (plain, true)) same is none end on well =
      let (few, ends) = end well in
      let all : length plain ≡ length (plain ++ last.bytes) = omega (arith, length-append plain last.bytes, ap length none) in
      subst (λ (n : ℕ). IsGoodEnd seal_of key payload (65536 * number + n)) all (last-good number plain (rw same at is) few ends)
  good-after number text middle last (Ok (plain, false)) same is none end on well =
      let (most, full, stands) = stand-chunk seal_of opened law key k payload.bytes b number plain false (rw same at is) in
      let there : 65536 * suc number + length middle.bytes ≡ 65536 * number + length (plain ++ middle.bytes) =
      omega (arith, full refl, length-append plain middle.bytes) in
      subst (λ (n : ℕ). IsGoodEnd seal_of key payload n) there (on well)

  good-end-chunk : (number : ℕ) (text : List ℕ) (ends_well : Bool) → text ≡ text_at number payload → ends_well ≡ payload.ends_well →
      length payload.bytes ≤ 65552 * number + 65552 →
      (cond ends_well (after_chunk nothing (after_last [] true) (chunk_of opened key number text)) nothing).ends_well ≡ true →
      IsGoodEnd seal_of key payload (65536 * number
      + length (cond ends_well (after_chunk nothing (after_last [] true) (chunk_of opened key number text)) nothing).bytes)
  good-end-chunk number text true same end few well =
      good-after number text nothing (after_last [] true) (chunk_of opened key number text) same refl refl (λ _. (few, sym end))
      (λ never. absurd (true≢false (sym never))) well
  good-end-chunk number text false same end few well = absurd (true≢false (sym well))

  good-delivers : (full number : ℕ) (bytes : List ℕ) (ends_well : Bool) → bytes ≡ drop (65552 * number) payload.bytes
      → ends_well ≡ payload.ends_well →
      65552 * full ≤ length bytes → length bytes < 65552 * full + 65552 → (delivers opened key full number bytes ends_well).ends_well ≡ true →
      IsGoodEnd seal_of key payload (65536 * number + length (delivers opened key full number bytes ends_well).bytes)
  unfolding delivers
  good-delivers zero number bytes ends_well same end few most well =
      let text = sym (take_all 65552 bytes (omega (arith, most))) ∙ ap (λ l. take 65552 l) same in
      let size = length-drop (65552 * number) payload.bytes in
      good-end-chunk number bytes ends_well text end (omega (arith, most, size, ap length same)) well
  good-delivers (suc full) number bytes ends_well same end few most well =
      let there : 65552 * number + 65552 ≡ 65552 * suc number = omega arith in
      let next : drop 65552 bytes ≡ drop (65552 * suc number) payload.bytes =
      ap (λ l. drop 65552 l) same ∙ drop-drop 65552 (65552 * number) payload.bytes ∙ ap (λ n. drop n payload.bytes) there in
      let size = length-drop 65552 bytes in
      let whole = length-drop (65552 * number) payload.bytes in
      good-after number (take 65552 bytes) (delivers opened key full (suc number) (drop 65552 bytes) ends_well)
      (after_last (drop 65552 bytes) ends_well)
      (chunk_of opened key number (take 65552 bytes)) (ap (λ l. take 65552 l) same) refl refl
      (λ ends. let (none, is) = ended-by (drop 65552 bytes) ends_well ends in (omega (arith, none, size, whole, ap length same), sym end ∙ is))
      (λ on. good-delivers full (suc number) (drop 65552 bytes) ends_well next end (omega (arith, few, size)) (omega (arith, most, size)) on) well

  good-delivered : (number : ℕ) (rest : Stretch) → rest ≡ from_place (65552 * number) payload
      → (payload_delivers opened key number rest).ends_well ≡ true →
      IsGoodEnd seal_of key payload (65536 * number + length (payload_delivers opened key number rest).bytes)
  good-delivered number rest same well =
      good-delivers (length rest.bytes / 65552) number rest.bytes rest.ends_well (ap (λ s. s.bytes) same) (ap (λ s. s.ends_well) same)
      (omega arith) (omega arith) well

  -- of a chunk that is held and what comes after it
  good-held : (number at taken : ℕ) (last : Bool) (plain : List ℕ) (rest : Stretch) → IsHeld opened key payload number last at plain
      → at ≤ length plain → length plain ≤ 65536 →
      (last ≡ false → length plain ≡ 65536) → IsPast payload number last taken rest → (behind opened key last number rest).ends_well ≡ true →
      IsGoodEnd seal_of key payload (65536 * number + at + length (drop at plain ++ (behind opened key last number rest).bytes))
  good-held number at taken true plain rest held within small full past well =
      let (none, ends) = ended-by rest.bytes rest.ends_well well in
      let empty : rest.bytes ≡ [] = nil_from_length rest.bytes none in
      let there : 65536 * number + length plain ≡ 65536 * number + at + length (drop at plain ++ []) =
      omega (arith, within, length-drop at plain, ap length (append-nil (drop at plain))) in
      subst (λ (n : ℕ). IsGoodEnd seal_of key payload n) there (elim (cases_lt at (length plain)) [
        | inl more ↦
            let judged = held.judged (λ e. absurd (omega (arith, e.full, more, small))) in
            let size = length-drop (65552 * number + 65552) payload.bytes in
            let ahead = ap (λ s. length s.bytes) past.ahead in
            last-good number plain judged (omega (arith, size, ahead, none)) (sym (ap (λ s. s.ends_well) past.ahead) ∙ ends)
        | inr end ↦
            let all : at ≡ length plain = omega (arith, end, within) in
            subst (λ (n : ℕ). IsGoodEnd seal_of key payload (65536 * number + n)) all
            (good-end seal_of opened law key k payload rest number taken at true plain b held refl past all
            (record { bytes = empty; ends_well = ends }))
      ])
  good-held number at taken false plain rest held within small full past well =
      let next : 65552 * number + 65552 ≡ 65552 * (number + 1) = omega arith in
      let after = payload_delivers opened key (number + 1) rest in
      let there : 65536 * (number + 1) + length after.bytes ≡ 65536 * number + at + length (drop at plain ++ after.bytes) =
      omega (arith, within, full refl, length-drop at plain, length-append (drop at plain) after.bytes) in
      subst (λ (n : ℕ). IsGoodEnd seal_of key payload n) there
      (good-delivered (number + 1) rest (past.ahead ∙ ap (λ n. from_place n payload) next) well)

  -- of what stands from the chunk at the place on
  good-before : (number at taken : ℕ) (rest : Stretch) → StandsBeforeChunk (length payload.bytes) number at taken
      → (rest ≡ from_place taken payload) ⊎ (rest ≡ nothing) →
      (payload_delivers opened key number rest).ends_well ≡ true
      → IsGoodEnd seal_of key payload (65536 * number + at + length (drop at (payload_delivers opened key number rest).bytes))
  good-before number at taken rest before (inl is) well =
      let same : rest ≡ from_place (65552 * number) payload = is ∙ ap (λ n. from_place n payload) before.stood in
      let content = payload_delivers opened key number rest in
      let bytes : AreBytes rest.bytes = subst (λ (s : Stretch). AreBytes s.bytes) (sym same)
      (All-drop (λ x. x < 256) (65552 * number) payload.bytes b) in
      let long = well-length-by opened key (shorter seal_of opened law key k) (length rest.bytes) number rest bytes (omega arith) well in
      let size : length rest.bytes ≡ length payload.bytes - 65552 * number =
      ap (λ s. length s.bytes) same ∙ length-drop (65552 * number) payload.bytes in
      let inside : at ≤ length content.bytes = elim (cases_lt 0 at) [
        | inl some ↦ omega (arith, before.inside some, before.under, long.less, long.enough, size)
        | inr none ↦ omega (arith, none)
      ] in
      let there : 65536 * number + length content.bytes ≡ 65536 * number + at + length (drop at content.bytes) =
      omega (arith, inside, length-drop at content.bytes) in
      subst (λ (n : ℕ). IsGoodEnd seal_of key payload n) there (good-delivered number rest same well)
  good-before number at taken rest before (inr is) well =
      let bad : false ≡ true = sym (ap (λ s. s.ends_well) (delivered-nothing opened key number))
      ∙ sym (ap (λ s. (payload_delivers opened key number s).ends_well) is) ∙ well in
      absurd (true≢false (sym bad))

-- ---- what a reader can still deliver

module _ (seal_of : Seal) (opened : List ℕ → List ℕ → List ℕ → Option (List ℕ)) (law : IsCipher seal_of opened) (key : List ℕ)
    (k : AreBytesOf 32 key) {R : Type 0} {read : Ghosts R} (place : Place) (cache : Cache) (source : Source R read)
    (told : IsTrue (tells_from source)) (bytes : AreBytes (read.content source.inner).bytes)
    (stands : StandsIn (read.content source.inner) (read.place source.inner) (read.rest source.inner))
    (chunk : place.held ≡ true → IsAtChunk place.number place.at cache) (sound : IsSound opened key place cache source) where
  all-bytes : AreBytes (payload_from source).bytes
  all-bytes = All-drop (λ x. x < 256) (read.place source.inner - source.taken) (read.content source.inner).bytes bytes

  reaches : (read.rest source.inner ≡ from_place source.taken (payload_from source)) ⊎ (read.rest source.inner ≡ nothing)
  reaches = taken-rest (read.content source.inner) (read.rest source.inner) (read.place source.inner) source.taken stands (source.fits told)

  stand-by : (f h : Bool) → place.failed ≡ f → place.held ≡ h → StandAt seal_of key (payload_from source).bytes (65536 * place.number + place.at)
      (rest_of opened key place cache (read.rest source.inner)).bytes
  stand-by true h failed held =
      rw (rest_failed opened key place cache (read.rest source.inner) failed)
      (stand-none seal_of key (payload_from source).bytes (65536 * place.number + place.at))
  stand-by false true good held =
      let at = chunk held in
      rw (rest-held opened key place cache (read.rest source.inner) good held)
      (held-on seal_of opened law key k (payload_from source) all-bytes place.number place.at cache.first.last cache.first.piece.items (read.rest
      source.inner)
      (sound.is_held held) at.in_chunk at.small at.full (sound.is_past good held).ahead)
  stand-by false false good shut =
      rw (rest-open opened key place cache (read.rest source.inner) good shut)
      (before-on seal_of opened law key k (payload_from source) all-bytes place.number place.at source.taken (read.rest source.inner)
      (sound.before good shut).stood reaches)

  -- It stands in the plaintext, whatever was sought.
  pub stand-rest : StandAt seal_of key (payload_from source).bytes (65536 * place.number + place.at)
      (rest_of opened key place cache (read.rest source.inner)).bytes
  stand-rest = stand-by place.failed place.held refl refl

  -- Where it ends well, the payload does, at a length that fits, and with a last chunk.
  module _ (well : (rest_of opened key place cache (read.rest source.inner)).ends_well ≡ true) where
    good-by : (f h : Bool) → place.failed ≡ f → place.held ≡ h → IsGoodEnd seal_of key (payload_from source)
        (65536 * place.number + place.at + length (rest_of opened key place cache (read.rest source.inner)).bytes)
    good-by true h failed held =
        absurd (true≢false (sym well ∙ ap (λ s. s.ends_well) (rest_failed opened key place cache (read.rest source.inner) failed)))
    good-by false true good held =
        let at = chunk held in
        let is = rest-held opened key place cache (read.rest source.inner) good held in
        rw is (good-held seal_of opened law key k (payload_from source) all-bytes place.number place.at source.taken cache.first.last
        cache.first.piece.items
        (read.rest source.inner) (sound.is_held held) at.in_chunk at.small at.full (sound.is_past good held) (rw is at well))
    good-by false false good shut =
        let is = rest-open opened key place cache (read.rest source.inner) good shut in
        rw is (good-before seal_of opened law key k (payload_from source) all-bytes place.number place.at source.taken (read.rest source.inner)
        (sound.before good shut) reaches (rw is at well))

    pub good-rest : IsGoodEnd seal_of key (payload_from source)
        (65536 * place.number + place.at + length (rest_of opened key place cache (read.rest source.inner)).bytes)
    good-rest = good-by place.failed place.held refl refl
