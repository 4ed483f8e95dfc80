-- What a `StreamReader`'s steps answer, in the words of the definition.
use Rattle.std.specs.Prelude.{◌≡◌, ℕ, ◌+◌, ◌-◌, ◌*◌, ◌^◌, ◌<◌, ◌≤◌, ◌⊎◌, Option, Some, Ok, Err, Bool, true, false, List, [], ◌++◌, length, take, drop, min}
use Rattle.std.proofs.Common.{refl, sym, ap, subst, ◌∙◌, inl, inr, arith, length-append, length-drop, length-take-le}
use Rattle.std.proofs.lemmas.List.{append-nil, take_all, take_at}
use Rattle.std.proofs.lemmas.List.Elements.{All-drop, All-take, All-nil}
use Rattle.std.proofs.lemmas.Bool.{cases_lt, true≢false}
use Rattle.age_error.specs.Bytes.{AreBytes, AreBytesOf}
use Rattle.age_error.specs.declared.io.Error.{Error}
use Rattle.age_error.specs.declared.io.Error.TheVariants.{AfterLast}
use Rattle.age_suite.specs.Suite.{IsCipher}
use Rattle.age_io.specs.Stretch.{Stretch, nothing, whole, from_place, stretch-ext, IsCleanEnd}
use Rattle.age_io.specs.Reading.{StandsIn, Delivers}
use Rattle.age_v1.specs.Payload.{Seal, chunk_nonce}
use Rattle.age_v1.proofs.OpenedTexts.{shorter}
use Rattle.age_stream.specs.ReadingLemmas.{at_full_end}
use Rattle.age_v1.proofs.TextLengths.{length-text, no-more, plain-whole, last-by_length, last-place}
use Rattle.age_v1.proofs.PayloadLengths.{plain_len-last}
use Rattle.age_v1.specs.DeliveredPayload.{chunk_of, payload_delivers, text_at}
use Rattle.age_v1.specs.PayloadRefusals.{StopsAt}
use Rattle.age_v1.proofs.WellEndedPayloads.{accepted}
use Rattle.age_v1.specs.PayloadAnswers.{OpensAs, Gives, RefusesRead, RefusesItself, StopsNear, IsPayloadEnd, IsGoodEnd}
use Rattle.age_stream.specs.Reading.{payload_at, IsRestOfText, IsHeld, IsPast, TookText}
use Rattle.age_v1.proofs.Payloads.{plain_len-payload, chunk-last}
use Rattle.age_v1.proofs.JudgedChunks.{text_chunk, allowed-accepted, judged-middle, judged-last, judged-refused, judged-after_last, ends_last}
use Rattle.age_v1.proofs.ReopenedPayloads.{payload-delivered}
use Rattle.age_stream.proofs.Holding.{text-read, held-now}

-- the rest of a steady reader is bytes
pub rest-bytes : (content rest : Stretch) (place : ℕ) → StandsIn content place rest → AreBytes content.bytes → AreBytes rest.bytes
rest-bytes content rest place stands bytes = elim stands.reaches [
  | inl is ↦ rw is (All-drop (λ x. x < 2 ^ 8) place content.bytes bytes)
  | inr is ↦ rw is (All-nil (λ x. x < 2 ^ 8))
]

-- what was read into room for so many bytes, or up to the end
pub read-through : (bytes front back : List ℕ) (filled room : ℕ) → bytes ≡ front ++ back → length front ≡ filled → filled ≤ room
    → (filled < room → back ≡ []) → front ≡ take room bytes
read-through bytes front back filled room is long fits ended = elim (cases_lt filled room) [
  | inl less ↦ sym (ap (take room) is ∙ ap (λ b. take room (front ++ b)) (ended less) ∙ ap (take room) (append-nil front)
      ∙ take_all room front (omega (arith, long, fits)))
  | inr full ↦ sym (ap (take room) is ∙ take_at front back room (omega (arith, long, fits, full)))
]

-- what is refused for the chunk at the place alone is refused
pub refuses-widened : (seal_of : Seal) (key : List ℕ) (sealed rest : Stretch) (wanted place : ℕ) (e : Error)
    → RefusesItself seal_of key sealed rest wanted place e →
    RefusesRead seal_of key sealed rest wanted place e
refuses-widened seal_of key sealed rest wanted place e r = record {
  number = r.number;
  from = r.from;
  to = omega (arith, r.to);
  why = elim r.why [ inl early ↦ inl early | inr stops ↦ inr stops.1 ];
}

-- what is refused over an inner reader that ends well is refused for its bytes
pub refuses-near : (seal_of : Seal) (key : List ℕ) (sealed rest : Stretch) (wanted place : ℕ) (e : Error)
    → RefusesRead seal_of key sealed rest wanted place e → rest.ends_well ≡ true →
    StopsNear seal_of key sealed.bytes place e
refuses-near seal_of key sealed rest wanted place e r well = record {
  number = r.number;
  from = r.from;
  to = r.to;
  why = elim r.why [ inl early ↦ absurd (true≢false (sym well ∙ early.badly)) | inr stops ↦ stops ];
}

-- a reader that sought nothing, or whose content ends well, stands in the content
pub front-either : (sought : Bool) (content rest : Stretch) (place : ℕ) → (sought ≡ false → IsRestOfText content place rest) →
    (sought ≡ true → (rest ≡ from_place place content) ⊎ (rest ≡ nothing)) → IsRestOfText content place rest
front-either false content rest place unsought stands = unsought refl
front-either true content rest place unsought stands = λ well. elim (stands refl) [
  | inl is ↦ is
  | inr is ↦ absurd (true≢false (sym well ∙ ap (λ s. s.ends_well) is))
]

module _ (seal_of : Seal) (opened : List ℕ → List ℕ → List ℕ → Option (List ℕ)) (law : IsCipher seal_of opened) (key : List ℕ)
    (k : AreBytesOf 32 key) where
  held_as : (last : Bool) (sealed plain : List ℕ) (number : ℕ) → AreBytes sealed
      → chunk_of opened key number (take 65552 (drop (65552 * number) sealed)) ≡ Ok (plain, last) →
      OpensAs last seal_of key sealed number plain
  held_as true sealed plain number b is = judged-last seal_of opened law key k sealed b number plain is
  held_as false sealed plain number b is = judged-middle seal_of opened law key k sealed b number plain is

  -- bytes of the chunk that is held
  pub gives-held : (payload : Stretch) (number at room : ℕ) (last : Bool) (plain front : List ℕ) → AreBytes payload.bytes
      → IsHeld opened key payload number last at plain →
      length plain ≤ 65536 → at < length plain → front ≡ take (min room (length plain - at)) (drop at plain) →
      Gives seal_of key payload (65536 * number + at) room front
  gives-held payload number at room last plain front b held small within is =
      let judged = held.judged (λ e. absurd (omega (arith, e.full, within, small))) in
      let long : length front ≡ min room (length plain - at) =
      ap length is ∙ length-take-le (min room (length plain - at)) (drop at plain) (omega (arith, length-drop at plain)) in
      record {
        number = number;
        at = at;
        last = last;
        plain = plain;
        stands = refl;
        within = within;
        small = small;
        held = held_as last payload.bytes plain number b judged;
        allowed = allowed-accepted opened key number (text_at number payload) plain last
            (accepted opened key number (text_at number payload) plain last judged);
        judged = λ less. (held.whole (subst (λ (xs : List ℕ). length xs < 65552) (sym (text_chunk number payload)) less)).0;
        exact = long;
        are = is ∙ ap (λ n. take n (drop at plain)) (sym long);
      }

  -- the chunk at the place was read and is refused
  pub refuses-chunk : (content rest after : Stretch) (place taken number : ℕ) (text : List ℕ) (e : Error) → AreBytes content.bytes
      → StandsIn content place rest → taken ≤ place → taken ≡ 65552 * number →
      65552 * number ≤ length (payload_at place taken content).bytes → TookText rest after text → chunk_of opened key number text ≡ Err e →
      StopsAt seal_of key (payload_at place taken content).bytes number e
  refuses-chunk content rest after place taken number text e bytes stands fits stood within took bad =
      let payload = payload_at place taken content in
      let b : AreBytes payload.bytes = All-drop (λ x. x < 2 ^ 8) (place - taken) content.bytes bytes in
      judged-refused seal_of opened law key k payload.bytes b number e within
      (ap (chunk_of opened key number) (text-read content rest after place taken number text stands fits stood took) ∙ bad)

  -- a byte comes after the last chunk
  pub refuses-after : (payload rest after : Stretch) (number taken : ℕ) (last : Bool) (at : ℕ) (plain text : List ℕ) → AreBytes payload.bytes
      → IsHeld opened key payload number last at plain → last ≡ true →
      IsPast payload number last taken rest → Delivers text rest after → 0 < length text → StopsAt seal_of key payload.bytes number AfterLast
  refuses-after payload rest after number taken last at plain text b held end past came some =
      let more : length text + length after.bytes ≡ length payload.bytes - (65552 * number + 65552) =
      sym (length-append text after.bytes) ∙ sym (ap length came.bytes) ∙ ap (λ s. length s.bytes) past.ahead
      ∙ length-drop (65552 * number + 65552) payload.bytes in
      let accepts : chunk_of opened key number (text_at number payload) ≡ Ok (plain, last) =
      held.judged (λ e. absurd (omega (arith, more, some, e.none))) in
      let judged : chunk_of opened key number (text_at number payload) ≡ Ok (plain, true) = rw end at accepts in
      judged-after_last seal_of opened law key k payload.bytes b number plain judged (omega (arith, more, some))

  -- the end was found: the payload was that of the content
  pub end-found : (payload content rest : Stretch) (place : ℕ) → AreBytes payload.bytes → AreBytes content.bytes
      → payload_delivers opened key 0 payload ≡ content →
      (content.ends_well ≡ true → place ≤ length content.bytes) → IsRestOfText content place rest → IsCleanEnd rest
      → IsPayloadEnd seal_of key payload place content.bytes
  end-found payload content rest place b cb is within front clean =
      let was = front clean.ends_well in
      let well : content.ends_well ≡ true = sym (ap (λ s. s.ends_well) was) ∙ clean.ends_well in
      let none : length content.bytes - place ≡ 0 =
      sym (length-drop place content.bytes) ∙ sym (ap (λ s. length s.bytes) was) ∙ ap length clean.bytes in
      let all : place ≡ length content.bytes = omega (arith, none, within well) in
      let whole_content : content ≡ whole content.bytes = stretch-ext content (whole content.bytes) refl well in
      let found = payload-delivered seal_of opened law key k payload content.bytes b (is ∙ whole_content) in
      record {
        is_payload = found;
        all = all;
        length_is = rw (found, all) (plain_len-payload seal_of opened law key k content.bytes cb);
        last_chunk = rw found (chunk-last seal_of opened law key k content.bytes cb);
      }

  -- the end was found after a chunk that is held as the last
  pub good-end : (payload rest : Stretch) (number taken at : ℕ) (last : Bool) (plain : List ℕ) → AreBytes payload.bytes
      → IsHeld opened key payload number last at plain →
      last ≡ true → IsPast payload number last taken rest → at ≡ length plain → IsCleanEnd rest → IsGoodEnd seal_of key payload (65536 * number + at)
  good-end payload rest number taken at last plain b held end past given clean =
      let text = text_at number payload in
      let are : AreBytes text = All-take (λ x. x < 2 ^ 8) 65552 (drop (65552 * number) payload.bytes)
      (All-drop (λ x. x < 2 ^ 8) (65552 * number) payload.bytes b) in
      let opens : opened key (chunk_nonce number true) text ≡ Some plain = rw end at held.opens in
      let none : length payload.bytes - (65552 * number + 65552) ≡ 0 =
      sym (length-drop (65552 * number + 65552) payload.bytes) ∙ sym (ap (λ s. length s.bytes) past.ahead) ∙ ap length clean.bytes in
      let some : 0 < number → 0 < length plain = λ later. elim (at_full_end last number at (length payload.bytes)) [
        | inl apart ↦ elim (cases_lt 0 (length plain)) [
          | inl byte ↦ byte
          | inr empty ↦ absurd (omega (arith, later, (accepted opened key number text plain last (held.judged apart)).first (omega (arith, empty))))
        ]
        | inr full ↦ omega (arith, given, full.full)
      ] in
      let few = no-more (length payload.bytes) (65552 * number + 65552) none in
      let whole = plain-whole number (length text) (length plain) (length payload.bytes)
      (shorter seal_of opened law key k number true text plain are opens)
      (length-text 65552 (65552 * number) payload.bytes) few held.some in
      let by_length = plain_len-last (length payload.bytes) number (last-by_length number (length plain) (length payload.bytes) whole few some) in
      let place = last-place number (length plain) (length payload.bytes) whole ∙ ap (λ n. 65536 * number + n) (sym given) in
      record {
        ends_well = sym (ap (λ s. s.ends_well) past.ahead) ∙ clean.ends_well;
        length_is = by_length.1 ∙ ap (λ n. Some n) place;
        last = ends_last seal_of opened law key k payload.bytes b number plain (sym by_length.0) opens;
      }

  -- the chunk at the place was opened, and has nothing to give: it is the last, and empty
  pub good-opened : (content rest after : Stretch) (place taken number at : ℕ) (last : Bool) (text plain : List ℕ) → AreBytes content.bytes
      → StandsIn content place rest → taken ≤ place → taken ≡ 65552 * number →
      TookText rest after text → (length text < 65552 → last ≡ true) → chunk_of opened key number text ≡ Ok (plain, last)
      → length plain + 16 ≡ length text →
      (0 < at → at < length plain) → at ≡ length plain → IsGoodEnd seal_of key (payload_at place taken content) (65536 * number + at)
  good-opened content rest after place taken number at last text plain bytes stands fits stood took short ok longer before given =
      let payload = payload_at place taken content in
      let none : at ≡ 0 = elim (cases_lt 0 at) [ inl some ↦ absurd (omega (arith, before some, given)) | inr zero ↦ omega (arith, zero) ] in
      let few : length text < 65552 = omega (arith, given, longer, none) in
      let now = held-now opened key content rest after place taken number at text plain last stands fits stood took short ok in
      good-end payload after number (taken + length text) at last plain (All-drop (λ x. x < 2 ^ 8) (place - taken) content.bytes bytes)
      now.0 (short few) now.1 given (took.ended few)
