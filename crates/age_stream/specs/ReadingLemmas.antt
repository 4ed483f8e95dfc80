-- The laws of a `StreamReader`.
use Rattle.std.specs.Prelude.{◌≡◌, ℕ, ◌+◌, ◌-◌, ◌*◌, ◌^◌, ◌<◌, ◌≤◌, ◌⊎◌, ◌&&◌, Option, Some, Ok, Bool, true, false, IsTrue, List, [], ◌++◌, length, drop}
use Rattle.std.proofs.Common.{refl, sym, ap, ◌∙◌, inl, inr, arith, add-one, zero-add}
use Rattle.std.proofs.lemmas.List.{take-append-drop, drop-drop, drop_all, drop-append-le}
use Rattle.std.proofs.lemmas.List.Elements.{All-drop}
use Rattle.std.proofs.lemmas.Bool.{cases_lt, true≢false}
use Rattle.std.proofs.lemmas.Bool.Decides.{eqb_tells}
use Rattle.age_error.specs.Bytes.{AreBytes}
use Rattle.age_io.specs.declared.traits.Read.{Ghosts}
use Rattle.age_io.specs.Stretch.{Stretch, nothing, from_place, stretch-ext}
use Rattle.age_io.specs.Reading.{StandsIn}
use Rattle.age_v1.specs.Payload.{chunk_nonce}
use Rattle.age_v1.proofs.OpenedTexts.{Shorter}
use Rattle.age_v1.specs.DeliveredPayload.{chunk_of, prepend, payload_delivers, text_at}
use Rattle.age_v1.proofs.DeliveredChunks.{delivered-chunk}
use Rattle.age_v1.proofs.TextFronts.{text-most, text-all, text-left}
use Rattle.age_v1.proofs.WellEndedPayloads.{accepted, onward, well-length, well-single, delivered-nothing, delivered-none}
use Rattle.age_stream.specs.declared.cache.Cache.{Cache}
use Rattle.age_stream.specs.declared.place.Place.{Place}
use Rattle.age_stream.specs.declared.source.Source.{Source}
use Rattle.age_stream.specs.Reading.{payload_at, payload_from, behind, rest_of, tells_from, IsAtFullEnd, IsHeld, IsInside, IsSound}

pub and-left : (a b : Bool) → IsTrue (a && b) → IsTrue a
and-left true b is = refl
and-left false b is = cc

pub and-right : (a b : Bool) → IsTrue (a && b) → IsTrue b
and-right true b is = is
and-right false b is = cc

-- the inner reader stands after the bytes that were taken, or has failed
pub taken-rest : (content rest : Stretch) (place taken : ℕ) → StandsIn content place rest → taken ≤ place →
    (rest ≡ from_place taken (payload_at place taken content)) ⊎ (rest ≡ nothing)
taken-rest content rest place taken stands fits =
    let back : place - taken + taken ≡ place = omega (arith, fits) in
    elim stands.reaches [
      | inl is ↦ inl (is ∙ sym (stretch-ext (from_place taken (payload_at place taken content)) (from_place place content)
          (drop-drop taken (place - taken) content.bytes ∙ ap (λ k. drop k content.bytes) back) refl))
      | inr is ↦ inr is
    ]

-- whether the verdict on a chunk that is held may be unknown
pub at_full_end : (last : Bool) (number at len : ℕ) → (IsAtFullEnd len number at last → ⊥) ⊎ IsAtFullEnd len number at last
at_full_end false number at len = inl (λ e. absurd (true≢false (sym e.is_last)))
at_full_end true number at len = elim (cases_lt (65552 * number + 65552) len) [
  | inl more ↦ inl (λ e. absurd (omega (arith, more, e.none)))
  | inr few ↦ elim (eqb_tells at 65536) [
    | inl full ↦ inr (record { is_last = refl; none = few; full = full.1 })
    | inr apart ↦ inl (λ e. apart.1 e.full)
  ]
]

module _ (opened : List ℕ → List ℕ → List ℕ → Option (List ℕ)) (key : List ℕ) (law : Shorter opened key) where
  -- from a chunk on that isn't past the payload
  pub reaches-before : (number at : ℕ) (payload : Stretch) → AreBytes payload.bytes → (payload_delivers opened key 0 payload).ends_well ≡ true →
      (0 < number → 65552 * number < length payload.bytes) →
      from_place at (payload_delivers opened key number (from_place (65552 * number) payload))
      ≡ from_place (65536 * number + at) (payload_delivers opened key 0 payload)
  reaches-before number at payload bytes well more =
      let on = rw zero-add at (onward opened key law number 0 payload bytes well more) in
      ap (from_place at) on ∙ stretch-ext _ _ (drop-drop at (65536 * number) (payload_delivers opened key 0 payload).bytes) refl

  pub within-by : (number at : ℕ) (payload : Stretch) → AreBytes payload.bytes → (payload_delivers opened key 0 payload).ends_well ≡ true
      → at ≤ 65536 →
      IsInside (length payload.bytes) number at → 65536 * number + at ≤ length (payload_delivers opened key 0 payload).bytes
  within-by number at payload bytes well small inside =
      let h = well-length opened key law payload bytes well in
      elim (cases_lt 0 at) [
        | inl some ↦ omega (arith, h.less, h.enough, inside.inside some)
        | inr
            none ↦ omega (arith, h.less, h.enough, inside.front)
      ]

  -- where a payload ends well, the chunk that is held is the one that the verdict accepts
  pub well-judged : (number : ℕ) (last : Bool) (at : ℕ) (chunk : List ℕ) (payload : Stretch) → AreBytes payload.bytes →
      (payload_delivers opened key 0 payload).ends_well ≡ true → IsHeld opened key payload number last at chunk →
      chunk_of opened key number (text_at number payload) ≡ Ok (chunk, last)
  well-judged number last at chunk payload bytes well held =
      let here = from_place (65552 * number) payload in
      let on = rw zero-add at (onward opened key law number 0 payload bytes well (λ _. held.some)) in
      let here_well : (payload_delivers opened key number here).ends_well ≡ true = ap (λ d. d.ends_well) on ∙ well in
      let text = text_at number payload in
      elim (at_full_end last number at (length payload.bytes)) [
        | inl apart ↦ held.judged apart
        | inr end ↦
            let one = well-single opened key number here here_well (text-left 65552 (65552 * number) payload.bytes end.none) in
            let a = accepted opened key number text one.0 true one.1 in
            let opens : opened key (chunk_nonce number true) text ≡ Some chunk = rw end.is_last at held.opens in
            let same : one.0 ≡ chunk = cc (sym a.opens ∙ opens) in
            rw (end.is_last, ← same) one.1
      ]

  -- the chunk that is held, and what comes after it, is what stands from its first byte on
  pub held-reaches : (number : ℕ) (last : Bool) (at : ℕ) (chunk : List ℕ) (payload rest : Stretch) → AreBytes payload.bytes →
      (payload_delivers opened key 0 payload).ends_well ≡ true → IsHeld opened key payload number last at chunk
      → rest ≡ from_place (65552 * number + 65552) payload →
      prepend chunk (behind opened key last number rest) ≡ from_place (65536 * number) (payload_delivers opened key 0 payload)
  held-reaches number last at chunk payload rest bytes well held ahead =
      let here = from_place (65552 * number) payload in
      let on = rw zero-add at (onward opened key law number 0 payload bytes well (λ _. held.some)) in
      let text = text_at number payload in
      let more = drop 65552 here.bytes in
      let all : text ++ more ≡ here.bytes = take-append-drop 65552 here.bytes in
      let next : from_place 65552 here ≡ rest = stretch-ext _ _ (drop-drop 65552 (65552 * number) payload.bytes) refl ∙ sym ahead in
      let short : length text < 65552 → (more ≡ []) × (payload.ends_well ≡ true) =
      λ less. (drop_all 65552 here.bytes (text-all 65552 here.bytes less), (held.whole less).0) in
      let chunked = rw all at (delivered-chunk opened key number text more payload.ends_well chunk last (text-most 65552 here.bytes)
      short (λ less. (held.whole less).1) (well-judged number last at chunk payload bytes well held)) in
      let moved : prepend chunk (behind opened key last number (from_place 65552 here)) ≡ payload_delivers opened key number here =
      rw add-one (sym chunked) in
      rw (← next) (moved ∙ on)

  drop-prepended : (at : ℕ) (chunk : List ℕ) (s : Stretch) → at ≤ length chunk → prepend (drop at chunk) s ≡ from_place at (prepend chunk s)
  drop-prepended at chunk s within = stretch-ext _ _ (sym (drop-append-le at chunk s.bytes within)) refl

  -- nothing stands at any place of nothing
  nothing-from : (at : ℕ) → from_place at nothing ≡ nothing
  nothing-from at = stretch-ext (from_place at nothing) nothing (drop_all at [] (omega arith)) refl

  -- a reader over a spent one has failed, or finds that out at its next read
  pub stream_spent : (place : Place) (cache : Cache) (rest : Stretch) → (place.failed ≡ false → place.held ≡ true → ⊥) → rest ≡ nothing
      → rest_of opened key place cache rest ≡ nothing
  unfolding rest_of
  stream_spent place cache rest unspent gone = by place.failed place.held refl refl
    where
      by : (f h : Bool) → place.failed ≡ f → place.held ≡ h → rest_of opened key place cache rest ≡ nothing
      by true h failed held = rw failed refl
      by false true good held = absurd (unspent good held)
      by false false good shut =
          rw (good, shut, gone) (ap (from_place place.at) (delivered-nothing opened key place.number) ∙ nothing-from place.at)

  module _ {R : Type 0} {read : Ghosts R} (place : Place) (cache : Cache) (source : Source R read) where
    reaches-by : AreBytes (payload_from source).bytes → (payload_delivers opened key 0 (payload_from source)).ends_well ≡ true →
        (place.held ≡ true → place.at ≤ length cache.first.piece.items) → IsSound opened key place cache source →
        ((read.rest source.inner ≡ from_place source.taken (payload_from source)) ⊎ (read.rest source.inner ≡ nothing)) →
        (f h : Bool) → place.failed ≡ f → place.held ≡ h →
        (rest_of opened key place cache (read.rest source.inner)
        ≡ from_place (65536 * place.number + place.at) (payload_delivers opened key 0 (payload_from source)))
        ⊎ (rest_of opened key place cache (read.rest source.inner) ≡ nothing)
    unfolding rest_of
    reaches-by bytes well in_chunk sound inner true h failed held = inr (rw failed refl)
    reaches-by bytes well in_chunk sound inner false true good held =
        let payload = payload_from source in
        let rest = read.rest source.inner in
        inl (rw (good, held) (drop-prepended place.at cache.first.piece.items (behind opened key cache.first.last place.number rest) (in_chunk held)
        ∙ ap (from_place place.at) (held-reaches place.number cache.first.last place.at cache.first.piece.items payload rest bytes well
        (sound.is_held held) (sound.is_past good held).ahead)
        ∙ stretch-ext _ _ (drop-drop place.at (65536 * place.number) (payload_delivers opened key 0 payload).bytes) refl))
    reaches-by bytes well in_chunk sound (inl is) false false good shut =
        let payload = payload_from source in
        let number = place.number in
        let before = sound.before good shut in
        let there : read.rest source.inner ≡ from_place (65552 * place.number) payload = is ∙ ap (λ n. from_place n payload) before.stood in
        elim (cases_lt (65552 * place.number) (length payload.bytes)) [
          | inl more ↦ inl (rw (good, shut) (ap (λ s. from_place place.at (payload_delivers opened key place.number s)) there
              ∙ reaches-before place.number place.at payload bytes well (λ _. more)))
          | inr past ↦ elim (cases_lt 0 place.number) [
            | inl some ↦
                let empty : drop (65552 * place.number) payload.bytes ≡ [] = drop_all (65552 * place.number) payload.bytes past in
                inr (rw (good, shut) (ap (λ s. from_place place.at (payload_delivers opened key place.number s))
                (there ∙ stretch-ext _ (record { bytes = []; ends_well = payload.ends_well }) empty refl)
                ∙ ap (from_place place.at) (delivered-none opened key place.number payload.ends_well) ∙ nothing-from place.at))
            | inr zero ↦ inl (rw (good, shut) (ap (λ s. from_place place.at (payload_delivers opened key place.number s)) there
                ∙ reaches-before place.number place.at payload bytes well (λ s. absurd (omega arith))))
          ]
        ]
    reaches-by bytes well in_chunk sound (inr is) false false good shut =
        inr (rw (good, shut, is) (ap (from_place place.at) (delivered-nothing opened key place.number) ∙ nothing-from place.at))

    -- where a payload ends well, its reader stands in the plaintext
    pub stream_stands : IsTrue (tells_from source) → AreBytes (read.content source.inner).bytes →
        (place.held ≡ true → place.at ≤ length cache.first.piece.items) → IsSound opened key place cache source →
        StandsIn (read.content source.inner) (read.place source.inner) (read.rest source.inner) →
        (payload_delivers opened key 0 (payload_from source)).ends_well ≡ true →
        StandsIn (payload_delivers opened key 0 (payload_from source)) (65536 * place.number + place.at)
        (rest_of opened key place cache (read.rest source.inner))
    stream_stands told bytes in_chunk sound stands well =
        let all : AreBytes (payload_from source).bytes =
        All-drop (λ x. x < 2 ^ 8) (read.place source.inner - source.taken) (read.content source.inner).bytes bytes in
        record {
          within = within-by place.number place.at (payload_from source) all well place.offset sound.inside;
          reaches = reaches-by all well in_chunk sound
              (taken-rest (read.content source.inner) (read.rest source.inner) (read.place source.inner) source.taken stands (source.fits told))
              place.failed place.held refl refl;
        }

pub both-true : (a b : Bool) → IsTrue a → IsTrue b → IsTrue (a && b)
both-true true b p q = q
both-true false b p q = cc
