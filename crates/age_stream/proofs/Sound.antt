-- A reader that was put in its place has what stands from there on.
use Rattle.std.specs.Prelude.{◌≡◌, ℕ, ◌+◌, ◌*◌, ◌<◌, ◌≤◌, ◌⊎◌, ◌&&◌, Option, Bool, true, false, IsTrue, List, length}
use Rattle.std.proofs.Common.{zero, suc, refl, sym, ap, ◌∙◌, inl, inr, arith, length-drop}
use Rattle.std.proofs.lemmas.List.{drop-drop, drop-append-le}
use Rattle.std.proofs.lemmas.Bool.{cases_lt, true≢false}
use Rattle.age_error.specs.Bytes.{AreBytes}
use Rattle.age_io.specs.Stretch.{Stretch, nothing, from_place, stretch-ext}
use Rattle.age_v1.proofs.OpenedTexts.{Shorter}
use Rattle.age_v1.specs.DeliveredPayload.{payload_delivers}
use Rattle.age_v1.proofs.WellEndedPayloads.{well-middle, well-single, delivered-nothing}
use Rattle.age_io.specs.declared.traits.Read.{Ghosts}
use Rattle.age_stream.specs.declared.cache.Cache.{Cache}
use Rattle.age_stream.specs.declared.place.Place.{Place}
use Rattle.age_stream.specs.declared.source.Source.{Source}
use Rattle.age_stream.specs.Reading.{payload_from, behind, rest_of, IsSound}
use Rattle.age_stream.specs.ReadingLemmas.{held-reaches, reaches-before}
use Rattle.age_stream.proofs.Holding.{rest-held, rest-open, rest_failed}

-- a reader is as steady as before where its content ends as before
pub same-steady : (t s w t1 s1 w1 : Bool) → t1 ≡ t → s1 ≡ s → (IsTrue (t && s) → w1 ≡ w) → (t1 && s1 && w1) ≡ (t && s && w)
same-steady t s w t1 s1 w1 et es ew = rw (et, es) (by (t && s) refl)
  where
    by : (b : Bool) → (t && s) ≡ b → (t && s && w1) ≡ (t && s && w)
    by true is = ap (λ x. t && s && x) (ew is)
    by false is = rw is refl

module _ (opened : List ℕ → List ℕ → List ℕ → Option (List ℕ)) (key : List ℕ) where
  inner-well-by : (count number : ℕ) (s : Stretch) → length s.bytes ≤ 65552 * count + 65552
      → (payload_delivers opened key number s).ends_well ≡ true → s.ends_well ≡ true
  inner-well-by zero number s few well = (well-single opened key number s well (omega arith)).3
  inner-well-by (suc count) number s few well = elim (cases_lt 65552 (length s.bytes)) [
    | inl long ↦
        let m = well-middle opened key number s well long in
        inner-well-by count (suc number) (from_place 65552 s) (omega (arith, length-drop 65552 s.bytes)) (sym (ap (λ d. d.ends_well) m.2) ∙ well)
    | inr short ↦ (well-single opened key number s well short).3
  ]

  -- a plaintext that ends well stands in a payload that does
  pub inner-well : (s : Stretch) → (payload_delivers opened key 0 s).ends_well ≡ true → s.ends_well ≡ true
  inner-well s well = inner-well-by (length s.bytes) 0 s (omega arith) well

  behind-badly : (last : Bool) (number : ℕ) → (behind opened key last number nothing).ends_well ≡ false
  behind-badly true number = refl
  behind-badly false number = ap (λ s. s.ends_well) (delivered-nothing opened key (number + 1))

  ends-badly : (place : Place) (cache : Cache) → (rest_of opened key place cache nothing).ends_well ≡ false
  ends-badly place cache = by place.failed place.held refl refl
    where
      by : (f h : Bool) → place.failed ≡ f → place.held ≡ h → (rest_of opened key place cache nothing).ends_well ≡ false
      by true h failed held = ap (λ s. s.ends_well) (rest_failed opened key place cache nothing failed)
      by false true good held = ap (λ s. s.ends_well) (rest-held opened key place cache nothing good held)
          ∙ behind-badly cache.first.last place.number
      by false false good shut = ap (λ s. s.ends_well) (rest-open opened key place cache nothing good shut)
          ∙ ap (λ s. s.ends_well) (delivered-nothing opened key place.number)

  -- the inner reader was put back
  pub rest-kept : (place : Place) (cache : Cache) (before taken : ℕ) (content payload rest new_rest : Stretch) →
      rest_of opened key place cache rest ≡ from_place before content → content.ends_well ≡ true →
      ((rest ≡ from_place taken payload) ⊎ (rest ≡ nothing)) → new_rest ≡ from_place taken payload →
      rest_of opened key place cache new_rest ≡ rest_of opened key place cache rest
  rest-kept place cache before taken content payload rest new_rest sound well (inl is) back =
      ap (λ s. rest_of opened key place cache s) (back ∙ sym is)
  rest-kept place cache before taken content payload rest new_rest sound well (inr is) back =
      absurd (true≢false (sym well ∙ sym (ap (λ s. s.ends_well) sound)
      ∙ ap (λ s. (rest_of opened key place cache s).ends_well) is
      ∙ ends-badly place cache))

  module _ (law : Shorter opened key) {R : Type 0} {read : Ghosts R} (place : Place) (cache : Cache) (source : Source R read)
      (bytes : AreBytes (payload_from source).bytes) (well : (payload_delivers opened key 0 (payload_from source)).ends_well ≡ true)
      (good : place.failed ≡ false) (within : place.held ≡ true → place.at ≤ length cache.first.piece.items)
      (sound : IsSound opened key place cache source)
      (before : place.held ≡ false → (read.rest source.inner ≡ from_place source.taken (payload_from source))
      × (65552 * place.number < length (payload_from source).bytes)) where
    sound-by : (h : Bool) → place.held ≡ h → rest_of opened key place cache (read.rest source.inner)
        ≡ from_place (65536 * place.number + place.at) (payload_delivers opened key 0 (payload_from source))
    sound-by true is =
        let payload = payload_from source in
        let rest = read.rest source.inner in
        let chunk = cache.first.piece.items in
        rest-held opened key place cache rest good is
        ∙ stretch-ext _ _ (sym (drop-append-le place.at chunk (behind opened key cache.first.last place.number rest).bytes (within is))) refl
        ∙ ap (from_place place.at) (held-reaches opened key law place.number cache.first.last place.at chunk payload rest bytes well (sound.is_held
        is)
        (sound.is_past good is).ahead)
        ∙ stretch-ext _ _ (drop-drop place.at (65536 * place.number) (payload_delivers opened key 0 payload).bytes) refl
    sound-by false is =
        let payload = payload_from source in
        let there = before is in
        rest-open opened key place cache (read.rest source.inner) good is
        ∙ ap (λ s. from_place place.at (payload_delivers opened key place.number s))
        (there.0 ∙ ap (λ n. from_place n payload) (sound.before good is).stood)
        ∙ reaches-before opened key law place.number place.at payload bytes well (λ _. there.1)

    -- what stands from the place on
    pub now-sound : rest_of opened key place cache (read.rest source.inner)
        ≡ from_place (65536 * place.number + place.at) (payload_delivers opened key 0 (payload_from source))
    now-sound = sound-by place.held refl
