-- The last chunk of a payload, opened by a seek to the end.
use Rattle.std.specs.Prelude.{◌≡◌, ℕ, ◌+◌, ◌-◌, ◌*◌, ◌^◌, ◌<◌, ◌≤◌, Option, Some, None, Bool, true, List, [], length, take, drop}
use Rattle.std.proofs.Common.{refl, sym, ap, subst, ◌∙◌, inl, inr, arith, length-append, length-drop}
use Rattle.std.proofs.lemmas.List.{drop_all, nil_from_length}
use Rattle.std.proofs.lemmas.List.Elements.{All-drop, All-take}
use Rattle.std.proofs.lemmas.Bool.{cases_lt, true≢false}
use Rattle.age_error.specs.Bytes.{AreBytes}
use Rattle.age_io.specs.Stretch.{Stretch, from_place, stretch-ext}
use Rattle.age_v1.specs.Payload.{final_chunk, chunk_nonce}
use Rattle.age_v1.proofs.OpenedTexts.{Shorter}
use Rattle.age_stream.specs.Reading.{IsHeld, IsPast, IsInside, TookText}
use Rattle.age_v1.specs.DeliveredPayload.{text_at, IsLastChunk, chunk_of}
use Rattle.age_v1.proofs.TextLengths.{length-text, plain-whole, plain-inside}
use Rattle.age_stream.proofs.Holding.{front_of}
use Rattle.age_v1.proofs.JudgedChunks.{judged-short}

-- what was read is the whole last chunk
pub record IsLastText (payload after : Stretch) (number : ℕ) (text : List ℕ) : Type 0 where
  pub is : text_at number payload ≡ text
  pub long : length text + 65552 * number ≡ length payload.bytes
  pub most : length text ≤ 65552
  pub none : after.bytes ≡ []
  pub same_end : after.ends_well ≡ payload.ends_well
  pub ended : length text < 65552 → payload.ends_well ≡ true

pub last-text : (payload rest after : Stretch) (number : ℕ) (text : List ℕ) → rest ≡ from_place (65552 * number) payload
    → IsLastChunk (length payload.bytes) number →
    TookText rest after text → IsLastText payload after number text
last-text payload rest after number text stood last took =
    let came = took.came in
    let here : rest.bytes ≡ drop (65552 * number) payload.bytes = ap (λ s. s.bytes) stood in
    let well : rest.ends_well ≡ payload.ends_well = ap (λ s. s.ends_well) stood in
    let long : length text + length after.bytes ≡ length payload.bytes - 65552 * number =
    sym (length-append text after.bytes) ∙ sym (ap length came.bytes) ∙ ap length here ∙ length-drop (65552 * number) payload.bytes in
    let gone : length after.bytes ≡ 0 = elim (cases_lt (length text) 65552) [
      | inl less ↦ ap length (took.ended less).bytes
      | inr full ↦ omega (arith, long, last.fits, full)
    ] in
    record {
      is = ap (take 65552) (sym here) ∙ front_of rest after text took;
      long = omega (arith, long, gone, last.enough);
      most = took.most;
      none = nil_from_length after.bytes gone;
      same_end = came.end ∙ well;
      ended = λ less. sym (came.end ∙ well) ∙ (took.ended less).ends_well;
    }

pub last-past : (payload after : Stretch) (number taken : ℕ) (text : List ℕ) → IsLastText payload after number text
    → IsLastChunk (length payload.bytes) number →
    taken ≡ 65552 * number + length text → IsPast payload number true taken after
last-past payload after number taken text t last took =
    let over : drop (65552 * number + 65552) payload.bytes ≡ [] = drop_all (65552 * number + 65552) payload.bytes last.fits in
    record {
      stood = λ middle. absurd (true≢false middle);
      past = drop_all taken payload.bytes (omega (arith, took, t.long)) ∙ sym over;
      ahead = stretch-ext after (from_place (65552 * number + 65552) payload) (t.none ∙ sym over) t.same_end;
    }

module _ (opened : List ℕ → List ℕ → List ℕ → Option (List ℕ)) (key : List ℕ) where
  -- a full chunk isn't judged as a middle one, a short one is only ever the last
  pub last-held : (payload after : Stretch) (number at : ℕ) (text plain : List ℕ) → IsLastText payload after number text
      → IsLastChunk (length payload.bytes) number →
      number < 2 ^ 44 → length plain + 16 ≡ length text → at ≡ length plain → opened key (chunk_nonce number true) text ≡ Some plain
      → IsHeld opened key payload number true at plain
  last-held payload after number at text plain t last few longer given is = record {
    opens = ap (opened key (chunk_nonce number true)) t.is ∙ is;
    judged = λ apart. elim (cases_lt (length text) 65552) [
      | inl less ↦ ap (chunk_of opened key number) t.is
          ∙ judged-short opened key number text plain less (omega (arith, longer)) (λ some. omega (arith, last.more some, t.long, longer)) few is
      | inr full ↦ absurd (apart (record { is_last = refl; none = last.fits; full = omega (arith, full, t.most, longer, given) }))
    ];
    whole = λ less. (t.ended (subst (λ (xs : List ℕ). length xs < 65552) t.is less), refl);
    some = omega (arith, last.enough);
  }

  pub last-none : (payload after : Stretch) (number : ℕ) (text : List ℕ) → IsLastText payload after number text →
      opened key (chunk_nonce number true) text ≡ None → opened key (chunk_nonce number true) (text_at number payload) ≡ None
  last-none payload after number text t is = ap (opened key (chunk_nonce number true)) t.is ∙ is

  module _ (law : Shorter opened key) where
    -- how long the text of the chunk that is held is
    pub text-held : (payload : Stretch) (number at : ℕ) (last : Bool) (chunk : List ℕ) → AreBytes payload.bytes
        → IsHeld opened key payload number last at chunk →
        length chunk + 16 ≡ length (text_at number payload)
    text-held payload number at last chunk bytes held = law number last (text_at number payload) chunk
        (All-take (λ x. x < 2 ^ 8) 65552 (drop (65552 * number) payload.bytes) (All-drop (λ x. x < 2 ^ 8) (65552 * number) payload.bytes bytes))
        held.opens

    -- the length of the last chunk of a payload
    pub held-length : (payload : Stretch) (number at : ℕ) (last : Bool) (chunk : List ℕ) → AreBytes payload.bytes
        → IsHeld opened key payload number last at chunk →
        length payload.bytes ≤ 65552 * number + 65552 → length chunk + 16 + 65552 * number ≡ length payload.bytes
    held-length payload number at last chunk bytes held fits =
        plain-whole number (length (text_at number payload)) (length chunk) (length payload.bytes) (text-held payload number at last chunk bytes held)
        (length-text 65552 (65552 * number) payload.bytes) fits held.some

    -- and the end of its plaintext
    pub last-place : (payload : Stretch) (number at size len : ℕ) (last : Bool) (chunk : List ℕ) → AreBytes payload.bytes
        → IsHeld opened key payload number last at chunk →
        size ≡ length payload.bytes → number ≡ final_chunk size → IsLastChunk size (final_chunk size) → len + 16 * (final_chunk size + 1) ≡ size
        → 65536 * number + length chunk ≡ len
    last-place payload number at size len last chunk bytes held same is last_one whole =
        omega (arith, held-length payload number at last chunk bytes held (omega (arith, is, same, last_one.fits)), is, same, whole)

    -- a place in the chunk that is held is in the payload
    pub inside-held : (payload : Stretch) (number at new_at : ℕ) (last : Bool) (chunk : List ℕ) → AreBytes payload.bytes
        → IsHeld opened key payload number last at chunk →
        new_at ≤ length chunk → IsInside (length payload.bytes) number new_at
    inside-held payload number at new_at last chunk bytes held within = record {
      front = omega (arith, held.some);
      inside = λ some. plain-inside number (length (text_at number payload)) (length chunk) (length payload.bytes)
          (text-held payload number at last chunk bytes held)
          (length-text 65552 (65552 * number) payload.bytes) held.some new_at within;
    }
