-- Bytes that deliver a plaintext, and then a clean end, are its payload.
use Rattle.std.proofs.Common.{◌≡◌, ℕ, zero, suc, ◌+◌, ◌*◌, ◌≤◌, inl, inr, true, false, List, [], ◌++◌, length, Option, sym, ap, subst, ◌∙◌, arith, length-drop}
use Rattle.std.proofs.lemmas.List.{append_assoc}
use Rattle.std.proofs.lemmas.Bool.{cases_lt}
use Rattle.age_error.specs.Bytes.{AreBytes, AreBytesOf}
use Rattle.age_io.specs.Stretch.{Stretch, whole, from_place, stretch-ext}
use Rattle.age_suite.specs.Suite.{IsCipher}
use Rattle.age_v1.specs.Payload.{Seal, payload}
use Rattle.age_v1.specs.DeliveredPayload.{prepend, payload_delivers, text_at}
use Rattle.age_v1.proofs.WellEndedPayloads.{accepted, well-middle, well-single}
use Rattle.age_v1.specs.PayloadRefusals.{IsOpenedTo}
use Rattle.age_v1.proofs.FrontToEnd.{opened_none, opened_more, opened_whole}
use Rattle.age_v1.proofs.JudgedChunks.{next_place, allowed-accepted, judged-last, opens_chunk}

module _ (seal_of : Seal) (opened : List ℕ → List ℕ → List ℕ → Option (List ℕ)) (law : IsCipher seal_of opened) (key : List ℕ)
    (k : AreBytesOf 32 key) where
  -- what stands from this chunk on
  abbrev here : ℕ → Stretch → Stretch
  here number s = from_place (65552 * number) s

  -- the bytes are the payload of what was opened before this chunk, and of what is delivered from it on
  record IsReopened (s : Stretch) (number : ℕ) (out : List ℕ) : Type 0 where
    bytes : s.bytes ≡ payload seal_of key (out ++ (payload_delivers opened key number (here number s)).bytes)
    well : s.ends_well ≡ true

  -- one chunk is left
  reopened-last : (number : ℕ) (s : Stretch) (out : List ℕ) → AreBytes s.bytes → IsOpenedTo seal_of key s.bytes number out →
      (payload_delivers opened key number (here number s)).ends_well ≡ true → length s.bytes ≤ 65552 * number + 65552 → IsReopened s number out
  reopened-last number s out bytes was well few =
      let one = well-single opened key number (here number s) well (omega (arith, length-drop (65552 * number) s.bytes)) in
      let a = accepted opened key number (text_at number s) one.0 true one.1 in
      let held = judged-last seal_of opened law key k s.bytes bytes number one.0 one.1 in
      record {
        bytes = rw one.2 (opened_whole seal_of opened law key k s.bytes bytes number out one.0 was few
            (allowed-accepted opened key number (text_at number s) one.0 true a) held);
        well = one.3;
      }

  -- at most so many chunks are left, and one more
  reopened-by : (count number : ℕ) (s : Stretch) (out : List ℕ) → AreBytes s.bytes → IsOpenedTo seal_of key s.bytes number out →
      (payload_delivers opened key number (here number s)).ends_well ≡ true → length s.bytes ≤ 65552 * (number + count) + 65552
      → IsReopened s number out
  reopened-by zero number s out bytes was well few = reopened-last number s out bytes was well (omega arith)
  reopened-by (suc count) number s out bytes was well few = elim (cases_lt (65552 * number + 65552) (length s.bytes)) [
    | inr few_now ↦ reopened-last number s out bytes was well few_now
    | inl long ↦
        let m = well-middle opened key number (here number s) well (omega (arith, length-drop (65552 * number) s.bytes)) in
        let a = accepted opened key number (text_at number s) m.0 false m.1 in
        let more = opened_more seal_of opened law key k s.bytes bytes number out m.0 was (omega arith)
        (opens_chunk seal_of opened law key k s.bytes bytes number false _ a.opens) in
        let up : number + 1 ≡ suc number = omega arith in
        let now = subst (λ n. IsOpenedTo seal_of key s.bytes n (out ++ m.0)) up more in
        let is : payload_delivers opened key number (here number s) ≡ prepend m.0 (payload_delivers opened key (suc number) (here (suc number) s)) =
        m.2 ∙ ap (λ d. prepend m.0 (payload_delivers opened key (suc number) d)) (next_place number s) in
        let later : (payload_delivers opened key (suc number) (here (suc number) s)).ends_well ≡ true = sym (ap (λ d. d.ends_well) is) ∙ well in
        let ih = reopened-by count (suc number) s (out ++ m.0) bytes now later (omega arith) in
        record {
          bytes = ih.bytes ∙ ap (payload seal_of key)
              (append_assoc out m.0 (payload_delivers opened key (suc number) (here (suc number) s)).bytes ∙ ap (λ d. out ++ d.bytes) (sym is));
          well = ih.well;
        }
  ]

  -- what delivers a plaintext and then a clean end is its payload, and then a clean end
  pub payload-delivered : (s : Stretch) (plain : List ℕ) → AreBytes s.bytes → payload_delivers opened key 0 s ≡ whole plain →
      s ≡ whole (payload seal_of key plain)
  payload-delivered s plain bytes is =
      let well : (payload_delivers opened key 0 s).ends_well ≡ true = ap (λ d. d.ends_well) is in
      let found = reopened-by (length s.bytes) 0 s [] bytes (opened_none seal_of opened law key k s.bytes bytes) well (omega arith) in
      stretch-ext s (whole (payload seal_of key plain)) (found.bytes ∙ ap (λ d. payload seal_of key d.bytes) is) found.well
