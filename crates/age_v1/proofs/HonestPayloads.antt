-- The payload of a plaintext delivers it, and then a clean end.
use Rattle.std.proofs.Common.{◌≡◌, ℕ, zero, suc, ◌+◌, ◌*◌, ◌<◌, ◌≤◌, ◌^◌, true, false, List, [], ◌++◌, length, take, drop, Option, Ok, refl, sym, ap, ◌∙◌, arith, length-drop, take-append-drop, zero-add}
use Rattle.std.proofs.lemmas.List.{append-nil, drop-drop, drop_all}
use Rattle.age_error.specs.Bytes.{AreBytes, AreBytesOf}
use Rattle.age_io.specs.Stretch.{Stretch, whole, from_place, stretch-ext}
use Rattle.age_suite.specs.Suite.{IsCipher}
use Rattle.age_v1.specs.Payload.{Seal, cut, piece, last_piece, payload, LastIsNoMiddle}
use Rattle.age_v1.specs.DeliveredPayload.{chunk_of, prepend, after_last, payload_delivers, text_at}
use Rattle.age_v1.proofs.DeliveredChunks.{delivered-chunk}
use Rattle.age_v1.specs.PayloadRefusals.{IsAllowed}
use Rattle.age_v1.proofs.TextFronts.{text-most}
use Rattle.age_v1.proofs.TextLengths.{full-text, not-short, few-left}
use Rattle.age_v1.proofs.Cuts.{cut_rest}
use Rattle.age_v1.proofs.Payloads.{held-middle, held-last, payload-bytes, length-payload, length-full_piece, length-last_piece}
use Rattle.age_v1.proofs.JudgedChunks.{next_place, held-judged_middle, held-judged_last}

-- a piece and what stands after it
pub piece_more : (i : ℕ) (s : Stretch) → prepend (piece i s.bytes) (from_place (65536 * suc i) s) ≡ from_place (65536 * i) s
unfolding cut
piece_more i s =
    let plain = s.bytes in
    let next : 65536 * i + 65536 ≡ 65536 * suc i = omega arith in
    stretch-ext _ _ (ap (λ n. take 65536 (drop (65536 * i) plain) ++ drop n plain) (sym next)
    ∙ ap (λ xs. take 65536 (drop (65536 * i) plain) ++ xs) (sym (drop-drop 65536 (65536 * i) plain))
    ∙ take-append-drop 65536 (drop (65536 * i) plain)) refl

module _ (seal_of : Seal) (opened : List ℕ → List ℕ → List ℕ → Option (List ℕ)) (law : IsCipher seal_of opened) (key : List ℕ)
    (k : AreBytesOf 32 key) where
  -- a full chunk and what stands after it
  pub middle-delivered : (number : ℕ) (s : Stretch) (plain : List ℕ) → 65552 * number + 65552 ≤ length s.bytes →
      chunk_of opened key number (text_at number s) ≡ Ok (plain, false) →
      payload_delivers opened key number (from_place (65552 * number) s)
      ≡ prepend plain (payload_delivers opened key (suc number) (from_place (65552 * suc number) s))
  middle-delivered number s plain full is =
      let rest = drop (65552 * number) s.bytes in
      let text = take 65552 rest in
      let more = drop 65552 rest in
      let all : text ++ more ≡ rest = take-append-drop 65552 rest in
      let size = full-text 65552 (65552 * number) s.bytes full in
      let is_so = delivered-chunk opened key number text more s.ends_well plain false (text-most 65552 rest)
      (λ short. absurd (not-short (length text) size short))
      (λ short. absurd (not-short (length text) size short)) is in
      sym (ap (λ (xs : List ℕ). payload_delivers opened key number (record { bytes = xs; ends_well = s.ends_well })) all) ∙ is_so
      ∙ ap (λ d. prepend plain (payload_delivers opened key (suc number) d)) (next_place number s)

  -- the last chunk, and a clean end
  last-delivered : (number : ℕ) (sealed plain : List ℕ) → length sealed ≤ 65552 * number + 65552 →
      chunk_of opened key number (text_at number (whole sealed)) ≡ Ok (plain, true) →
      payload_delivers opened key number (from_place (65552 * number) (whole sealed)) ≡ whole plain
  last-delivered number sealed plain few is =
      let rest = drop (65552 * number) sealed in
      let text = take 65552 rest in
      let more = drop 65552 rest in
      let all : text ++ more ≡ rest = take-append-drop 65552 rest in
      let none : more ≡ [] = drop_all 65552 rest
      (few-left (length rest) (length sealed) (65552 * number) (length-drop (65552 * number) sealed) few) in
      let is_so = delivered-chunk opened key number text more true plain true (text-most 65552 rest) (λ short. (none, refl)) (λ short. refl) is in
      sym (ap (λ (xs : List ℕ). payload_delivers opened key number (whole xs)) all) ∙ is_so
      ∙ ap (λ (xs : List ℕ). prepend plain (after_last xs true)) none
      ∙ stretch-ext (prepend plain (after_last [] true)) (whole plain) (append-nil plain) refl

  module _ (plain : List ℕ) (b : AreBytes plain) (most : length plain ≤ 2 ^ 60) (apart : LastIsNoMiddle seal_of key plain) where
    abbrev sealed : List ℕ
    sealed = payload seal_of key plain

    -- what stands from a chunk on, which is so many before the last, delivers what stands from its piece on
    delivered_from : (count number : ℕ) → number + count ≡ last_piece (length plain) →
        payload_delivers opened key number (from_place (65552 * number) (whole sealed)) ≡ from_place (65536 * number) (whole plain)
    delivered_from zero number is =
        let len = length-payload seal_of opened law key k plain b in
        let last : last_piece (length plain) ≡ number = omega arith in
        let size = length-last_piece plain in
        let held = rw last at (held-last seal_of opened law key k plain b apart) in
        let allowed : IsAllowed number (piece number plain) = record {
          some = λ later. rw (← last) (omega arith);
          limit = λ some. omega arith;
        } in
        let one = held-judged_last seal_of opened law key k sealed (payload-bytes seal_of opened law key k plain b).bytes number
        (piece number plain) held allowed in
        last-delivered number sealed (piece number plain) (omega arith) one ∙ stretch-ext _ _ (cut_rest 65536 number plain (omega arith)) refl
    delivered_from (suc count) number is =
        let len = length-payload seal_of opened law key k plain b in
        let before : number < last_piece (length plain) = omega arith in
        let size = length-full_piece number plain (omega arith) in
        let held = held-middle seal_of opened law key k plain number b before in
        let allowed : IsAllowed number (piece number plain) = record { some = λ later. omega arith; limit = λ some. omega arith } in
        let one = held-judged_middle seal_of opened law key k sealed (payload-bytes seal_of opened law key k plain b).bytes number
        (piece number plain) held allowed in
        middle-delivered number (whole sealed) (piece number plain) (omega arith) one
        ∙ ap (prepend (piece number plain)) (delivered_from count (suc number) (omega arith)) ∙ piece_more number (whole plain)

  -- the payload of a plaintext delivers it, and then a clean end
  pub delivered-payload : (plain : List ℕ) → AreBytes plain → length plain ≤ 2 ^ 60 → LastIsNoMiddle seal_of key plain →
      payload_delivers opened key 0 (whole (payload seal_of key plain)) ≡ whole plain
  delivered-payload plain b most apart = delivered_from plain b most apart (last_piece (length plain)) 0 (zero-add (last_piece (length plain)))
