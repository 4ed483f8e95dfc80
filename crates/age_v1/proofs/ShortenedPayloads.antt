-- A payload that was cut between two chunks delivers its first pieces, and then a fault; and bytes after a chunk that is
-- held as last never end well.
use Rattle.std.proofs.Common.{◌≡◌, ℕ, zero, suc, ◌+◌, ◌*◌, ◌<◌, ◌≤◌, ◌^◌, true, false, List, [], length, take, drop, Option, refl, sym, ap, ◌∙◌, arith, length-take, zero-add}
use Rattle.std.proofs.lemmas.List.{drop_all}
use Rattle.std.proofs.lemmas.List.Elements.{All-take}
use Rattle.age_error.specs.Bytes.{AreBytes, AreBytesOf}
use Rattle.age_io.specs.Stretch.{Stretch, whole, nothing, from_place, stretch-ext}
use Rattle.age_suite.specs.Suite.{IsCipher}
use Rattle.age_v1.specs.Payload.{Seal, piece, last_piece, payload, chunk, OpensAsMiddle, OpensAsLast}
use Rattle.age_v1.specs.DeliveredPayload.{prepend, payload_delivers}
use Rattle.age_v1.proofs.WellEndedPayloads.{delivered-none}
use Rattle.age_v1.specs.PayloadRefusals.{IsAllowed}
use Rattle.age_v1.proofs.OpenedTexts.{shorter, opens_bytes}
use Rattle.age_v1.proofs.DeliveredSizes.{delivered-bytes}
use Rattle.age_v1.proofs.Cuts.{cut-take}
use Rattle.age_v1.proofs.Payloads.{held-middle, payload-bytes, length-payload, length-full_piece, length-last_piece}
use Rattle.age_v1.proofs.JudgedChunks.{held-judged_middle}
use Rattle.age_v1.proofs.HonestPayloads.{piece_more, middle-delivered}
use Rattle.age_v1.proofs.ReopenedPayloads.{payload-delivered}

module _ (seal_of : Seal) (opened : List ℕ → List ℕ → List ℕ → Option (List ℕ)) (law : IsCipher seal_of opened) (key : List ℕ)
    (k : AreBytesOf 32 key) where
  module _ (plain : List ℕ) (b : AreBytes plain) (most : length plain ≤ 2 ^ 60) (n : ℕ) (fits : n ≤ last_piece (length plain)) where
    abbrev front : List ℕ
    front = take (65552 * n) (payload seal_of key plain)

    abbrev given : Stretch
    given = record { bytes = take (65536 * n) plain; ends_well = false }

    front_from : (count number : ℕ) → number + count ≡ n →
        payload_delivers opened key number (from_place (65552 * number) (whole front)) ≡ from_place (65536 * number) given
    front_from zero number is =
        let none : drop (65552 * number) front ≡ [] =
        drop_all (65552 * number) front (omega (arith, length-take (65552 * n) (payload seal_of key plain))) in
        let no_piece : drop (65536 * number) given.bytes ≡ [] =
        drop_all (65536 * number) given.bytes (omega (arith, length-take (65536 * n) plain)) in
        ap (payload_delivers opened key number) (stretch-ext _ (record { bytes = []; ends_well = true }) none refl)
        ∙ delivered-none opened key number true
        ∙ sym (stretch-ext _ nothing no_piece refl)
    front_from (suc count) number is =
        let len = length-payload seal_of opened law key k plain b in
        let before : number < last_piece (length plain) = omega arith in
        let size = length-full_piece number plain (omega arith) in
        let held = held-middle seal_of opened law key k plain number b before in
        let same : chunk number front ≡ chunk number (payload seal_of key plain) =
        cut-take 65552 number (65552 * n) (payload seal_of key plain) (omega arith) in
        let here : OpensAsMiddle seal_of key front number (piece number plain) = record {
          full = ap length same ∙ held.full;
          bytes = held.bytes;
          is_seal = same ∙ held.is_seal;
        } in
        let allowed : IsAllowed number (piece number plain) = record { some = λ later. omega arith; limit = λ some. omega arith } in
        let bytes = All-take (λ x. x < 2 ^ 8) (65552 * n) (payload seal_of key plain) (payload-bytes seal_of opened law key k plain b).bytes in
        let one = held-judged_middle seal_of opened law key k front bytes number (piece number plain) here allowed in
        let size_front : length front ≡ 65552 * n = length-front len in
        let same_piece : piece number given.bytes ≡ piece number plain = cut-take 65536 number (65536 * n) plain (omega arith) in
        middle-delivered seal_of opened law key k number (whole front) (piece number plain) (omega (arith, size_front)) one
        ∙ ap (prepend (piece number plain)) (front_from count (suc number) (omega arith))
        ∙ ap (λ p. prepend p (from_place (65536 * suc number) given)) (sym same_piece) ∙ piece_more number given
      where
        length-front : length (payload seal_of key plain) ≡ length plain + 16 * (last_piece (length plain) + 1) → length front ≡ 65552 * n
        length-front len = omega (arith, len, length-take (65552 * n) (payload seal_of key plain))

  -- cut after n chunks, before the last
  pub shortened : (plain : List ℕ) (n : ℕ) → AreBytes plain → length plain ≤ 2 ^ 60 → n ≤ last_piece (length plain) →
      payload_delivers opened key 0 (whole (take (65552 * n) (payload seal_of key plain)))
      ≡ record { bytes = take (65536 * n) plain; ends_well = false }
  shortened plain n b most fits = front_from plain b most n fits n 0 (zero-add n)

  -- bytes after a chunk that is held as last
  pub lengthened : (s : Stretch) (i : ℕ) (last plain : List ℕ) → AreBytes s.bytes → OpensAsLast seal_of key s.bytes i last
      → 65552 * (i + 1) < length s.bytes →
      payload_delivers opened key 0 s ≡ whole plain → ⊥
  lengthened s i last plain sb held more is =
      let b : AreBytes plain = rw (ap (λ d. d.bytes) is) at (delivered-bytes opened key (shorter seal_of opened law key k)
      (opens_bytes seal_of opened law key k) 0 0 s sb) in
      let found = payload-delivered seal_of opened law key k s plain sb is in
      let len = length-payload seal_of opened law key k plain b in
      let long : 65552 * (i + 1) < length (payload seal_of key plain) = rw found at more in
      held.not_middle (piece i plain) (rw found (held-middle seal_of opened law key k plain i b (omega (arith, long, len, length-last_piece plain))))
