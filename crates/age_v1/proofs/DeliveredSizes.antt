-- What a payload delivers is bytes, and no more of them than it has.
use Rattle.std.specs.Prelude.{◌≡◌, ℕ, ◌+◌, ◌/◌, ◌^◌, ◌<◌, ◌≤◌, Option, Result, Ok, Err, Bool, true, false, cond, List, [], length, take, drop}
use Rattle.std.proofs.Common.{zero, suc, refl, arith, length-append, length-take, length-drop}
use Rattle.std.proofs.lemmas.List.Elements.{All-drop, All-take, All-append, All-nil}
use Rattle.age_error.specs.Bytes.{AreBytes}
use Rattle.age_io.specs.Stretch.{Stretch, nothing, from_place}
use Rattle.age_error.specs.declared.io.Error.{Error}
use Rattle.age_v1.proofs.OpenedTexts.{Shorter, OpensBytes}
use Rattle.age_v1.specs.DeliveredPayload.{Chunk, chunk_of, after_last, after_chunk, delivers, payload_delivers}
use Rattle.age_v1.proofs.WellEndedPayloads.{accepted}

-- these are bytes, at most n of them
pub record Fits (s : Stretch) (n : ℕ) : Type 0 where
  pub bytes : AreBytes s.bytes
  pub most : length s.bytes ≤ n

no-bytes : AreBytes []
no-bytes = All-nil (λ x. x < 2 ^ 8)

module _ (opened : List ℕ → List ℕ → List ℕ → Option (List ℕ)) (key : List ℕ) (law : Shorter opened key) (bytes_law : OpensBytes opened key) where
  after-fits : (v : Result Chunk Error) (number : ℕ) (text : List ℕ) (n : ℕ) (middle last_one : Stretch) → AreBytes text
      → chunk_of opened key number text ≡ v →
      Fits middle n → Fits last_one n → Fits (after_chunk middle last_one v) (length text + n)
  after-fits (Err e) number text n middle last_one bytes is m l = record { bytes = no-bytes; most = omega arith }
  after-fits (Ok (plain, true)) number text n middle last_one bytes is m l =
      let a = accepted opened key number text plain true is in
      let short = law number true text plain bytes a.opens in
      record {
        bytes = All-append (λ x. x < 2 ^ 8) plain last_one.bytes (bytes_law number true text plain bytes a.opens) l.bytes;
        most = omega (arith, short, l.most, length-append plain last_one.bytes);
      }
  after-fits (Ok (plain, false)) number text n middle last_one bytes is m l =
      let a = accepted opened key number text plain false is in
      let short = law number false text plain bytes a.opens in
      record {
        bytes = All-append (λ x. x < 2 ^ 8) plain middle.bytes (bytes_law number false text plain bytes a.opens) m.bytes;
        most = omega (arith, short, m.most, length-append plain middle.bytes);
      }

  none-fits : (s : Stretch) (n : ℕ) → s.bytes ≡ [] → Fits s n
  none-fits s n none = record { bytes = rw none no-bytes; most = rw none (omega arith) }

  cond-fits : (w : Bool) (s : Stretch) (n : ℕ) → Fits s n → Fits (cond w s nothing) n
  cond-fits true s n fits = fits
  cond-fits false s n fits = none-fits nothing n refl

  more-fits : (s : Stretch) (m n : ℕ) → m ≤ n → Fits s m → Fits s n
  more-fits s m n h fits = record { bytes = fits.bytes; most = omega (arith, fits.most) }

  delivers-fits : (full number : ℕ) (bytes : List ℕ) (w : Bool) → AreBytes bytes → Fits (delivers opened key full number bytes w) (length bytes)
  unfolding delivers
  delivers-fits zero number bytes w are = cond-fits w _ (length bytes)
      (more-fits _ (length bytes + 0) (length bytes) (omega arith)
      (after-fits (chunk_of opened key number bytes) number bytes 0 nothing (after_last [] true) are refl (none-fits nothing 0 refl)
      (none-fits (after_last [] true) 0 refl)))
  delivers-fits (suc full) number bytes w are =
      let more = drop 65552 bytes in
      let text = take 65552 bytes in
      more-fits _ (length text + length more) (length bytes) (omega (arith, length-take 65552 bytes, length-drop 65552 bytes))
      (after-fits (chunk_of opened key number text) number text (length more) (delivers opened key full (suc number) more w) (after_last more w)
      (All-take (λ x. x < 2 ^ 8) 65552 bytes are) refl
      (delivers-fits full (suc number) more w (All-drop (λ x. x < 2 ^ 8) 65552 bytes are)) (none-fits (after_last more w) (length more) refl))

  pub delivered-bytes : (number n : ℕ) (s : Stretch) → AreBytes s.bytes → AreBytes (payload_delivers opened key number (from_place n s)).bytes
  delivered-bytes number n s are = (delivers-fits _ number (drop n s.bytes) s.ends_well (All-drop (λ x. x < 2 ^ 8) n s.bytes are)).bytes

  pub delivered-short : (number n : ℕ) (s : Stretch) → AreBytes s.bytes → length s.bytes < 2 ^ 63
      → length (payload_delivers opened key number (from_place n s)).bytes < 2 ^ 63
  delivered-short number n s are short =
      omega (
        arith,
        (delivers-fits (length (drop n s.bytes) / 65552) number (drop n s.bytes) s.ends_well
            (All-drop (λ x. x < 2 ^ 8) n s.bytes are)).most,
        length-drop n s.bytes,
      )
