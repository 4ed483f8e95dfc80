-- What a read of a payload answers, in the words of the definition.
use Rattle.std.specs.Prelude.{◌≡◌, ◌≢◌, ℕ, ◌+◌, ◌-◌, ◌*◌, ◌<◌, ◌≤◌, ◌⊎◌, Bool, true, false, List, length, take, drop, min, Some}
use Rattle.std.proofs.Common.{get_or}
use Rattle.age_error.specs.Bytes.{AreBytes}
use Rattle.age_error.specs.declared.io.Error.{Error}
use Rattle.age_error.specs.declared.io.Error.TheVariants.{AfterLast}
use Rattle.age_io.specs.Stretch.{Stretch, whole}
use Rattle.age_io.specs.Reading.{EndsEarly}
use Rattle.age_v1.specs.Payload.{Seal, chunk_nonce, piece, last_piece, payload, plain_len, chunk, OpensAsMiddle, OpensAsLast, EndsAsLast}
use Rattle.age_v1.specs.PayloadRefusals.{IsAllowed, StopsAt}

-- chunk i opens to these bytes, as the last chunk or as a middle one
abbrev pub OpensAs : Bool → Seal → List ℕ → List ℕ → ℕ → List ℕ → Type 0
OpensAs true seal_of key sealed i plain = OpensAsLast seal_of key sealed i plain
OpensAs false seal_of key sealed i plain = OpensAsMiddle seal_of key sealed i plain

-- A read at this place into room for so many bytes gives these: the smaller of the room and what is left of the chunk
-- at the place, which opens and isn't refused by itself. A chunk that isn't full was judged only since the payload ends
-- well.
pub record Gives (seal_of : Seal) (key : List ℕ) (sealed : Stretch) (place room : ℕ) (bytes : List ℕ) : Type 0 where
  pub number : ℕ
  pub at : ℕ
  pub last : Bool
  pub plain : List ℕ
  pub stands : place ≡ 65536 * number + at
  pub within : at < length plain
  pub small : length plain ≤ 65536
  pub held : OpensAs last seal_of key sealed.bytes number plain
  pub allowed : IsAllowed number plain
  pub judged : length (chunk number sealed.bytes) < 65552 → sealed.ends_well ≡ true
  pub exact : length bytes ≡ min room (length plain - at)
  pub are : bytes ≡ take (length bytes) (drop at plain)

-- A read at this place is refused, where memory was there and the device didn't fail: the inner reader, which had this
-- rest, meets its own fault before it gave what was wanted of it, and the refusal is that of the fault; or the chunk at
-- the place, or the bytes after it, say why.
pub record RefusesRead (seal_of : Seal) (key : List ℕ) (sealed rest : Stretch) (wanted place : ℕ) (error : Error) : Type 0 where
  pub number : ℕ
  pub from : 65536 * number ≤ place
  pub to : place ≤ 65536 * number + 65536
  pub why : EndsEarly wanted rest ⊎ StopsAt seal_of key sealed.bytes number error

-- A read at this place is refused since the chunk there, or one that ends there, or the bytes after it, say so.
pub record StopsNear (seal_of : Seal) (key sealed : List ℕ) (place : ℕ) (error : Error) : Type 0 where
  pub number : ℕ
  pub from : 65536 * number ≤ place
  pub to : place ≤ 65536 * number + 65536
  pub why : StopsAt seal_of key sealed number error

-- A read at this place is refused for the chunk at the place alone: the inner reader meets its own fault before it gave
-- what was wanted of it, or the chunk says why. Bytes after a chunk are no reason.
pub record RefusesItself (seal_of : Seal) (key : List ℕ) (sealed rest : Stretch) (wanted place : ℕ) (error : Error) : Type 0 where
  pub number : ℕ
  pub from : 65536 * number ≤ place
  pub to : place < 65536 * number + 65536
  pub why : EndsEarly wanted rest ⊎ ((error ≢ AfterLast) × StopsAt seal_of key sealed.bytes number error)

-- This byte stands at this place of the plaintext, whatever the other chunks are: the text of the chunk there is the seal
-- of some bytes under its nonce as a middle chunk or as the last, and it is the one at its place among them. A text that
-- isn't full is a last one.
pub record IsByteAt (seal_of : Seal) (key sealed : List ℕ) (place byte : ℕ) : Type 0 where
  pub number : ℕ
  pub at : ℕ
  pub last : Bool
  pub plain : List ℕ
  pub stands : place ≡ 65536 * number + at
  pub under : at < 65536
  pub within : at < length plain
  pub bytes : AreBytes plain
  pub is_seal : chunk number sealed ≡ seal_of key (chunk_nonce number last) plain
  pub short : length (chunk number sealed) < 65552 → last ≡ true
  pub is : byte ≡ get_or plain at 0

-- these bytes stand in the plaintext from this place on
abbrev pub StandAt : Seal → List ℕ → List ℕ → ℕ → List ℕ → Type 0
StandAt seal_of key sealed place bytes = (i : ℕ) → i < length bytes → IsByteAt seal_of key sealed (place + i) (get_or bytes i 0)

-- A read that finds the end: the payload is that of the plaintext and nothing else, all of the plaintext was before
-- the place, and so the payload's length and its last chunk are what they must be.
pub record IsPayloadEnd (seal_of : Seal) (key : List ℕ) (sealed : Stretch) (place : ℕ) (plain : List ℕ) : Type 0 where
  pub is_payload : sealed ≡ whole (payload seal_of key plain)
  pub all : place ≡ length plain
  pub length_is : plain_len (length sealed.bytes) ≡ Some place
  pub last_chunk : let last = last_piece (length plain) in
      chunk last sealed.bytes ≡ seal_of key (chunk_nonce last true) (piece last plain)

-- A read that finds the end, also after seeks over chunks that are bad: the payload ends well, its length is that of a
-- payload of as many bytes as stand before the place, and its last chunk is the seal of some bytes as the last.
pub record IsGoodEnd (seal_of : Seal) (key : List ℕ) (sealed : Stretch) (place : ℕ) : Type 0 where
  pub ends_well : sealed.ends_well ≡ true
  pub length_is : plain_len (length sealed.bytes) ≡ Some place
  pub last : EndsAsLast seal_of key sealed.bytes
