-- What is true of payloads under every lawful cipher.
use Rattle.std.specs.Prelude.{◌≡◌, ℕ, zero, suc, ◌+◌, ◌*◌, ◌<◌, ◌≤◌, ◌^◌, ◌⊎◌, false, List, [], ◌++◌, length, take, Option, Some}
use Rattle.age_error.specs.Bytes.{AreBytes, AreBytesOf}
use Rattle.age_v1.specs.Payload.{Seal, piece, last_piece, payload, OpensAsMiddle, OpensAsLast, LastIsNoMiddle, plain_len}
use Rattle.age_io.specs.Stretch.{Stretch, whole}
use Rattle.age_v1.specs.DeliveredPayload.{payload_delivers}
use Rattle.age_v1.specs.PayloadRefusals.{RefusesFrontToEnd}
use Rattle.age_error.specs.declared.io.Error.{Error}
use Rattle.age_error.specs.declared.io.Error.TheVariants.{OutOfMemory, TooLong}

-- the first n pieces of a plaintext, joined
abbrev pub joined_pieces : List ℕ → ℕ → List ℕ
joined_pieces plain zero = []
joined_pieces plain (suc i) = joined_pieces plain i ++ piece i plain

-- the pieces up to the last are the whole plaintext: those before the last are full, and the last isn't empty unless
-- the plaintext is
pub record ArePieces (plain : List ℕ) : Type 0 where
  pub whole : joined_pieces plain (last_piece (length plain) + 1) ≡ plain
  pub full : (i : ℕ) → i < last_piece (length plain) → length (piece i plain) ≡ 65536
  pub last : length (piece (last_piece (length plain)) plain) ≤ 65536
  pub some : 0 < length plain → 0 < length (piece (last_piece (length plain)) plain)

-- a payload is bytes, 16 more than the plaintext has for each chunk
abbrev pub PayloadLength : Seal → Type 0
PayloadLength seal_of = (key plain : List ℕ) → AreBytesOf 32 key → AreBytes plain
    → AreBytesOf (length plain + 16 * (last_piece (length plain) + 1)) (payload seal_of key plain)

-- the length of a payload gives the length of its plaintext
abbrev pub PlainLength : Seal → Type 0
PlainLength seal_of = (key plain : List ℕ) → AreBytesOf 32 key → AreBytes plain
    → plain_len (length (payload seal_of key plain)) ≡ Some (length plain)

-- under one key no two plaintexts have one payload
abbrev pub OnePlaintext : Seal → Type 0
OnePlaintext seal_of = (key first second : List ℕ) → AreBytesOf 32 key → AreBytes first → AreBytes second
    → payload seal_of key first ≡ payload seal_of key second → first ≡ second

-- each chunk of a payload but the last opens as a middle one, to its piece of the plaintext
abbrev pub MiddleChunks : Seal → Type 0
MiddleChunks seal_of = (key plain : List ℕ) → AreBytesOf 32 key → AreBytes plain
    → (i : ℕ) → i < last_piece (length plain) → OpensAsMiddle seal_of key (payload seal_of key plain) i (piece i plain)

-- the last chunk of a payload opens as the last, to the last piece
abbrev pub LastChunk : Seal → Type 0
LastChunk seal_of = (key plain : List ℕ) → AreBytesOf 32 key → AreBytes plain → LastIsNoMiddle seal_of key plain
    → let last = last_piece (length plain) in OpensAsLast seal_of key (payload seal_of key plain) last (piece last plain)

-- a payload that is read from front to end is refused for want of memory, or because its plaintext has more than 2 ^ 60 bytes
abbrev pub NotRefused : Seal → Type 0
NotRefused seal_of = (key plain : List ℕ) → AreBytesOf 32 key → AreBytes plain → LastIsNoMiddle seal_of key plain
    → (error : Error) → RefusesFrontToEnd seal_of key (payload seal_of key plain) error
    → (error ≡ OutOfMemory) ⊎ ((error ≡ TooLong) × (2 ^ 60 < length plain))

-- success means payload: what delivers a plaintext and then a clean end is the payload of that plaintext, and then a clean end
abbrev pub OpensToPayload : Seal → (List ℕ → List ℕ → List ℕ → Option (List ℕ)) → Type 0
OpensToPayload seal_of opened = (key : List ℕ) (s : Stretch) (plain : List ℕ) → AreBytesOf 32 key → AreBytes s.bytes
    → payload_delivers opened key 0 s ≡ whole plain → s ≡ whole (payload seal_of key plain)

-- the payload of a plaintext of at most 2 ^ 60 bytes delivers it, and then a clean end
abbrev pub PayloadOpens : Seal → (List ℕ → List ℕ → List ℕ → Option (List ℕ)) → Type 0
PayloadOpens seal_of opened = (key plain : List ℕ) → AreBytesOf 32 key → AreBytes plain → length plain ≤ 2 ^ 60
    → LastIsNoMiddle seal_of key plain → payload_delivers opened key 0 (whole (payload seal_of key plain)) ≡ whole plain

-- a payload that was cut after n chunks, before the last one, delivers the n pieces before the cut, and then a fault
abbrev pub CutPayload : Seal → (List ℕ → List ℕ → List ℕ → Option (List ℕ)) → Type 0
CutPayload seal_of opened = (key plain : List ℕ) (n : ℕ) → AreBytesOf 32 key → AreBytes plain → length plain ≤ 2 ^ 60
    → n ≤ last_piece (length plain)
    → payload_delivers opened key 0 (whole (take (65552 * n) (payload seal_of key plain)))
    ≡ record { bytes = take (65536 * n) plain; ends_well = false }

-- sealed bytes in which others follow a chunk that opens as the last never deliver a clean end
abbrev pub NothingAfterLast : Seal → (List ℕ → List ℕ → List ℕ → Option (List ℕ)) → Type 0
NothingAfterLast seal_of opened = (key : List ℕ) (s : Stretch) (i : ℕ) (last plain : List ℕ) → AreBytesOf 32 key → AreBytes s.bytes
    → OpensAsLast seal_of key s.bytes i last → 65552 * (i + 1) < length s.bytes
    → payload_delivers opened key 0 s ≡ whole plain → ⊥
