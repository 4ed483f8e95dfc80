-- What a seek in a payload answers, by the order of its tests.
use Rattle.std.specs.Prelude.{◌≡◌, ℕ, ◌+◌, ◌^◌, ◌<◌, ◌≤◌, ◌⊎◌, Bool, true, false, nat_le, if◌then◌else◌, Option, Some, None, Result, Ok, Err, List, length}
use Rattle.age_error.specs.declared.io.Error.{Error}
use Rattle.age_error.specs.declared.io.Error.TheVariants.{BeforeStart, BadEnd, TooLong}
use Rattle.age_io.specs.Cursor.{place_at, sought}
use Rattle.age_error.specs.declared.io.SeekFrom.{SeekFrom}
use Rattle.age_error.specs.declared.io.SeekFrom.TheVariants.{Current}
use Rattle.age_v1.specs.Payload.{Seal, EndsAsLast, plain_len}
use Rattle.age_v1.specs.PayloadAnswers.{StopsNear}

abbrev pub is_none : Option ℕ → Bool
is_none None = true
is_none (Some n) = false

-- the target is reckoned from the place, and below 0
abbrev pub below_start : SeekFrom → ℕ → Bool
below_start (Current d) place = is_none (place_at place d)
below_start _ place = false

-- where the payload's length is that of a plaintext, and of one of at most 2^60 bytes, the target is sought in it
abbrev pub in_length : Option ℕ → SeekFrom → ℕ → Result ℕ Error
in_length None to place = Err BadEnd
in_length (Some len) to place = if nat_le len (2 ^ 60) then sought to place len else Err TooLong

-- What a seek answers in a payload of so many bytes: a target that is reckoned from the place and below 0 is refused before
-- the length is looked at.
abbrev pub sought_in : SeekFrom → ℕ → ℕ → Result ℕ Error
sought_in to place size = if below_start to place then Err BeforeStart else in_length (plain_len size) to place

-- the target is the end of the plaintext
pub record IsToEnd (size : ℕ) (to : SeekFrom) (place : ℕ) : Type 0 where
  pub len : ℕ
  pub plain : plain_len size ≡ Some len
  pub target : sought_in to place size ≡ Ok len

-- the target is the end of the plaintext, and the payload's last chunk isn't the seal of any bytes as the last
pub record IsToBadEnd (seal_of : Seal) (key sealed : List ℕ) (to : SeekFrom) (place : ℕ) : Type 0 where
  pub end : IsToEnd (length sealed) to place
  pub bad : EndsAsLast seal_of key sealed → ⊥

-- a seek's refusal, where neither the device failed nor memory was refused: by the order of the tests, or for the last chunk
abbrev pub IsRefusedTarget : Seal → List ℕ → List ℕ → SeekFrom → ℕ → Error → Type 0
IsRefusedTarget seal_of key sealed to place e =
    (sought_in to place (length sealed) ≡ Err e) ⊎ ((e ≡ BadEnd) × IsToBadEnd seal_of key sealed to place)

-- Where a reader stands that was refused a seek and a read into room for so many bytes: where it stood, or where the seek led, and after what
-- was read, which doesn't fill the room.
abbrev pub StaysOrLeads : SeekFrom → (size old room new : ℕ) → Type 0
StaysOrLeads to size old room new = (new ≡ old)
    ⊎ ((start : ℕ) × (sought_in to old size ≡ Ok start) × (start ≤ new) × (new < start + room))

-- A read into room for so many bytes, from where a seek leads, stops before the room is full: at this place, since the chunk
-- there, or one that ends there, or the bytes after it, say so.
pub record StopsWithin (seal_of : Seal) (key sealed : List ℕ) (to : SeekFrom) (old room new : ℕ) (error : Error) : Type 0 where
  pub start : ℕ
  pub leads : sought_in to old (length sealed) ≡ Ok start
  pub from : start ≤ new
  pub short : new < start + room
  pub stops : StopsNear seal_of key sealed new error
