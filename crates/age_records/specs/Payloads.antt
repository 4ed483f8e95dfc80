-- What reading a part of a payload's plaintext leaves, what it gives, and why it is refused.
use Rattle.std.specs.Prelude.{◌≡◌, ℕ, ◌+◌, ◌*◌, ◌^◌, ◌≤◌, ◌<◌, ◌⊎◌, IsTrue, List, length, Some, Err, ⊤}
use Rattle.age_error.specs.Refusals.{IsDevice}
use Rattle.age_error.specs.declared.io.Error.{Error}
use Rattle.age_error.specs.declared.io.Error.TheVariants.{OutOfMemory}
use Rattle.age_io.specs.Cursor.{IsSeekRefusal, OrTooLong}
use Rattle.age_io.specs.Reading.{AddsNoReason, IsQuiet, TriedAgain}
use Rattle.age_io.specs.Stretch.{Stretch}
use Rattle.age_io.specs.declared.traits.Read.{Ghosts}
use Rattle.age_v1.specs.PayloadAnswers.{StandAt}
use Rattle.age_v1.specs.Payload.{plain_len}
use Rattle.age_stream.specs.Reader.{payload_of, key_of, tells_of, content_of, faults_of, opens_of, refuses_of}
use Rattle.age_stream.specs.declared.reader.StreamReader.{StreamReader}
use Rattle.age_suite.specs.declared.suite.Suite.{Ghosts as SuiteGhosts}
use Rattle.age_records.specs.Text.{number_text, record_at, HoldsRecords}
use Rattle.age_records.specs.Standing.{HasRecords, HoldsNone, HasBadEnds}
use Rattle.age_records.specs.declared.error.RecordError.{RecordError}
use Rattle.age_records.specs.declared.error.RecordError.TheVariants.{NoSuchRecord, Damaged, Io}

-- this refusal says that the payload's device failed
abbrev pub IsDeviceError : RecordError → Type 0
IsDeviceError NoSuchRecord = ⊥
IsDeviceError Damaged = ⊥
IsDeviceError (Io e) = IsDevice e

-- what holds of the reader's refusal, where it is one
abbrev pub IfReaderRefuses : (Error → Type 0) → RecordError → Type 0
IfReaderRefuses Holds NoSuchRecord = ⊤
IfReaderRefuses Holds Damaged = ⊤
IfReaderRefuses Holds (Io e) = Holds e

-- by the payload's length its plaintext has as many bytes
pub record HasBytes (payload : Stretch) (size : ℕ) : Type 0 where
  pub len : ℕ
  pub plain : plain_len (length payload.bytes) ≡ Some len
  pub fits : size ≤ len

module _ {S R : Type 0} {suite : SuiteGhosts S} {read : Ghosts R} where
  -- these bytes stand in the plaintext of its payload at this place
  abbrev pub Stands : StreamReader S R suite read → ℕ → List ℕ → Type 0
  Stands r place bytes = StandAt suite.seal_of (key_of r) (payload_of r).bytes place bytes

  -- Why reading may refuse: for want of memory, as seeks in a payload do, or as the reader's reads do, its interruptions tried again.
  abbrev pub MayRefuse : (Error → Type 0) → StreamReader S R suite read → Error → Type 0
  MayRefuse seek_refuses r e = (e ≡ OutOfMemory)
      ⊎ (IsSeekRefusal (OrTooLong seek_refuses) e ⊎ TriedAgain (λ (s : StreamReader S R suite read). refuses_of s) r e)

  -- what the new reader may refuse with, the old one may
  abbrev pub AddsNone : StreamReader S R suite read → StreamReader S R suite read → Type 0
  AddsNone old new = AddsNoReason (TriedAgain (λ (s : StreamReader S R suite read). refuses_of s)) old new

  -- the reader of the same payload, wherever it stands
  pub record SamePayload (old new : StreamReader S R suite read) : Type 0 where
    pub tells : tells_of new ≡ tells_of old
    pub faults : faults_of old ≤ faults_of new
    pub opens : opens_of old ≤ opens_of new
    pub key : key_of new ≡ key_of old
    pub payload : IsTrue (tells_of old) → payload_of new ≡ payload_of old
    pub content : IsTrue (tells_of old) → content_of new ≡ content_of old

  -- Reading bytes of the plaintext up to this place is refused: `Damaged` only where they aren't there, and, where the plaintext ends well
  -- and has them, for want of memory or since the device failed.
  pub record RefusesRange (past : ℕ) (old new : StreamReader S R suite read) (e : RecordError) : Type 0 where
    pub known : e ≡ NoSuchRecord → ⊥
    pub device : IsDeviceError e → faults_of old < faults_of new
    pub damaged : IsTrue (tells_of old) → HasBytes (payload_of old) past → e ≡ Damaged → ⊥
    pub cause : IsTrue (tells_of old) → IsTrue (content_of old).ends_well → past ≤ length (content_of old).bytes →
        IsQuiet (faults_of old) (faults_of new) → e ≡ Io OutOfMemory

  -- By the plaintext's length, and by what it says where it ends well, it has so many records of so many bytes in all.
  pub record IsCounted (count total : ℕ) (r : StreamReader S R suite read) : Type 0 where
    pub fits : 8 + 8 * count + total < 2 ^ 64
    pub none : count ≡ 0 → total ≡ 0
    pub sized : IsTrue (tells_of r) → plain_len (length (payload_of r).bytes) ≡ Some (8 + 8 * count + total)
    pub holds : IsTrue (tells_of r) → IsTrue (content_of r).ends_well → HasRecords (content_of r).bytes count total

  -- these numbers stand in it as its count and its last end
  pub record SaysCount (count total : ℕ) (r : StreamReader S R suite read) : Type 0 where
    pub counted : Stands r 0 (number_text count)
    pub ended : 0 < count → Stands r (8 * count) (number_text total)

  -- Counting the records is refused: `Damaged` where what stands there is no text of records, and, where the plaintext ends well, else only for
  -- want of memory or since the device failed.
  pub record RefusesCount (old new : StreamReader S R suite read) (e : RecordError) : Type 0 where
    pub known : e ≡ NoSuchRecord → ⊥
    pub device : IsDeviceError e → faults_of old < faults_of new
    pub stands : IsTrue (tells_of old) → e ≡ Damaged → (len : ℕ) → plain_len (length (payload_of old).bytes) ≡ Some len → HoldsNone (Stands old) len
    pub damaged : IsTrue (tells_of old) → IsTrue (content_of old).ends_well → e ≡ Damaged → HoldsRecords (content_of old).bytes → ⊥
    pub cause : IsTrue (tells_of old) → IsTrue (content_of old).ends_well → IsQuiet (faults_of old) (faults_of new) →
        (e ≡ Io OutOfMemory) ⊎ (e ≡ Damaged)

  -- Reading record i of so many is refused: there is none, its ends are damaged, or it can't be read.
  pub record RefusesRecord (count total i : ℕ) (old new : StreamReader S R suite read) (e : RecordError) : Type 0 where
    pub missing : e ≡ NoSuchRecord → count ≤ i
    pub device : IsDeviceError e → faults_of old < faults_of new
    pub damaged : IsTrue (tells_of old) → e ≡ Damaged → HasBadEnds (Stands old) total i
    pub cause : IsTrue (tells_of old) → IsTrue (content_of old).ends_well → IsQuiet (faults_of old) (faults_of new) →
        (e ≡ Io OutOfMemory) ⊎ (record_at (content_of old).bytes i ≡ Err e)
