-- How a reader of a payload names a refusal, whatever the reader below is.
use Rattle.std.specs.Prelude.{◌≡◌, ℕ, ◌+◌, ◌*◌, ◌<◌, ◌≤◌, ◌⊎◌, List, length, Err}
use Rattle.age_error.specs.declared.io.Error.{Error}
use Rattle.age_error.specs.declared.io.Error.TheVariants.{AfterLast, BadEnd, OutOfMemory, Truncated}
use Rattle.age_error.specs.declared.io.SeekFrom.{SeekFrom}
use Rattle.age_suite.specs.declared.suite.Suite.{Ghosts as SuiteGhosts}
use Rattle.age_io.specs.declared.traits.Read.{Ghosts}
use Rattle.age_io.specs.Cursor.{IsOutside}
use Rattle.age_io.specs.Turns.{GivesTried, RefusesTried}
use Rattle.age_io.specs.Calls.{SeeksRetried}
use Rattle.age_stream.specs.declared.reader.StreamReader.{StreamReader}
use Rattle.age_stream.specs.Reader.{key_of, inner_of, payload_of, place_of, IsAfterLast}
use Rattle.age_v1.specs.DeliveredPayload.{chunk_of}
use Rattle.age_v1.specs.PayloadTargets.{IsRefusedTarget}

-- The reader below was asked for so many bytes by reads in turn, each tried again after an interruption, and the last of them, and no other, was
-- refused with this error.
abbrev pub RefusedBelow : {R : Type 0} → Ghosts R → ℕ → R → R → Error → Type 0
RefusedBelow read wanted old new e = (got : List ℕ) × RefusesTried read wanted got e old new

-- A seek of the reader below, or a read as above, was refused, and led to this state. The refusal is told as it is, but for one that says that a
-- target is outside: the payload's end isn't where it was found then.
pub record RefusedOnTheWay {R : Type 0} (read : Ghosts R) (seek_refuses : Error → Type 0) (new : R) (e : Error) : Type 0 where
  pub before : R
  pub error : Error
  pub asked : ((to : SeekFrom) × SeeksRetried read seek_refuses before new to (Err error))
      ⊎ ((wanted : ℕ) × RefusedBelow read wanted before new error)
  pub outside : IsOutside error → e ≡ BadEnd
  pub same : (IsOutside error → ⊥) → e ≡ error

module _ {S R : Type 0} {suite : SuiteGhosts S} {read : Ghosts R} where
  -- No read of the reader below was refused, and the text that they gave is: memory for its plaintext was refused, or what the chunk there opens to
  -- says so, or the chunk ends before the place.
  pub record RefusesText (old new : StreamReader S R suite read) (e : Error) : Type 0 where
    pub text : List ℕ
    pub came : GivesTried read 65552 text (inner_of old) (inner_of new)
    pub number : ℕ
    pub from : 65536 * number ≤ place_of old
    pub to : place_of old ≤ 65536 * number + 65536
    pub why : (e ≡ OutOfMemory) ⊎ (chunk_of suite.opened (key_of old) number text ≡ Err e) ⊎ ((e ≡ Truncated) × (65536 * number < place_of old))

  -- None was refused, and a byte came after the last chunk.
  pub record RefusesMore (old new : StreamReader S R suite read) (e : Error) : Type 0 where
    pub text : List ℕ
    pub came : GivesTried read 1 text (inner_of old) (inner_of new)
    pub some : 0 < length text
    pub is : e ≡ AfterLast

  -- Why a read of one that hadn't failed is refused: the reader below refused so, or what its reads gave, none of which was refused, says so.
  pub record SaysWhy (old new : StreamReader S R suite read) (e : Error) : Type 0 where
    pub itself : (IsAfterLast old → ⊥) → RefusedBelow read 65552 (inner_of old) (inner_of new) e ⊎ RefusesText old new e
    pub after : IsAfterLast old → RefusedBelow read 1 (inner_of old) (inner_of new) e ⊎ RefusesMore old new e

  -- Why a seek of one that tells its bytes is refused: by the order of its tests, or for the last chunk,
  -- whether or not a device failed; or memory for the last chunk was refused; or the reader below refused.
  abbrev pub SaysWhySeek : (Error → Type 0) → (old new : StreamReader S R suite read) → SeekFrom → Error → Type 0
  SaysWhySeek seek_refuses old new to e = IsRefusedTarget suite.seal_of (key_of old) (payload_of old).bytes to (place_of old) e
      ⊎ (e ≡ OutOfMemory) ⊎ RefusedOnTheWay read seek_refuses (inner_of new) e
