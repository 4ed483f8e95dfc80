-- What the private steps of a reader of a payload keep of the reader that the payload comes from.
use Rattle.std.specs.Prelude.{IsTrue, Result, ◌≡◌, ◌≢◌, ◌⊎◌}
use Rattle.age_error.specs.Refusals.{IsDevice, IsInterruption}
use Rattle.age_error.specs.declared.io.Error.{Error}
use Rattle.age_error.specs.declared.io.Error.TheVariants.{AfterLast, BadEnd, OutOfMemory}
use Rattle.age_io.specs.Cursor.{IsOutside, IsSeekRefusal, OrTooLong}
use Rattle.age_io.specs.declared.traits.Read.{Ghosts}
use Rattle.age_io.specs.Keeping.{KeepsReader}
use Rattle.age_stream.specs.declared.source.Source.{Source}
use Rattle.age_stream.specs.Reading.{payload_from, tells_from}
use Rattle.age_stream.specs.Keeping.{IsPayloadRefusal, OwnOrInner}

-- What it may say of a chunk by the chunk's own text.
pub record IsChunkRefusal (e : Error) : Type 0 where
  pub named : IsPayloadRefusal e
  pub itself : e ≢ AfterLast
  pub end : e ≢ BadEnd
  pub device : IsDevice e → ⊥

-- and what its seeks say, where those of the reader below say this
abbrev pub IsPayloadSeekRefusal : (Error → Type 0) → Error → Type 0
IsPayloadSeekRefusal below e = IsSeekRefusal (OrTooLong below) e ⊎ (e ≡ BadEnd) ⊎ (e ≡ OutOfMemory)

-- What is said where the reader below refuses a place: one inside its own content that it calls outside isn't where it was found, so the end is bad.
pub record IsLost (error answer : Error) : Type 0 where
  pub bad : IsOutside error → answer ≡ BadEnd
  pub same : (IsOutside error → ⊥) → answer ≡ error
  pub patient : IsInterruption answer → IsInterruption error
  pub device : IsDevice answer → IsDevice error
  pub refusal : IsOutside answer → ⊥
  pub memory : error ≢ OutOfMemory → answer ≢ OutOfMemory

-- The inner reader is the same, wherever it stands, and so is the payload that begins where it stood before the bytes that were taken. A refusal is
-- of this kind, or the inner reader's.
pub record KeepsPayload {R T : Type 0} {read : Ghosts R} (Own : Error → Type 0) (old new : Source R read) (result : Result T Error) : Type 0 where
  pub inner : KeepsReader read (OwnOrInner read Own) old.inner new.inner result
  pub payload : IsTrue (tells_from old) → payload_from new ≡ payload_from old
