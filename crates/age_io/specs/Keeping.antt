-- What stays of a reader over calls of its own.
use Rattle.std.specs.Prelude.{◌≡◌, ◌≤◌, ◌<◌, ◌⊎◌, IsTrue, Result, IfErr, OnOk}
use Rattle.age_error.specs.Refusals.{IsDevice, IsInterruption}
use Rattle.age_error.specs.declared.io.Error.{Error}
use Rattle.age_error.specs.declared.io.Error.TheVariants.{UnexpectedEof}
use Rattle.age_io.specs.Reading.{AddsNoReason, TriedAgain}
use Rattle.age_io.specs.Cursor.{IsSeekRefusal}
use Rattle.age_io.specs.declared.traits.Read.{Ghosts}

-- the same reader, wherever it stands now
pub record SameReader {R : Type 0} (read : Ghosts R) (old new : R) : Type 0 where
  pub tells : read.tells new ≡ read.tells old
  pub steady : read.steady new ≡ read.steady old
  pub faults : read.faults old ≤ read.faults new
  pub content : IsTrue (read.tells old) → read.content new ≡ read.content old

-- What a call keeps of a reader whose interruptions it tries again: it is the same, wherever it stands, an error that says
-- that the device failed needs a device that failed, and a refusal is one that it might make before the call. What it may
-- refuse with after a success, tried again, it might before.
pub record KeepsReader {R T : Type 0} (read : Ghosts R) (may : R → Error → Type 0) (old new : R) (result : Result T Error) : Type 0 where
  pub same : SameReader read old new
  pub device : IfErr result (λ e. IsDevice e → read.faults old < read.faults new)
  pub patient : IfErr result (λ e. IsInterruption e → ⊥)
  pub why : IfErr result (may old)
  pub narrows : OnOk result (AddsNoReason (TriedAgain read.refuses) old new)

-- Why a read of all bytes that were asked for refuses: as reads do that are tried again, or since the rest ends well before they
-- came.
abbrev pub OrEarly : {R : Type 0} → Ghosts R → R → Error → Type 0
OrEarly read r e = ((e ≡ UnexpectedEof) × (IsTrue (read.tells r) → IsTrue (read.rest r).ends_well)) ⊎ TriedAgain read.refuses r e

-- as it does, or as only a seek does
abbrev pub OrSeek : {R : Type 0} → (Error → Type 0) → (R → Error → Type 0) → R → Error → Type 0
OrSeek seek_refuses refuses r e = IsSeekRefusal seek_refuses e ⊎ refuses r e
