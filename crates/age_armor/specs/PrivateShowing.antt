-- What private steps do with the bytes that a reader shows.
use Rattle.std.specs.Prelude.{IfErr, IfOk, IsTrue, List, OnErr, OnOk, Result, length, take, ℕ, ◌++◌, ◌+◌, ◌<◌, ◌≡◌, ◌≢◌, ◌≤◌}
use Rattle.age_error.specs.Bytes.{AreBytes}
use Rattle.age_error.specs.Refusals.{IsDevice, IsInterruption}
use Rattle.age_error.specs.declared.io.Error.{Error}
use Rattle.age_error.specs.declared.io.Error.TheVariants.{OutOfMemory}
use Rattle.age_io.specs.Stretch.{IsCleanEnd, IsFault, Stretch}
use Rattle.age_io.specs.Reading.{AddsNoReason, Delivers, IsQuiet, most_faults}
use Rattle.age_io.specs.Keeping.{SameReader}
use Rattle.age_io.specs.declared.traits.Read.{Ghosts}
use Rattle.age_base64.specs.Lines.{Lacks, line}
use Rattle.age_base64.specs.Base64.{padded_columns}
use Rattle.age_armor.specs.declared.showing.Run.{Run}
use Rattle.age_armor.specs.declared.showing.Run.TheVariants.{Ended, Nothing, Open}

-- A call that asks the reader for bytes, which refuses for these reasons, or for want of memory. Where it refuses nothing was taken.
pub record AsksReader {R A : Type 0} (read : Ghosts R) (refuses : R → Error → Type 0) (old new : R) (result : Result A Error) : Type 0 where
  -- of every reader
  pub same : SameReader read old new
  pub device : IfErr result (λ e. IsDevice e → read.faults old < read.faults new)
  pub unspent : OnOk result (read.faults new < most_faults)
  pub why : IfErr result (λ e. e ≢ OutOfMemory → refuses old e)
  pub narrows : OnOk result (AddsNoReason refuses old new)
  pub again : IfErr result (λ e. IsInterruption e → AddsNoReason refuses old new)
  -- of a reader that tells its bytes
  pub stays : IsTrue (read.tells old) → OnErr result (read.place new ≡ read.place old)
  pub interrupted : IsTrue (read.tells old) → IfErr result (λ e. IsInterruption e → read.rest new ≡ read.rest old)
  pub cause : IsTrue (read.tells old) → IfErr result (λ e. e ≢ OutOfMemory → IsQuiet (read.faults old) (read.faults new) → IsFault (read.rest old))

-- where it succeeds neither was anything
pub record TakesNothing {R A : Type 0} (read : Ghosts R) (old new : R) (result : Result A Error) : Type 0 where
  pub stays : IsTrue (read.tells old) → OnOk result (read.place new ≡ read.place old)
  pub same : IsTrue (read.tells old) → OnOk result (read.rest new ≡ read.rest old)

-- a line, of so many bytes before and after, gets no shorter, and longer by each part of it
pub record Lengthens (old new : ℕ) (result : Result Run Error) : Type 0 where
  pub longer : old ≤ new
  pub grows : IfOk result (λ run. run ≡ Open → old < new)
  pub ended : IfOk result (λ run. run ≡ Ended → old < new)

-- a line of 64 columns that stands for these 48 bytes was taken
pub record TakesFull (bytes : List ℕ) (old new : Stretch) : Type 0 where
  pub size : length bytes ≡ 48
  pub each : AreBytes bytes
  pub delivered : Delivers (line (padded_columns bytes)) old new

-- the first LF stands there
pub record IsLineEnd (at : ℕ) (bytes : List ℕ) : Type 0 where
  pub within : at < length bytes
  pub before : Lacks 10 (take at bytes)
  pub same : take (at + 1) bytes ≡ line (take at bytes)

-- what was appended to a line: nothing at a clean end, bytes before its LF, or all up to that
abbrev pub TakesRun : Run → List ℕ → List ℕ → Stretch → Stretch → Type 0
TakesRun Nothing before after old new = (after ≡ before) × (new ≡ old) × IsCleanEnd old
TakesRun Open before after old new = (run : List ℕ) × (after ≡ before ++ run) × Delivers run old new × Lacks 10 run
TakesRun Ended before after old new = (run : List ℕ) × (after ≡ before ++ line run) × Delivers (line run) old new × Lacks 10 run
