-- What reading an identity file answers.
use Rattle.std.specs.Prelude.{◌≡◌, ◌≢◌, ◌⊎◌, ℕ, ◌≤◌, ◌<◌, IsTrue, false, List, [], ◌++◌, length, take, Result, IfOk, IfErr, OnOk, ◌^◌}
use Rattle.age_error.specs.Refusals.{IsDevice, IsInterruption}
use Rattle.age_error.specs.declared.io.Error.{Error}
use Rattle.age_error.specs.declared.io.Error.TheVariants.{OutOfMemory, LimitExceeded, NotIdentity}
use Rattle.age_io.specs.Stretch.{Stretch}
use Rattle.age_io.specs.Reading.{IsQuiet, TriedAgain}
use Rattle.age_io.specs.declared.traits.Read.{Ghosts}
use Rattle.age_identity.specs.Entries.{Entry}
use Rattle.age_identity.specs.Files.{HasGoodLines, IsFirstBad, IsIdentityFileOf}
use Rattle.age_identity.specs.Limiting.{limited}

-- the most bytes that an identity file may have
unfoldable pub most_file_bytes : ℕ
most_file_bytes = 2 ^ 24

-- a byte stands past the limit, and no line is bad that a line feed ends before it
pub record IsTooLong (limit : ℕ) (rest : Stretch) : Type 0 where
  pub long : limit < length rest.bytes
  pub good : HasGoodLines (take limit rest.bytes)

-- The reader refused after a front in which no line is bad that a line feed ends. Without a fault of the device that front is all that
-- it had.
pub record FileBreaksOff (limit before after : ℕ) (rest : Stretch) (e : Error) : Type 0 where
  pub front : List ℕ
  pub more : List ℕ
  pub whole : rest.bytes ≡ front ++ more
  pub fits : length front ≤ limit
  pub good : HasGoodLines front
  pub all : e ≢ OutOfMemory → IsQuiet before after → (more ≡ []) × (rest.ends_well ≡ false)

-- Why no file was read, where `last` is what the reader was when it was given up: for want of memory, for the first bad line, for a
-- byte past the limit, or as the reader refuses, whose interruptions are tried again.
abbrev pub RefusesIdentityFile : {R : Type 0} → Ghosts R → ℕ → R → R → Error → Type 0
RefusesIdentityFile read limit old last e =
    (e ≡ OutOfMemory)
    ⊎ ((number : ℕ) × (e ≡ NotIdentity number) × (IsTrue (read.tells old) → IsFirstBad (limited limit (read.rest old)) number))
    ⊎ ((e ≡ LimitExceeded) × (IsTrue (read.tells old) → IsTooLong limit (read.rest old)))
    ⊎ (TriedAgain read.refuses old e × (IsTrue (read.tells old) → FileBreaksOff limit (read.faults old) (read.faults last) (read.rest old) e))

-- What reading a file answers, whose entries were found, where `last` is what the reader is in the end.
pub record ReadsEntries {R A : Type 0} (read : Ghosts R) (limit : ℕ) (entries : A → List Entry) (input last : R)
    (result : Result A Error) : Type 0 where
  pub faults : read.faults input ≤ read.faults last
  pub device : IfErr result (λ e. IsDevice e → read.faults input < read.faults last)
  pub patient : IfErr result (λ e. IsInterruption e → ⊥)
  -- of a reader that tells its bytes: all that it had was read, no more than the limit
  pub fits : IsTrue (read.tells input) → OnOk result (length (read.rest input).bytes ≤ limit)
  pub file : IsTrue (read.tells input) → IfOk result (λ x. IsIdentityFileOf (read.rest input) (entries x))
  pub refused : IfErr result (RefusesIdentityFile read limit input last)

-- The same of a call that takes the reader: some state of it was the last.
abbrev pub ReadsFile : {R A : Type 0} → Ghosts R → ℕ → (A → List Entry) → R → Result A Error → Type 0
ReadsFile {R} read limit entries input result = (last : R) × ReadsEntries read limit entries input last result

-- The same of a reader of a device that has not failed yet.
abbrev pub ReadsDevice : {R A : Type 0} → Ghosts R → (A → List Entry) → Result A Error → Type 0
ReadsDevice {R} read entries result = (device : R) × (read.faults device ≡ 0) × ReadsFile read most_file_bytes entries device result
