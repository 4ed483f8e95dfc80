-- What the private steps of a seek in armor say.
use Rattle.std.specs.Prelude.{Bool, IfErr, IsTrue, OnOk, Result, false, length, true, ℕ, ◌<◌, ◌≡◌, ◌≢◌, ◌⊎◌}
use Rattle.age_io.specs.Stretch.{from_place, nothing}
use Rattle.age_io.specs.Reading.{IsQuiet, most_faults}
use Rattle.age_io.specs.declared.traits.Read.{Ghosts}
use Rattle.age_io.specs.Keeping.{KeepsReader, OrSeek, SameReader}
use Rattle.age_io.specs.Cursor.{IsOutside}
use Rattle.age_io.specs.Calls.{SeeksBy}
use Rattle.age_error.specs.Refusals.{IsDevice, IsInterruption}
use Rattle.age_error.specs.declared.io.Error.{Error}
use Rattle.age_error.specs.declared.io.Error.TheVariants.{BeforeStart, Failed, OutOfMemory}
use Rattle.age_error.specs.declared.io.SeekFrom.{SeekFrom}
use Rattle.age_v1.specs.DeliveredArmor.{Ending}
use Rattle.age_armor.specs.Stages.{NamesEnding}
use Rattle.age_armor.specs.Seeking.{AsksPast, IsEarly}

-- the reader is the same but for where it stands, and refuses as it may
pub record Goes {R A : Type 0} (read : Ghosts R) (may : R → Error → Type 0) (old new : R) (result : Result A Error) : Type 0 where
  pub keeps : KeepsReader read may old new result
  pub unspent : OnOk result (read.faults new < most_faults)

-- What a seek in a text does. The bool says whether the reader that gives the text ends well, the ending how the text does.
pub record SeeksText {R : Type 0} (read : Ghosts R) (failed : R → Bool) (seek_refuses : Error → Type 0) (old new : R) (to : SeekFrom)
    (ends_well : Bool) (ending : Ending) (result : Result ℕ Error) : Type 0 where
  pub seeks : SeeksBy read seek_refuses old new to result
  pub patient : IfErr result (λ e. IsInterruption e → ⊥)
  pub good : OnOk result (failed new ≡ false)
  pub unmoved : IfErr result (λ e. IsOutside e → failed new ≡ failed old)
  pub fails : IfErr result (λ e. (IsOutside e → ⊥) → IsTrue (failed new))
  pub named : IsTrue (read.tells old) → IsTrue ends_well →
      IfErr result (λ e. (IsOutside e → ⊥) → e ≢ OutOfMemory → IsQuiet (read.faults old) (read.faults new) →
      NamesEnding ending e × AsksPast to (read.place old) (length (read.content old).bytes))
  pub early : IsTrue (read.tells old) → IsTrue (read.steady old) → (read.content old).ends_well ≡ false →
      IfErr result (λ e. IsOutside e → (e ≡ BeforeStart) × IsEarly to (read.place old))

-- A reader is brought back to this place after an error that refuses a seek. After any other, or where it had failed, it has failed.
pub record ComesBack {R : Type 0} (read : Ghosts R) (failed : R → Bool) (seek_refuses : Error → Type 0) (old new : R) (stood : ℕ) (had_failed : Bool)
    (error answer : Error) : Type 0 where
  -- of every reader
  pub same : SameReader read old new
  pub device : (IsDevice error → ⊥) → IsDevice answer → read.faults old < read.faults new
  pub patient : (IsInterruption error → ⊥) → IsInterruption answer → ⊥
  pub fails : (IsOutside answer → ⊥) → IsTrue (failed new)
  pub unmoved : IsOutside answer → IsOutside error × (answer ≡ error) × (failed new ≡ had_failed)
  pub other : (IsOutside error → ⊥) → answer ≡ error
  pub gone : IsTrue had_failed → read.rest new ≡ nothing
  pub why : IsOutside error → OrSeek seek_refuses read.refuses old answer
  pub narrows : IsOutside answer → (e : Error) → read.refuses new e → ((had_failed ≡ true) × (e ≡ Failed)) ⊎ read.refuses old e
  -- of a reader that tells its bytes
  pub stays : IsTrue (read.tells old) → read.place new ≡ stood
  pub back : IsTrue (read.tells old) → IsTrue (read.steady old) → had_failed ≡ false → IsOutside answer
      → read.rest new ≡ from_place stood (read.content old)
  pub cause : IsTrue (read.tells old) → IsTrue (read.content old).ends_well → IsOutside error → answer ≢ OutOfMemory →
      IsQuiet (read.faults old) (read.faults new) → IsOutside answer
