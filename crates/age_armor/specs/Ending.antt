-- How a text ends, as a reader meets it.
use Rattle.std.specs.Prelude.{◌≡◌, ◌≢◌, ℕ, Bool, false, IsTrue, Result, IfErr, OnOk}
use Rattle.age_error.specs.declared.io.Error.{Error}
use Rattle.age_error.specs.declared.io.Error.TheVariants.{OutOfMemory}
use Rattle.age_io.specs.Reading.{IsQuiet}
use Rattle.age_v1.specs.DeliveredArmor.{Ending}
use Rattle.age_armor.specs.Stages.{NamesEnding}

-- What a call says of the text's end, where `old` and `new` are how it ends before and after it: a success keeps it, and a
-- refusal that neither the device nor memory made is that end's.
pub record KeepsEnding {A : Type 0} (tells failed : Bool) (old_faults new_faults : ℕ) (old new : Ending) (result : Result A Error) : Type 0 where
  pub same : IsTrue tells → OnOk result (new ≡ old)
  pub named : IsTrue tells → failed ≡ false → IfErr result (λ e. e ≢ OutOfMemory → IsQuiet old_faults new_faults → NamesEnding old e)
