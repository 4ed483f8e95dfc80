-- A reader that fails for good.
use Rattle.std.specs.Prelude.{◌≡◌, Bool, false, IsTrue, Result, IfErr, IsErrAnd, OnOk, OnErr}
use Rattle.age_error.specs.Refusals.{IsInterruption}
use Rattle.age_error.specs.declared.io.Error.{Error}
use Rattle.age_error.specs.declared.io.Error.TheVariants.{Failed}

-- What a call says of a reader that fails for good, where `old` and `new` are whether it had failed and has: once it
-- has refused it answers `Failed`. It has tried again what was interrupted.
pub record FailsForGood {A : Type 0} (old new : Bool) (result : Result A Error) : Type 0 where
  pub failed : IsTrue old → IsErrAnd result (λ e. e ≡ Failed)
  pub fails : OnErr result (IsTrue new)
  pub good : OnOk result (new ≡ false)
  pub patient : IfErr result (λ e. IsInterruption e → ⊥)
