-- What a script says of each call.
use Rattle.std.specs.Prelude.{◌≡◌, ℕ, suc, zero, ◌+◌, ◌<◌, List, [], ◌∷◌}
use Rattle.age_error.specs.declared.io.ErrorKind.TheVariants.{Interrupted}
use Rattle.age_devices.specs.Devices.{most_of_call}
use Rattle.age_devices.specs.declared.script.Step.{Step}
use Rattle.age_devices.specs.declared.script.Step.TheVariants.{Move, Fail}
use Rattle.age_devices.specs.declared.script.Script.{Script}
use Rattle.age_devices.specs.declared.calls.Calls.{Calls}

-- What the parts of a script mean: the step of this number, from 0, of a device that is interrupted so often before each call, and so
-- often before the next one. So many of its calls move all; then come these steps, and then calls that move at most so many bytes.
-- What each way to make a script comes to stands in its contract.
abbrev pub step_of : (times left good : ℕ) → List Step → (most i : ℕ) → Step
step_of times (suc left) good steps most zero = Fail Interrupted
step_of times (suc left) good steps most (suc i) = step_of times left good steps most i
step_of times zero (suc good) steps most zero = Move most_of_call
step_of times zero (suc good) steps most (suc i) = step_of times times good steps most i
step_of times zero zero [] most zero = Move most
step_of times zero zero [] most (suc i) = step_of times times zero [] most i
step_of times zero zero (s ∷ steps) most zero = s
step_of times zero zero (s ∷ steps) most (suc i) = step_of times times zero steps most i

-- what the device does at the call of this number from now on, from 0
abbrev pub at_call : Script → ℕ → Step
at_call s i = step_of s.times s.left s.good s.steps.now s.most i

-- so many interruptions, then a call that moves at most so many bytes, and the same again
pub record IsInterrupted (times most : ℕ) (script : Script) : Type 0 where
  pub interruptions : (i : ℕ) → i < times → at_call script i ≡ Fail Interrupted
  pub call : at_call script times ≡ Move most
  pub again : (i : ℕ) → at_call script (times + 1 + i) ≡ at_call script i

-- what the device does at the call of this number from now on, from 0
abbrev pub call_of : Calls → ℕ → Step
call_of c i = at_call c.script i

-- how often it has failed
abbrev pub faults_in : Calls → ℕ
faults_in c = c.faults
