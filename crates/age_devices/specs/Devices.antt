-- What a device does at its calls, and what comes of it.
use Rattle.std.specs.Prelude.{◌≡◌, ℕ, ◌+◌, ◌-◌, ◌^◌, suc, zero, List, [], ◌∷◌, Result, Err}
use Rattle.age_error.specs.declared.io.Error.{Error}
use Rattle.age_error.specs.declared.io.Error.TheVariants.{Device}
use Rattle.age_devices.specs.declared.script.Step.{Step}
use Rattle.age_devices.specs.declared.script.Step.TheVariants.{Move, Fail}

-- as many bytes as a call may ask for
abbrev pub most_of_call : ℕ
most_of_call = 2 ^ 64 - 1

-- the step of this number, from 0, or one that moves so many bytes where there is none
abbrev pub step_among : List Step → ℕ → ℕ → Step
step_among [] most i = Move most
step_among (s ∷ steps) most zero = s
step_among (s ∷ steps) most (suc i) = step_among steps most i

-- what comes of a step: what a call does that moves at most so many bytes, or the fault
abbrev pub by_step : {T : Type 0} → Step → (ℕ → Result T Error) → Result T Error
by_step (Move most) done = done most
by_step (Fail kind) done = Err (Device kind)

-- how many faults a step is
abbrev pub fault_in : Step → ℕ
fault_in (Move most) = 0
fault_in (Fail kind) = 1

-- One step is taken: it is counted where it is a fault, and what comes then comes one call sooner.
pub record TakesStep (before after : ℕ → Step) (old_faults new_faults : ℕ) : Type 0 where
  pub counts : new_faults ≡ old_faults + fault_in (before 0)
  pub later : (i : ℕ) → after i ≡ before (i + 1)

-- so often a device fails at most
abbrev pub most_failures : ℕ
most_failures = 2 ^ 64 - 2
