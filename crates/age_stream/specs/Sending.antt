-- Why a chunk can't be sent.
use Rattle.std.specs.Prelude.{◌≡◌, ℕ, ◌⊎◌}
use Rattle.age_error.specs.declared.io.Error.{Error}
use Rattle.age_error.specs.declared.io.Error.TheVariants.{OutOfMemory}
use Rattle.age_io.specs.Writing.{HandsOn}

-- The seal finds no memory, or the writer that it goes to refuses, whatever it is given and with its interruptions tried again.
abbrev pub RefusesChunk : {W : Type 0} → (W → ℕ → Error → Type 0) → W → Error → Type 0
RefusesChunk refuses inner e = (e ≡ OutOfMemory) ⊎ HandsOn refuses inner e
