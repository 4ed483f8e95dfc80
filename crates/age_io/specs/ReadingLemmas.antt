-- What the counts of a reader's faults say of a part of a run.
use Rattle.std.specs.Prelude.{ℕ}
use Rattle.std.proofs.Common.{◌≤◌, arith}
use Rattle.age_io.specs.Reading.{IsQuiet}

-- what was quiet all along was quiet at its end
pub quiet_from : {a b c : ℕ} → a ≤ b → b ≤ c → IsQuiet a c → IsQuiet b c
quiet_from first second quiet = record { same = omega (arith, first, second, quiet.same); below = quiet.below }
