use Rattle.std.proofs.Common.{◌-◌, length}
use Rattle.age_io.proofs.Filled.{IsFilled}
use Rattle.age_io.proofs.whole.read_exact.Given as goal

abbrev pub invariant-loop-at : goal.invariant-loop-at
invariant-loop-at g l = IsFilled g.R.Read l.buf l.at l.fn.reader l.reader

abbrev pub decreases-loop-at : goal.decreases-loop-at
decreases-loop-at g l = length l.buf - l.at
