use Rattle.std.proofs.Common.{◌-◌, length}
use Rattle.age_io.proofs.Filled.{IsFilled}
use Rattle.age_io.proofs.whole.fill.Given as goal

abbrev pub invariant-reads : goal.invariant-reads
invariant-reads g l = IsFilled g.R.Read l.buf l.filled l.fn.reader l.reader

abbrev pub decreases-reads : goal.decreases-reads
decreases-reads g l = length l.buf - l.filled
