use Rattle.age_io.proofs.Retrying.{Interrupted}
use Rattle.age_armor.proofs.showing.look.Given as goal

abbrev pub invariant-loop-of-retried : goal.invariant-loop-of-retried
invariant-loop-of-retried g l = Interrupted g.B.Read l.fn.reader l.reader l._try
