use Rattle.age_identity.proofs.Waiting.{IsWaiting}
use Rattle.age_identity.proofs.reading.read_some.Given as goal

abbrev pub invariant-loop-of-retried : goal.invariant-loop-of-retried
invariant-loop-of-retried g l = IsWaiting g.R.Read l.fn.reader l.reader l._try
