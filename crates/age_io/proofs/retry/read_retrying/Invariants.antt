use Rattle.age_io.proofs.Retrying.{Interrupted}
use Rattle.age_io.proofs.retry.read_retrying.Given as goal

abbrev pub invariant-loop-try : goal.invariant-loop-try
invariant-loop-try g l =
    Interrupted g.R.Read l.fn.reader l.reader l._try
