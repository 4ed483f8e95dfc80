use Rattle.age_io.proofs.Appending.{InterruptedWrites}
use Rattle.age_io.proofs.retry.flush_retrying.Given as goal

abbrev pub invariant-loop-try : goal.invariant-loop-try
invariant-loop-try g l =
    InterruptedWrites g.W.Write 0 l.fn.writer l.writer l._try
