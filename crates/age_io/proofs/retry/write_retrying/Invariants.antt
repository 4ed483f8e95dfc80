use Rattle.std.proofs.Common.{length}
use Rattle.age_io.proofs.Appending.{InterruptedWrites}
use Rattle.age_io.proofs.retry.write_retrying.Given as goal

abbrev pub invariant-loop-try : goal.invariant-loop-try
invariant-loop-try g l =
    InterruptedWrites g.W.Write (length l.bytes) l.fn.writer l.writer l._try
