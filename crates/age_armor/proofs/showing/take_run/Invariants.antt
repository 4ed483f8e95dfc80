use Rattle.std.proofs.Common.{◌≡◌}
use Rattle.age_io.proofs.Retrying.{Interrupted}
use Rattle.age_armor.proofs.showing.take_run.Given as goal

abbrev pub invariant-loop-of-retried : goal.invariant-loop-of-retried
invariant-loop-of-retried g l = record { same_line : l.line.items ≡ l.fn.line.items; interrupted : Interrupted g.B.Read l.fn.reader l.reader l._try }
