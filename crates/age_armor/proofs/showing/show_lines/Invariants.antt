use Rattle.std.proofs.Common.{◌≡◌, length}
use Rattle.age_io.proofs.Retrying.{Interrupted}
use Rattle.age_armor.proofs.showing.show_lines.Given as goal

abbrev pub invariant-loop-of-retried : goal.invariant-loop-of-retried
invariant-loop-of-retried g l = record { size : length l.ahead ≡ 768; interrupted : Interrupted g.B.Read l.fn.reader l.reader l._try }
