use Rattle.std.proofs.Common.{take}
use Rattle.age_base64.specs.Lines.{Lacks}
use Rattle.age_armor.proofs.showing.line_end.Given as goal

abbrev pub invariant-loop-at : goal.invariant-loop-at
invariant-loop-at l = record { so_far : Lacks 10 (take l.at l.bytes) }
