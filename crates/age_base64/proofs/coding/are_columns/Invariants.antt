use Rattle.std.proofs.Common.{length}
use Rattle.age_base64.specs.Base64.{AreColumns}
use Rattle.age_base64.proofs.coding.are_columns.Given as goal

abbrev pub invariant-loop-rest : goal.invariant-loop-rest
invariant-loop-rest l = (AreColumns l.rest → AreColumns l.fn.text) × (AreColumns l.fn.text → AreColumns l.rest)

abbrev pub decreases-loop-rest : goal.decreases-loop-rest
decreases-loop-rest l = length l.rest
