use Rattle.std.proofs.Common.{subst, arith}
use Rattle.sazh_core.specs.Inspecting.{AreLengths}
use Rattle.sazh_core.proofs.inspecting.lengths_of.Goals as goal

pub returns-in-Some : goal.returns-in-Some
returns-in-Some c = subst (λ n. AreLengths n c.lengths_of_payload.result) (Prim.omega (arith, c.in-Some.ensures)) c.lengths_of_payload.ensures
