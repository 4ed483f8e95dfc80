use Rattle.std.proofs.Common.{arith}
use Rattle.age_slices.proofs.Asking.{asked_more, decides_at}
use Rattle.age_slices.proofs.opening.first_answer.Goals as goal

pub loop-identity-preserved : goal.loop-identity-preserved
loop-identity-preserved g c = asked_more _ _ _ _ _ _ c.loop-identity.invariant (omega arith) c.in_default.ensures

pub returns-in-Some : goal.returns-in-Some
returns-in-Some g c = decides_at _ _ _ _ _ _ c.loop-identity.invariant (omega arith) _ c.in-Some.ensures
