use Rattle.std.proofs.Common.{arith}
use Rattle.sazh_core.proofs.Reached.{one_decides, one_more}
use Rattle.sazh_core.proofs.opening.first_answer.Goals as goal

pub loop-identity-preserved : goal.loop-identity-preserved
loop-identity-preserved g c = record {
  asked = one_more _ _ _ _ _ _ c.loop-identity.invariant.asked (omega arith) (rw c.stanzas.ensures.stanzas at c.in_default.ensures);
  counted = omega (arith, c.loop-identity.invariant.counted);
}

pub returns-in-Some : goal.returns-in-Some
returns-in-Some g c =
    rw c.loop-identity.invariant.counted
    (one_decides _ _ _ _ _ _ c.loop-identity.invariant.asked (omega arith) _ (rw c.stanzas.ensures.stanzas at c.in-Some.ensures))
