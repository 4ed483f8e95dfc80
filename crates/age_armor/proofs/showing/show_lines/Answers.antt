use Rattle.std.proofs.Common.{rules}
use Rattle.age_armor.proofs.Asking.{asks_later, asks_again}
use Rattle.age_armor.proofs.showing.show_lines.Goals as goal

pub returns-in-loop-of-retried-clause-asks : goal.returns-in-loop-of-retried-clause-asks
returns-in-loop-of-retried-clause-asks g c =
    asks_later _ c.show_once.result _ _ _ c.loop-of-retried._try c.loop-of-retried.invariant.interrupted c.show_once.ensures.asks (search rules)

pub loop-of-retried-preserved : goal.loop-of-retried-preserved
loop-of-retried-preserved g c = record {
  size = c.show_once.ensures.size;
  interrupted = asks_again _ c.show_once.result _ _ _ c.loop-of-retried._try c.loop-of-retried.invariant.interrupted c.show_once.ensures.asks
      (search rules);
}
