use Rattle.age_keys.proofs.Names.{one_hyphen_more}
use Rattle.age_keys.proofs.plugin.names.without_hyphens.Goals as goal

pub loop-before-preserved : goal.loop-before-preserved
loop-before-preserved c =
    one_hyphen_more c.args.bytes.now c.loop-before.front.now c.in-Some.before.now c.loop-before.invariant.0 c.loop-before.invariant.1
    c.in-Some.ensures
