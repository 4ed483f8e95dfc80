use Rattle.age_protocol.proofs.Sets.{are_sets}
use Rattle.age_protocol.proofs.laws.labels_are_sets.Goals as goal

pub returns : goal.returns
returns c = are_sets c.args.left.now c.args.right.now c.len-left.ensures.ordered c.len-right.ensures.ordered
