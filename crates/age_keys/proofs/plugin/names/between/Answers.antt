use Rattle.age_keys.proofs.Names.{between_is}
use Rattle.age_keys.proofs.plugin.names.between.Goals as goal

pub returns : goal.returns
returns c = between_is (λ r. r.now) c.args.prefix.now c.args.front.now c.in_ok-rest.rest.now c.before_hyphen.result c.in_ok-rest.ensures
    c.before_hyphen.ensures
