use Rattle.sazh_core.proofs.Reached.{opens_or_refuses}
use Rattle.sazh_core.proofs.opening.opens_header.Goals as goal

pub returns-in-Some : goal.returns-in-Some
returns-in-Some g c =
    opens_or_refuses g.I.Identity.unwraps c.args.header.now _ _ c.in-Some.it.number _ c.verified.result c.in-Some.ensures c.verified.ensures.right
    c.verified.ensures.refused
