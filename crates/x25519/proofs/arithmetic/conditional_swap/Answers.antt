use Rattle.std.proofs.Common.{◌∙◌}
use Rattle.x25519.specs.Elements.{value}
use Rattle.x25519.proofs.Selecting.{right_is_left}
use Rattle.x25519.proofs.arithmetic.conditional_swap.Goals as goal

pub returns-clause-right : goal.returns-clause-right
returns-clause-right c = c.selected-right.ensures ∙ right_is_left c.args.swap (value c.args.a) (value c.args.b)
