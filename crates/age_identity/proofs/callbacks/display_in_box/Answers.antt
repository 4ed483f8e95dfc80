use Rattle.std.proofs.Common.{rules}
use Rattle.age_format.specs.BoxedLemmas.{changes_at}
use Rattle.age_identity.proofs.callbacks.display_in_box.Goals as goal

pub returns : goal.returns
returns g c =
    changes_at (λ i before after. (goal.Callbacks-dyn g (i, before)).displays before c.args.message.now after)
    c.args.callbacks.now _ _ _ (search rules) c.display_message.ensures
