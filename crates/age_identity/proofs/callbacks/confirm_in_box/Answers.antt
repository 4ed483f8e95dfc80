use Rattle.std.proofs.Common.{rules}
use Rattle.std.specs.Option.{option_map}
use Rattle.age_format.specs.BoxedLemmas.{changes_at}
use Rattle.age_identity.proofs.callbacks.confirm_in_box.Goals as goal

pub returns : goal.returns
returns g c =
    changes_at (λ i before after. (goal.Callbacks-dyn g (i, before)).confirms before c.args.message.now c.args.yes.now
    (option_map (λ word. word.now) c.args.no) c.confirm.result after)
    c.args.callbacks.now _ _ _ (search rules) c.confirm.ensures
