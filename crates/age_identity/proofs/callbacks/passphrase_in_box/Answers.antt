use Rattle.std.proofs.Common.{rules}
use Rattle.std.specs.Option.{option_map}
use Rattle.age_format.specs.BoxedLemmas.{changes_at}
use Rattle.age_identity.proofs.callbacks.passphrase_in_box.Goals as goal

pub returns : goal.returns
returns g c =
    changes_at (λ i before after. (goal.Callbacks-dyn g (i, before)).gives_passphrase before c.args.description.now
    (option_map (λ text. text) c.request_passphrase.result) after)
    c.args.callbacks.now _ _ _ (search rules) c.request_passphrase.ensures
