use Rattle.std.specs.Prelude.{codes}
use Rattle.sazh_command.specs.App.{texts_rule}
use Rattle.sazh_command.proofs.Apps.{itself, extends}
use Rattle.sazh_command.proofs.app.with_identities.Goals as goal

pub returns : goal.returns
returns c = extends (λ app. app) c.args.command c.args.command c.texts_option.result (texts_rule (codes "identity") 105) c.arg.result
    (itself c.args.command) c.texts_option.ensures c.arg.ensures
