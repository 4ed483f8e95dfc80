use Rattle.std.specs.Prelude.{codes}
use Rattle.sazh_command.specs.App.{text_rule}
use Rattle.sazh_command.proofs.Apps.{itself, extends}
use Rattle.sazh_command.proofs.app.with_passphrase.Goals as goal

pub returns : goal.returns
returns c = extends (λ app. app) c.args.command c.args.command c.text_option.result (text_rule (codes "passphrase-file") 112) c.arg.result
    (itself c.args.command) c.text_option.ensures c.arg.ensures
