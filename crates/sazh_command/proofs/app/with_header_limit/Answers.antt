use Rattle.std.specs.Prelude.{codes}
use Rattle.sazh_command.specs.App.{number_rule}
use Rattle.sazh_command.proofs.Apps.{itself, extends}
use Rattle.sazh_command.proofs.app.with_header_limit.Goals as goal

pub returns : goal.returns
returns c =
    extends (λ app. app) c.args.command c.args.command c.number_option.result (number_rule (codes "header-limit")) c.arg.result
    (itself c.args.command)
    c.number_option.ensures c.arg.ensures
