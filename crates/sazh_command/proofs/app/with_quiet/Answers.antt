use Rattle.std.specs.Prelude.{codes}
use Rattle.sazh_command.specs.App.{flag_rule}
use Rattle.sazh_command.proofs.Apps.{itself, extends}
use Rattle.sazh_command.proofs.app.with_quiet.Goals as goal

pub returns : goal.returns
returns c =
    extends (λ app. app) c.args.command c.args.command c.flag.result (flag_rule (codes "quiet") 113) c.arg.result (itself c.args.command)
    c.flag.ensures c.arg.ensures
