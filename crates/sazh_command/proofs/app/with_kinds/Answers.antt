use Rattle.std.specs.Prelude.{codes}
use Rattle.clap.specs.Simple.{with_rule}
use Rattle.sazh_command.specs.App.{flag_rule}
use Rattle.sazh_command.proofs.Apps.{itself, extended, extends}
use Rattle.sazh_command.proofs.app.with_kinds.Goals as goal

pub returns : goal.returns
returns c =
    let encrypt = flag_rule (codes "encrypt") 101 in
    let first = extended (λ app. app) c.args.command c.args.command c.in_ok-arg.field-0 c.flag.result encrypt (itself c.args.command)
    c.flag.ensures c.in_ok-arg.ensures in
    extends (λ app. with_rule app encrypt) c.args.command c.in_ok-arg.field-0 c.flag-2.result (flag_rule (codes "decrypt") 100)
    c.arg-2.result first c.flag-2.ensures c.arg-2.ensures
