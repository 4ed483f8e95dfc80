use Rattle.std.specs.Prelude.{codes}
use Rattle.clap.specs.Simple.{with_rule}
use Rattle.sazh_command.specs.App.{text_rule, flag_rule, long_flag_rule}
use Rattle.sazh_command.proofs.Apps.{itself, extended, extends}
use Rattle.sazh_command.proofs.app.with_output.Goals as goal

pub returns : goal.returns
returns c =
    let output = text_rule (codes "output") 111 in
    let force = flag_rule (codes "force") 102 in
    let first = extended (λ app. app) c.args.command c.args.command c.in_ok-arg.field-0 c.text_option.result output (itself c.args.command)
    c.text_option.ensures c.in_ok-arg.ensures in
    let second = extended (λ app. with_rule app output) c.args.command c.in_ok-arg.field-0 c.in_ok-arg-2.field-0 c.flag.result force first
    c.flag.ensures c.in_ok-arg-2.ensures in
    extends (λ app. with_rule (with_rule app output) force) c.args.command c.in_ok-arg-2.field-0 c.long_flag.result (long_flag_rule (codes "no-sync"))
    c.arg-3.result second c.long_flag.ensures c.arg-3.ensures
