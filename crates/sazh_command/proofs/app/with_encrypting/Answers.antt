use Rattle.std.specs.Prelude.{codes}
use Rattle.clap.specs.Simple.{with_rule}
use Rattle.sazh_command.specs.App.{texts_rule, flag_rule}
use Rattle.sazh_command.proofs.Apps.{itself, extended, extends}
use Rattle.sazh_command.proofs.app.with_encrypting.Goals as goal

pub returns : goal.returns
returns c =
    let recipient = texts_rule (codes "recipient") 114 in
    let file = texts_rule (codes "recipients-file") 82 in
    let first = extended (λ app. app) c.args.command c.args.command c.in_ok-arg.field-0 c.texts_option.result recipient (itself c.args.command)
    c.texts_option.ensures c.in_ok-arg.ensures in
    let second = extended (λ app. with_rule app recipient) c.args.command c.in_ok-arg.field-0 c.in_ok-arg-2.field-0 c.texts_option-2.result file first
    c.texts_option-2.ensures c.in_ok-arg-2.ensures in
    extends (λ app. with_rule (with_rule app recipient) file) c.args.command c.in_ok-arg-2.field-0 c.flag.result (flag_rule (codes "armor") 97)
    c.arg-3.result second c.flag.ensures c.arg-3.ensures
