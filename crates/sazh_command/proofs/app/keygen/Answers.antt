use Rattle.std.specs.Prelude.{codes}
use Rattle.clap.specs.Simple.{new_app, with_rule}
use Rattle.sazh_command.specs.App.{flag_rule, input_rule, with_output, with_quiet}
use Rattle.sazh_command.proofs.Apps.{with_more, with_option, with_options}
use Rattle.sazh_command.proofs.app.keygen.Goals as goal

pub returns : goal.returns
returns c =
    let bare = new_app (codes "keygen") in
    let recipients = flag_rule (codes "recipients") 121 in
    let to = with_more with_output bare _ c.in_ok-to.to c.named-keygen.ensures c.in_ok-to.ensures in
    let quiet = with_more with_quiet (with_output bare) _ c.in_ok-with_quiet.field-0 to c.in_ok-with_quiet.ensures in
    let first = with_option (with_quiet (with_output bare)) _ c.in_ok-arg.field-0 c.flag.result recipients quiet c.flag.ensures c.in_ok-arg.ensures in
    with_options (with_rule (with_quiet (with_output bare)) recipients) _ c.input.result input_rule c.arg-2.result first c.input.ensures
    c.arg-2.ensures
