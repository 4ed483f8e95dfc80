use Rattle.std.specs.Prelude.{codes}
use Rattle.clap.specs.Simple.{new_app, with_rule}
use Rattle.sazh_command.specs.App.{input_rule, long_flag_rule, with_opening}
use Rattle.sazh_command.proofs.Apps.{with_more, with_option, with_options}
use Rattle.sazh_command.proofs.app.inspect.Goals as goal

pub returns : goal.returns
returns c =
    let bare = new_app (codes "inspect") in
    let json = long_flag_rule (codes "json") in
    let with = with_more with_opening bare _ c.in_ok-with_opening.field-0 c.named-inspect.ensures c.in_ok-with_opening.ensures in
    let first = with_option (with_opening bare) _ c.in_ok-arg.field-0 c.long_flag.result json with c.long_flag.ensures c.in_ok-arg.ensures in
    with_options (with_rule (with_opening bare) json) _ c.input.result input_rule c.arg-2.result first c.input.ensures c.arg-2.ensures
