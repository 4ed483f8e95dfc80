use Rattle.std.specs.Prelude.{codes}
use Rattle.clap.specs.Simple.{with_rule, new_app}
use Rattle.sazh_command.specs.App.{number_rule, operands_rule, with_opening, with_quiet}
use Rattle.sazh_command.proofs.Apps.{with_more, with_option, with_options}
use Rattle.sazh_command.proofs.app.part.Goals as goal

pub returns : goal.returns
returns c =
    let bare = new_app (codes "part") in
    let from = number_rule (codes "from") in
    let count = number_rule (codes "count") in
    let with = with_more with_opening bare _ c.in_ok-with.with c.named-part.ensures c.in_ok-with.ensures in
    let quiet = with_more with_quiet (with_opening bare) _ c.in_ok-with_quiet.field-0 with c.in_ok-with_quiet.ensures in
    let app = with_quiet (with_opening bare) in
    let first = with_option app _ c.in_ok-arg.field-0 c.number_option.result from quiet c.number_option.ensures c.in_ok-arg.ensures in
    let second = with_option (with_rule app from) _ c.in_ok-arg-2.field-0 c.number_option-2.result count first c.number_option-2.ensures
    c.in_ok-arg-2.ensures in
    with_options (with_rule (with_rule app from) count) _ c.operands.result operands_rule c.arg-3.result second c.operands.ensures c.arg-3.ensures
