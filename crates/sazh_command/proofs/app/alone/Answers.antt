use Rattle.std.specs.Prelude.{codes}
use Rattle.clap.specs.Simple.{new_app}
use Rattle.sazh_command.specs.App.{input_rule, with_settings, with_kinds, with_encrypting, with_opening, with_output, with_quiet}
use Rattle.sazh_command.proofs.Apps.{with_more, with_options}
use Rattle.sazh_command.proofs.app.alone.Goals as goal

pub returns : goal.returns
returns c =
    let bare = with_settings (new_app (codes "sazh")) in
    let kinds = with_more with_kinds bare _ c.in_ok-program.program c.titled.ensures c.in_ok-program.ensures in
    let to = with_more with_encrypting (with_kinds bare) _ c.in_ok-to.to kinds c.in_ok-to.ensures in
    let with = with_more with_opening (with_encrypting (with_kinds bare)) _ c.in_ok-with.with to c.in_ok-with.ensures in
    let out = with_more with_output (with_opening (with_encrypting (with_kinds bare))) _ c.in_ok-out.out with c.in_ok-out.ensures in
    let quiet = with_more with_quiet (with_output (with_opening (with_encrypting (with_kinds bare)))) _ c.in_ok-with_quiet.field-0 out
    c.in_ok-with_quiet.ensures in
    with_options (with_quiet (with_output (with_opening (with_encrypting (with_kinds bare))))) _ c.input.result input_rule c.arg.result quiet
    c.input.ensures c.arg.ensures
