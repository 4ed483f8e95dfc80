use Rattle.sazh_command.proofs.Apps.{with_commands}
use Rattle.sazh_command.proofs.app.with_command.Goals as goal

pub returns : goal.returns
returns c = λ app below program_is command_is.
    with_commands app below c.in_ok-program.field-0 c.in_ok-command.field-0 c.subcommand.result
    (rw c.in_ok-program.was at program_is) (rw c.in_ok-command.was at command_is) c.subcommand.ensures
