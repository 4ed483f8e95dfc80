use Rattle.std.specs.Prelude.{codes}
use Rattle.std.proofs.Common.{rules, append-nil}
use Rattle.clap.specs.Matches.{found_of}
use Rattle.sazh_command.proofs.Rows.{values_found}
use Rattle.sazh_command.proofs.found.push_recipients_files.Goals as goal

pub returns-in-Some : goal.returns-in-Some
returns-in-Some c =
    let found = values_found (found_of c.args.matches.now) (codes "recipients-file") c.get_raw.result c.get_raw.ensures in
    search (rules, found)

pub returns-in-None : goal.returns-in-None
returns-in-None c =
    let found = values_found (found_of c.args.matches.now) (codes "recipients-file") c.get_raw.result c.get_raw.ensures in
    search (rules, found, append-nil)
