use Rattle.std.proofs.Common.{rules, ap}
use Rattle.clap.specs.Matches.{found_of}
use Rattle.sazh_command.specs.Found.{is_true}
use Rattle.sazh_command.proofs.Rows.{text_found}
use Rattle.sazh_command.proofs.found.is_given.Goals as goal

pub returns-in-Some : goal.returns-in-Some
returns-in-Some c =
    let found = text_found (found_of c.args.matches.now) c.args.id.now c.get_str.result c.get_str.ensures in
    search (rules, ap is_true found)

pub returns-in-None : goal.returns-in-None
returns-in-None c =
    let found = text_found (found_of c.args.matches.now) c.args.id.now c.get_str.result c.get_str.ensures in
    search (rules, ap is_true found)
