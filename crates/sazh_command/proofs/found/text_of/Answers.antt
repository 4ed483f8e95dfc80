use Rattle.std.proofs.Common.{rules}
use Rattle.clap.specs.Matches.{found_of}
use Rattle.sazh_command.proofs.Rows.{text_found}
use Rattle.sazh_command.proofs.found.text_of.Goals as goal

pub returns-in_ok-from_str-in-Some : goal.returns-in_ok-from_str-in-Some
returns-in_ok-from_str-in-Some c =
    let found = text_found (found_of c.args.matches.now) c.args.id.now c.get_str.result c.get_str.ensures in
    search (rules, found)

pub returns-in-None : goal.returns-in-None
returns-in-None c =
    let found = text_found (found_of c.args.matches.now) c.args.id.now c.get_str.result c.get_str.ensures in
    search (rules, found)
