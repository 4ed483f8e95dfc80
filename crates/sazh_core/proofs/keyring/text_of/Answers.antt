use Rattle.sazh_core.proofs.KeyFiles.{reads_bytes}
use Rattle.sazh_core.proofs.keyring.text_of.Goals as goal

pub returns-in-Ok : goal.returns-in-Ok
returns-in-Ok c =
    let text = c.in-Ok.ensures in
    reads_bytes _ c.in-Ok.text c.args.bytes.now _ c.new.ensures.rest text.tells text.steady text.faults text.place text.rest text.honest
