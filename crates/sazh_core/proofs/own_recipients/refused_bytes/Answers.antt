use Rattle.sazh_core.proofs.own_recipients.refused_bytes.Goals as goal

pub returns-in-Ok : goal.returns-in-Ok
returns-in-Ok g c = c.refused_text.ensures c.args.bytes.now c.in-Ok.ensures
