use Rattle.sazh_core.proofs.keyring.protected.Goals as goal

pub returns-in-Ok : goal.returns-in-Ok
returns-in-Ok g c =
    rw c.as_str.ensures.value at (c.protected_in.ensures c.args.file.now.bytes.items (rw c.deref.ensures.value at c.in-Ok.ensures))
