use Rattle.std.proofs.Common.{◌∙◌, sym, ap, length}
use Rattle.age_keys.proofs.Opening.{sixteen}
use Rattle.age_keys.proofs.stanzas.open_file_key.Goals as goal

pub unreachable-requires : goal.unreachable-requires
unreachable-requires g c =
    c.in-Err.ensures.1 (ap length c.as_slice.ensures.value
    ∙ sixteen g.S.Suite.seal_of g.S.Suite.opened g.met.S.Suite.cipher c.args.key.now c.args.body.now
    c.in-Some.bytes.items c.known_array.ensures c.known_bytes.ensures c.requires (sym (rw c.in-Some.is at c.in_ok-bytes.ensures.value)))
