use Rattle.std.specs.Prelude.{string_bytes}
use Rattle.age_keys.proofs.Strings.{one_argument, share-strings}
use Rattle.age_keys.proofs.x25519.wrapping.stanza_of.Goals as goal

pub seal_stanza-requires-clause-args : goal.seal_stanza-requires-clause-args
seal_stanza-requires-clause-args g c =
    let are = one_argument string_bytes _ _ _ _ c.in_ok-push.ensures.items c.new-args.ensures.items c.in_ok-encode_columns.ensures in
    share-strings c.args.share.now _ c.known_array.ensures are
