use Rattle.std.specs.Prelude.{string_bytes}
use Rattle.age_keys.proofs.Strings.{two_arguments, stretching-strings}
use Rattle.age_keys.proofs.scrypt.recipient.stanza_of.Goals as goal

pub seal_stanza-requires-clause-args : goal.seal_stanza-requires-clause-args
seal_stanza-requires-clause-args g c =
    let are = two_arguments string_bytes _ _ _ _ _ _ _ c.in_ok-push-2.ensures.items c.in_ok-push.ensures.items c.new-args.ensures.items
    c.in_ok-encode_columns.ensures
    c.in_ok-format.ensures.ok in
    stretching-strings c.args.salt.now c.args.factor _ c.known_array.ensures c.ranges.factor.fits are
