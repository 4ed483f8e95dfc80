use Rattle.std.proofs.Common.{[], ◌∷◌, Some}
use Rattle.age.specs.Encrypting.{Prepares}
use Rattle.age_claims.proofs.Given.{carries_as}
use Rattle.age_claims.proofs.Written.{written_with}
use Rattle.age_claims.proofs.standard.armored_and_back.Goals as goal

pub returns : goal.returns
returns g c = λ one apart.
    let (outcome, prepares, encrypted) = c.in-Ok.ensures in
    let (file, prepared, w) = written_with (λ o. Prepares g.T.Recipient.wraps (c.args.recipient.now ∷ []) (Some c.args.grease) c.args.draw.now o
    c.encrypt_and_armor.new.draw)
    _ _ c.args.plain.now _ outcome prepares encrypted in
    let for = c.several_recipients.ensures.any _ c.args.identity.now (Some c.args.grease) c.args.draw.now _ file c.args.plain.now _ one prepared
    w.is_file c.known_bytes.ensures w.within (apart file prepared w.is_file) in
    c.in-Ok-decrypt.ensures.honest _ c.args.plain.now (carries_as _ _ _ c.as_bytes.ensures.value w.carries) for

pub returns-in-Err-decrypt : goal.returns-in-Err-decrypt
returns-in-Err-decrypt g c = λ one apart kind.
    let (outcome, prepares, encrypted) = c.in-Ok.ensures in
    let (file, prepared, w) = written_with (λ o. Prepares g.T.Recipient.wraps (c.args.recipient.now ∷ []) (Some c.args.grease) c.args.draw.now o
    c.encrypt_and_armor.new.draw)
    _ _ c.args.plain.now _ outcome prepares encrypted in
    let for = c.several_recipients.ensures.any _ c.args.identity.now (Some c.args.grease) c.args.draw.now _ file c.args.plain.now _ one prepared
    w.is_file c.known_bytes.ensures w.within (apart file prepared w.is_file) in
    c.in-Err-decrypt.ensures.honest _ c.args.plain.now (carries_as _ _ _ c.as_bytes.ensures.value w.carries) for
