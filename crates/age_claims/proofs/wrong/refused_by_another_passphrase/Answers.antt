use Rattle.std.proofs.Common.{[], ◌∷◌, Some, None, Err, refl}
use Rattle.age.specs.DecryptErrors.{DecryptionFailed}
use Rattle.age_claims.proofs.Unopened.{each, wrapped_bytes}
use Rattle.age_claims.proofs.wrong.refused_by_another_passphrase.Goals as goal

pub returns : goal.returns
returns g c = λ recipient draws left file plain carried passphrase some most within prepares carries is_file unopened.
    let s = g.S.Suite in
    let holds = c.passphrase_files.ensures.holds recipient draws left file prepares in
    let key = wrapped_bytes s.seal_of s.stretch_of s.accepts recipient file.file_key file refl
    (c.several_recipients.ensures.stanzas (recipient ∷ []) None draws left file prepares) in
    c.refused_as_answered.ensures file.file_key file.stanzas plain carried (Some (Err DecryptionFailed)) DecryptionFailed carries is_file refl
    (λ answer after asked.
    each s.seal_of s.opened s.stretch_of s.accepts g.met.S.Suite.cipher g.met.S.Suite.stretching recipient c.args.identity.now passphrase some most
    within file.file_key
    holds.salt key holds.bytes holds.accepted (unopened holds.salt _ holds.alone) answer after (rw holds.alone at asked))
