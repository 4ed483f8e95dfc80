use Rattle.age_v1.specs.Scrypt.{UnwrapsUnder}
use Rattle.age_encrypted.proofs.Decrypted.{stream_named, refusal_named}
use Rattle.age_encrypted.proofs.encrypted_identity.decrypted.Goals as goal

pub returns-in-Ok : goal.returns-in-Ok
returns-in-Ok g c =
    let suite = g.S.Suite in
    let (answer, asked, opens) = c.in-Ok.ensures in
    stream_named suite g.R.Read _ _ _ (UnwrapsUnder suite.opened suite.stretch_of suite.accepts) c.args.identity c.in-Ok.stream
    (answer, c.decrypt_one.new.identity, asked, opens)

pub returns : goal.returns
returns g c =
    let suite = g.S.Suite in
    let (answer, asked, refused) = c.in-Err.ensures in
    refusal_named suite g.R.Read _ _ _ (UnwrapsUnder suite.opened suite.stretch_of suite.accepts) c.args.identity c.in-Err.e c.named.result
    c.named.ensures
    (answer, c.decrypt_one.new.identity, asked, refused)
