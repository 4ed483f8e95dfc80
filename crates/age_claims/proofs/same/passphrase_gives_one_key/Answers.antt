use Rattle.age_claims.proofs.OneKeys.{passphrase_one}
use Rattle.age_claims.proofs.same.passphrase_gives_one_key.Goals as goal

pub returns : goal.returns
returns g c = passphrase_one g.S.Suite.opened g.S.Suite.stretch_of g.S.Suite.accepts c.args.identity.now
