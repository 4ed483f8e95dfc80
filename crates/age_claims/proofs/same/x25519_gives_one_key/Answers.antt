use Rattle.age_claims.proofs.OneKeys.{x25519_one}
use Rattle.age_claims.proofs.same.x25519_gives_one_key.Goals as goal

pub returns : goal.returns
returns g c = x25519_one g.S.Suite.opened g.S.Suite.shared_of g.S.Suite.public_of c.args.identity.now
