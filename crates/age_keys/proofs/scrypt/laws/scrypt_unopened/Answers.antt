use Rattle.age_keys.proofs.Stretched.{refuses_unopened}
use Rattle.age_keys.proofs.scrypt.laws.scrypt_unopened.Goals as goal

pub returns : goal.returns
returns g c =
    let s = g.S.Suite in
    refuses_unopened s.opened s.stretch_of s.accepts c.args.identity.now
