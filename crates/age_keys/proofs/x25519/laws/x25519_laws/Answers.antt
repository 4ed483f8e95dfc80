use Rattle.age_keys.proofs.Unwrapped.{unwraps_what_it_wraps}
use Rattle.age_keys.proofs.x25519.laws.x25519_laws.Goals as goal

pub returns : goal.returns
returns g c =
    let s = g.S.Suite in
    unwraps_what_it_wraps s.seal_of s.opened s.shared_of s.public_of g.met.S.Suite.cipher g.met.S.Suite.agreement
