use Rattle.age_keys.proofs.Stretched.{belongs}
use Rattle.age_keys.proofs.scrypt.laws.scrypt_pair.Goals as goal

pub returns : goal.returns
returns g c =
    let s = g.S.Suite in
    λ meant.
    belongs s.seal_of s.opened s.stretch_of s.accepts g.met.S.Suite.cipher g.met.S.Suite.stretching c.args.recipient.now c.args.identity.now meant
    c.known.ensures.0
    c.known.ensures.1 c.known.ensures.2
