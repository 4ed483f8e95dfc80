use Rattle.age_keys.proofs.Matching.{passes_unopened, beside_passed, belongs}
use Rattle.age_keys.proofs.x25519.laws.x25519_pair.Goals as goal

pub returns-clause-beside_others : goal.returns-clause-beside_others
returns-clause-beside_others g c =
    let s = g.S.Suite in
    belongs s.opened s.shared_of s.public_of s.seal_of g.met.S.Suite.cipher g.met.S.Suite.agreement c.args.identity.now c.known.ensures

pub returns-clause-beside_passed : goal.returns-clause-beside_passed
returns-clause-beside_passed g c =
    let s = g.S.Suite in
    beside_passed s.opened s.shared_of s.public_of s.seal_of g.met.S.Suite.cipher g.met.S.Suite.agreement c.args.identity.now c.known.ensures

pub returns-clause-unopened : goal.returns-clause-unopened
returns-clause-unopened g c =
    let s = g.S.Suite in
    passes_unopened s.opened s.shared_of s.public_of c.args.identity.now
