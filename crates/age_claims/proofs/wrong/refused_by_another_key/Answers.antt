use Rattle.std.proofs.Common.{None, refl}
use Rattle.age.specs.DecryptErrors.{NoMatchingKeys}
use Rattle.age_claims.proofs.PassedOver.{never_opens}
use Rattle.age_claims.proofs.wrong.refused_by_another_key.Goals as goal

pub returns : goal.returns
returns g c = λ key stanzas plain file carries is_file unopened.
    let s = g.S.Suite in
    c.refused_as_answered.ensures key stanzas plain file None NoMatchingKeys carries is_file refl
    (never_opens s.opened s.shared_of s.public_of c.args.identity.now c.x25519_pair.ensures.unopened stanzas unopened)
