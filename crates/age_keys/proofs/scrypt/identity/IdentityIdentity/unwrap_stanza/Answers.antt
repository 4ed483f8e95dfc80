use Rattle.std.proofs.Common.{rules, refl, Some}
use Rattle.age_format.specs.Unwrapping.{key_answer}
use Rattle.age_v1.specs.Identities.{Steady}
use Rattle.age_v1.specs.Scrypt.{UnwrapsUnder}
use Rattle.age_keys.proofs.Asking.{asked_one}
use Rattle.age_keys.proofs.scrypt.identity.IdentityIdentity.unwrap_stanza.Goals as goal

pub returns : goal.returns
returns g c =
    let s = g.S.Suite in
    let own : UnwrapsUnder s.opened s.stretch_of s.accepts c.args.self.now c.args.stanza.now (Some (key_answer c.unwrap_own.result)) = search rules in
    asked_one (Steady (UnwrapsUnder s.opened s.stretch_of s.accepts)) c.args.self.now
    c.args.stanza.now (Some (key_answer c.unwrap_own.result)) c.args.self.now (own, refl)
