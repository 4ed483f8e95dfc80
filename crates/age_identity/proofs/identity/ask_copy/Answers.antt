use Rattle.age_format.specs.Unwrapping.{unwrap_answer}
use Rattle.age_v1.proofs.AskedInTurn.{either_way}
use Rattle.age_v1.specs.X25519.{UnwrapsBy}
use Rattle.age_identity.proofs.identity.ask_copy.Goals as goal

pub returns : goal.returns
returns g c =
    let suite = g.S.Suite in
    either_way (UnwrapsBy suite.opened suite.shared_of suite.public_of) c.args.identity c.args.stanzas.now (unwrap_answer c.unwrap_stanzas.result)
    c.unwrap_stanzas.new.self c.unwrap_stanzas.ensures
