use Rattle.age_claims.proofs.InTurn.{held_stands}
use Rattle.age_claims.proofs.sealed.held_bytes_stand.Goals as goal

pub returns : goal.returns
returns g c = held_stands g.S.Suite.seal_of
