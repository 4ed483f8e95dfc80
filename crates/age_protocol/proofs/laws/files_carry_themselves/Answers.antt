use Rattle.age_protocol.proofs.Files.{carries_itself}
use Rattle.age_protocol.proofs.laws.files_carry_themselves.Goals as goal

pub returns : goal.returns
returns g c = carries_itself g.S.Suite.seal_of
