use Rattle.chacha20poly1305.proofs.Seals.{length-seal, opens_exactly, seal-bytes}
use Rattle.chacha20poly1305.proofs.laws.chacha20poly1305_laws.Goals as goal

pub returns-clause-opens_exactly : goal.returns-clause-opens_exactly
returns-clause-opens_exactly c = opens_exactly

pub returns-clause-length : goal.returns-clause-length
returns-clause-length c = length-seal

pub returns-clause-bytes : goal.returns-clause-bytes
returns-clause-bytes c = seal-bytes
