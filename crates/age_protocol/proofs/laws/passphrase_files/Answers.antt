use Rattle.age_protocol.proofs.Knowing.{opened_by_knowing, holds_one, refuses_so}
use Rattle.age_protocol.proofs.laws.passphrase_files.Goals as goal

pub returns-clause-holds : goal.returns-clause-holds
returns-clause-holds g c = holds_one g.S.Suite

pub returns-clause-opens : goal.returns-clause-opens
returns-clause-opens g c = opened_by_knowing g.S.Suite g.met.S.Suite.cipher g.met.S.Suite.stretching

pub returns-clause-refuses : goal.returns-clause-refuses
returns-clause-refuses g c = refuses_so g.S.Suite
