use Rattle.age_protocol.proofs.Accepted.{opens}
use Rattle.age_protocol.proofs.Reached.{content}
use Rattle.age_protocol.proofs.laws.file_opens.Goals as goal

pub returns-clause-payload : goal.returns-clause-payload
returns-clause-payload g c = opens c.front_reads_back.ensures g.S.Suite.seal_of

pub returns-clause-content : goal.returns-clause-content
returns-clause-content g c = content g.S.Suite g.R.Read g.met.R.Read.stands (opens c.front_reads_back.ensures g.S.Suite.seal_of)
