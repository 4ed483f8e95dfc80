use Rattle.age_protocol.proofs.Accepted.{accepted}
use Rattle.age_protocol.proofs.laws.front_is_accepted.Goals as goal

pub returns : goal.returns
returns g c = accepted c.header_text_reads_back.ensures c.verdict_is_unique.ensures g.R.Read
