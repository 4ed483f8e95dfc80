use Rattle.age_protocol.proofs.Accepted.{reads_back}
use Rattle.age_protocol.proofs.laws.front_reads_back.Goals as goal

pub returns : goal.returns
returns c = reads_back c.header_text_reads_back.ensures c.verdict_is_unique.ensures
