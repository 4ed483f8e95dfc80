use Rattle.age_v1.proofs.HeadersReadBack.{reads_back}
use Rattle.age_format.proofs.laws.header_text_reads_back.Goals as goal

pub returns : goal.returns
returns c = reads_back
