use Rattle.age_v1.proofs.Headers.{same_header}
use Rattle.age_format.proofs.laws.header_text_tells.Goals as goal

pub returns : goal.returns
returns c = same_header
