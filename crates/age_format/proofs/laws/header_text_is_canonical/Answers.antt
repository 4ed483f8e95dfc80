use Rattle.age_v1.proofs.Headers.{only_text}
use Rattle.age_format.proofs.laws.header_text_is_canonical.Goals as goal

pub returns : goal.returns
returns c = only_text
