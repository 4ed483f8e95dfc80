use Rattle.age_v1.proofs.Headers.{canonical_header}
use Rattle.age_format.proofs.laws.canonical_text_is_text.Goals as goal

pub returns : goal.returns
returns c = canonical_header
