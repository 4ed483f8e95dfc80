use Rattle.age_v1.proofs.CoveredText.{covered_is}
use Rattle.age_format.proofs.laws.covered_front.Goals as goal

pub returns : goal.returns
returns c = covered_is
