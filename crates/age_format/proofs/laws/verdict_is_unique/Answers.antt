use Rattle.age_v1.proofs.HeaderVerdicts.{one_verdict}
use Rattle.age_format.proofs.laws.verdict_is_unique.Goals as goal

pub returns : goal.returns
returns c = one_verdict
