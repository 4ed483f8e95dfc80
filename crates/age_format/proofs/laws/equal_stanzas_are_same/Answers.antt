use Rattle.age_format.proofs.Equality.{equal_same}
use Rattle.age_format.proofs.laws.equal_stanzas_are_same.Goals as goal

pub returns : goal.returns
returns c = equal_same
