use Rattle.age_v1.proofs.CleanEnds.{delivered_carried}
use Rattle.age_armor.proofs.laws.delivered_is_carried.Goals as goal

pub returns : goal.returns
returns c = delivered_carried
