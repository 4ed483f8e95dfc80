use Rattle.age_v1.proofs.Carrying.{armor_carries, ended_carries}
use Rattle.age_armor.proofs.laws.armor_is_carrying.Goals as goal

pub returns-clause-itself : goal.returns-clause-itself
returns-clause-itself c = armor_carries

pub returns-clause-ended : goal.returns-clause-ended
returns-clause-ended c = ended_carries
