use Rattle.age_v1.proofs.ArmorLines.{length_armor}
use Rattle.age_armor.proofs.laws.armor_length.Goals as goal

pub returns : goal.returns
returns c = length_armor
