use Rattle.age_v1.proofs.ArmorTexts.{armor_utf8}
use Rattle.age_armor.proofs.laws.armor_is_text.Goals as goal

pub returns : goal.returns
returns c = armor_utf8
