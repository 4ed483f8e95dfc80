use Rattle.age_armor.proofs.Testing.{decodes_armor, refuses_no_armor}
use Rattle.age_armor.proofs.decoding.Decoder.new.Goals as goal

pub invariant_of-result : goal.invariant_of-result
invariant_of-result c = record {
  decodes = decodes_armor c.armor_engine.result c.armor_engine.ensures;
  takes = refuses_no_armor c.armor_engine.result c.armor_engine.ensures;
}
