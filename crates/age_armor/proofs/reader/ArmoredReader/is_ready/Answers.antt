use Rattle.std.proofs.Common.{ap, arith, inl, inr, length}
use Rattle.std.proofs.lemmas.Bool.{cases_Bool}
use Rattle.age_armor.specs.Stages.{is_start}
use Rattle.age_armor.proofs.reader.ArmoredReader.is_ready.Goals as goal

pub returns-clause-begun : goal.returns-clause-begun
returns-clause-begun g c = λ ready. elim (cases_Bool (is_start c.args.self.now.stage)) [
  | inl start ↦ absurd (omega (arith, c.is_empty.ensures.no c.if-is_empty.false, ap length (c.args.self.now.sound.fresh c.requires start)))
  | inr begun ↦ begun
]
