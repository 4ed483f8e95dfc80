use Rattle.std.proofs.Common.{◌∙◌, ap, sym}
use Rattle.std.proofs.lemmas.Bool.{true≢false}
use Rattle.age_armor.specs.Stages.{has_lines}
use Rattle.age_armor.proofs.Keeping.{reached}
use Rattle.age_armor.proofs.reader.ArmoredReader.lines.Goals as goal

pub returns-clause-least : goal.returns-clause-least
returns-clause-least g c = λ told armored. c.args.self.now.sound.lined told (λ binary. true≢false (sym armored ∙ ap has_lines binary))

pub returns-clause-reached : goal.returns-clause-reached
returns-clause-reached g c = λ told good. reached c.args.self.now told good
