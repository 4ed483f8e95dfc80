use Rattle.std.specs.Prelude.{refl}
use Rattle.clap.proofs.OnLiterals.{clap_on_literals}
use Rattle.sazh_command.specs.Laws.{EncryptsAsAge, DecryptsAsAge, PartsByOptions}
use Rattle.sazh_command.proofs.Askable.{askable}
use Rattle.sazh_command.proofs.laws.command_laws.Goals as goal

pub returns-clause-askable : goal.returns-clause-askable
returns-clause-askable c = askable

encrypts : EncryptsAsAge
unfolding clap_on_literals
encrypts = ((refl, refl), (refl, refl))

decrypts : DecryptsAsAge
unfolding clap_on_literals
decrypts = ((refl, refl), (refl, refl))

parts : PartsByOptions
unfolding clap_on_literals
parts = ((refl, refl), (refl, refl))

pub returns-clause-encrypts : goal.returns-clause-encrypts
returns-clause-encrypts c = encrypts

pub returns-clause-decrypts : goal.returns-clause-decrypts
returns-clause-decrypts c = decrypts

pub returns-clause-parts : goal.returns-clause-parts
returns-clause-parts c = parts
