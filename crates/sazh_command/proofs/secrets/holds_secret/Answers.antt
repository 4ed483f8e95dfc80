use Rattle.std.specs.Prelude.{codes}
use Rattle.std.proofs.lemmas.Str.Pattern.{contains_text}
use Rattle.sazh_command.proofs.Either.{either}
use Rattle.sazh_command.proofs.secrets.holds_secret.Goals as goal

pub returns : goal.returns
returns c =
    either c.contains-upper.result c.contains-lower.result _ _
    (contains_text c.contains-upper.result (codes "AGE-SECRET-KEY-") c.args.word.now c.contains-upper.ensures.cases)
    (contains_text c.contains-lower.result (codes "age-secret-key-") c.args.word.now c.contains-lower.ensures.cases)
