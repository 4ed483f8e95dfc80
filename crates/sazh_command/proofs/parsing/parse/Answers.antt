use Rattle.std.specs.Prelude.{map, string_bytes, refl}
use Rattle.std.proofs.Common.{inr, subst}
use Rattle.sazh_command.specs.Answers.{IsRead}
use Rattle.sazh_command.proofs.parsing.parse.Goals as goal

pub returns-then-names_secret : goal.returns-then-names_secret
returns-then-names_secret c =
    let read = subst (IsRead (map string_bytes c.args.words.now)) c.in-Ok.is c.in_ok-command.ensures in
    inr (inr (refl, (c.in-Ok.command, c.if-names_secret.ensures.0 refl, read)))
