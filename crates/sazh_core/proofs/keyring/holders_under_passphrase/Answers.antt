use Rattle.std.proofs.Common.{◌∙◌, ap, inl}
use Rattle.std.specs.Prelude.{Some}
use Rattle.sazh_core.proofs.KeyFiles.{match_weaker}
use Rattle.sazh_core.proofs.keyring.holders_under_passphrase.Goals as goal

pub returns-in-Ok-Some : goal.returns-in-Ok-Some
returns-in-Ok-Some g c =
    match_weaker c.alone.result c.alone.ensures
    (λ one is. (
      c.new.result,
      c.in-Ok-Some.identity,
      c.new.ensures
          ∙ ap Some c.in-Ok.ensures.value,
      rw c.in-Ok-Some.field-0-is at c.in-Ok-Some.ensures,
      is,
    ))
    (λ e memory. inl (inl memory))
