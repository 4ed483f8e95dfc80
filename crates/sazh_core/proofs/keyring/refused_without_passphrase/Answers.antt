use Rattle.std.proofs.Common.{inr, refl}
use Rattle.sazh_core.proofs.KeyFiles.{is_under_passphrase}
use Rattle.sazh_core.proofs.keyring.refused_without_passphrase.Goals as goal

pub returns-in-Ok-Some : goal.returns-in-Ok-Some
returns-in-Ok-Some g c =
    inr (inr (refl, refl, is_under_passphrase _ _ c.args.file.now.bytes.items _ _ (rw c.in-Ok-Some.field-0-is at c.in-Ok-Some.ensures)))
