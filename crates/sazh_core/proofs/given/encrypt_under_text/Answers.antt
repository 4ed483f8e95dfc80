use Rattle.std.proofs.Common.{inr, refl, Ok, Err}
use Rattle.sazh_core.proofs.given.encrypt_under_text.Goals as goal

pub returns-in-Ok-encrypt_under : goal.returns-in-Ok-encrypt_under
returns-in-Ok-encrypt_under g c = inr (
  c.in-Ok.passphrase,
  c.in-Ok.ensures.value,
  (Ok c.in-Ok-encrypt_under.field-0, c.in-Ok-encrypt_under.ensures, refl),
)

pub returns-in-Err-encrypt_under : goal.returns-in-Err-encrypt_under
returns-in-Err-encrypt_under g c = inr (
  c.in-Ok.passphrase,
  c.in-Ok.ensures.value,
  (Err c.in-Err-encrypt_under.error, c.in-Err-encrypt_under.ensures, refl),
)
