use Rattle.std.proofs.Common.{inr, refl, Ok, Err}
use Rattle.sazh_core.proofs.given.encrypt_to_words.Goals as goal

pub returns-in-Ok-encrypt_to_keys : goal.returns-in-Ok-encrypt_to_keys
returns-in-Ok-encrypt_to_keys g c =
    inr (c.in-Ok.keys.items, c.in-Ok.ensures, (Ok c.in-Ok-encrypt_to_keys.field-0, rw c.deref.ensures.value at c.in-Ok-encrypt_to_keys.ensures, refl))

pub returns : goal.returns
returns g c =
    inr (
      c.in-Ok.keys.items,
      c.in-Ok.ensures,
      (Err c.in-Err-encrypt_to_keys.error, rw c.deref.ensures.value at c.in-Err-encrypt_to_keys.ensures, refl),
    )
