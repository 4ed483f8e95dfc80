use Rattle.std.proofs.Common.{Ok, Err, inr, refl}
use Rattle.age_files.proofs.encrypting.encrypt_to.Goals as goal

pub returns-in-Ok-file_to_keys : goal.returns-in-Ok-file_to_keys
returns-in-Ok-file_to_keys g c =
    inr (c.in-Ok.keys.items, c.in-Ok.ensures.ok, (Ok c.in-Ok-file_to_keys.file.items, rw c.deref.ensures.value at c.in-Ok-file_to_keys.ensures, refl))

pub returns : goal.returns
returns g c =
    inr (c.in-Ok.keys.items, c.in-Ok.ensures.ok, (Err c.in-Err-file_to_keys.error, rw c.deref.ensures.value at c.in-Err-file_to_keys.ensures, refl))
