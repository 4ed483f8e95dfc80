use Rattle.std.proofs.Common.{Ok, Err, inr, refl}
use Rattle.age_files.proofs.encrypting.encrypt_with.Goals as goal

pub returns-in-Ok-file_under : goal.returns-in-Ok-file_under
returns-in-Ok-file_under g c = inr (c.in-Ok.passphrase, c.in-Ok.ensures.value, (Ok c.in-Ok-file_under.file.items, c.in-Ok-file_under.ensures, refl))

pub returns-in-Err-file_under : goal.returns-in-Err-file_under
returns-in-Err-file_under g c = inr (c.in-Ok.passphrase, c.in-Ok.ensures.value, (Err c.in-Err-file_under.error, c.in-Err-file_under.ensures, refl))
