use Rattle.std.proofs.Common.{inr}
use Rattle.age_slices.proofs.decrypting.decrypt_by.Goals as goal

pub returns-in-Ok : goal.returns-in-Ok
returns-in-Ok g c = inr (c.in-Ok.keys.items, c.plaintext_by.new.identities, c.in-Ok.ensures, rw c.deref_mut.ensures.value at c.plaintext_by.ensures)
