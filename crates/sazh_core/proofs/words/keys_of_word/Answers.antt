use Rattle.std.proofs.Common.{refl}
use Rattle.sazh_core.proofs.words.keys_of_word.Goals as goal

pub returns-in-Err-recipients_of_identities : goal.returns-in-Err-recipients_of_identities
returns-in-Err-recipients_of_identities g c =
    rw c.in-Identities.is (refl, rw c.deref-in-Identities.ensures.value at c.in-Err-recipients_of_identities.ensures)
