use Rattle.std.proofs.Common.{Ok, Err, inr, refl}
use Rattle.age_files.proofs.decrypting.decrypt_with.Goals as goal

pub returns-in-Ok-plaintext_by : goal.returns-in-Ok-plaintext_by
returns-in-Ok-plaintext_by g c =
    inr (
      c.in-Ok.passphrase,
      c.in-Ok.ensures.value,
      (
        Ok c.in-Ok-plaintext_by.plain.items,
        (c.plaintext_by.new.identities, rw (c.from_mut.ensures.value, c.identity_of-identity.ensures) at c.in-Ok-plaintext_by.ensures),
        refl,
      ),
    )

pub returns : goal.returns
returns g c =
    inr (
      c.in-Ok.passphrase,
      c.in-Ok.ensures.value,
      (
        Err c.in-Err-plaintext_by.error,
        (c.plaintext_by.new.identities, rw (c.from_mut.ensures.value, c.identity_of-identity.ensures) at c.in-Err-plaintext_by.ensures),
        refl,
      ),
    )
