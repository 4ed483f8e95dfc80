use Rattle.std.proofs.Common.{Ok, Err, inr, refl}
use Rattle.age_files.proofs.opening.open_header_with.Goals as goal

pub returns-in-Ok-open_header_by : goal.returns-in-Ok-open_header_by
returns-in-Ok-open_header_by g c =
    inr (
      c.in-Ok.passphrase,
      c.in-Ok.ensures.value,
      (
        Ok c.in-Ok-open_header_by.found,
        (c.open_header_by.new.identities, rw (c.from_mut.ensures.value, c.identity_of-identity.ensures) at c.in-Ok-open_header_by.ensures),
        refl,
      ),
    )

pub returns : goal.returns
returns g c =
    inr (
      c.in-Ok.passphrase,
      c.in-Ok.ensures.value,
      (
        Err c.in-Err-open_header_by.error,
        (c.open_header_by.new.identities, rw (c.from_mut.ensures.value, c.identity_of-identity.ensures) at c.in-Err-open_header_by.ensures),
        refl,
      ),
    )
