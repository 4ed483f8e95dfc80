use Rattle.std.proofs.Common.{◌∙◌, arith, inr, refl, Ok, Err}
use Rattle.sazh_core.proofs.Told.{told, went_well, written_over}
use Rattle.sazh_core.proofs.given.opens_by.Goals as goal

pub returns-in-Ok-opens_header : goal.returns-in-Ok-opens_header
returns-in-Ok-opens_header g c =
    inr (
      (c.in-Ok.holders.items, c.opens_header.new.identities),
      c.in-Ok.ensures,
      (
        Ok c.in-Ok-opens_header.number,
        (Ok c.in-Ok-opens_header.number, rw c.deref_mut.ensures.value at c.in-Ok-opens_header.ensures, refl),
        went_well _ _,
      ),
    )

pub returns : goal.returns
returns g c =
    let again = written_over _ _ _ (Prim.omega (arith, c.opens_header.auto.identities, c.deref_mut.ensures.len)) in
    inr (
      (c.in-Ok.holders.items, c.opens_header.new.identities),
      c.in-Ok.ensures,
      (
        _,
        (Err c.in-Err-opens_header.error, rw c.deref_mut.ensures.value at c.in-Err-opens_header.ensures, refl),
        told _ _ _ _ (c.deref_mut-in-Err-opens_header.ensures.value ∙ again) c.with_locked.ensures,
      ),
    )
