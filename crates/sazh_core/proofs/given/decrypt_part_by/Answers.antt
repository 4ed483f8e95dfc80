use Rattle.std.proofs.Common.{◌∙◌, arith, inr, Ok, Err}
use Rattle.sazh_core.proofs.Told.{told, went_well, written_over}
use Rattle.sazh_core.proofs.given.decrypt_part_by.Goals as goal

pub returns-in-Ok-decrypt_part : goal.returns-in-Ok-decrypt_part
returns-in-Ok-decrypt_part g c =
    inr (
      (c.in-Ok.holders.items, c.decrypt_part.new.identities),
      c.in-Ok.ensures,
      (
        Ok c.in-Ok-decrypt_part.field-0,
        rw c.deref_mut.ensures.value at c.in-Ok-decrypt_part.ensures,
        went_well _ _,
      ),
    )

pub returns : goal.returns
returns g c =
    let again = written_over _ _ _ (Prim.omega (arith, c.decrypt_part.auto.identities, c.deref_mut.ensures.len)) in
    inr (
      (c.in-Ok.holders.items, c.decrypt_part.new.identities),
      c.in-Ok.ensures,
      (
        Err c.in-Err-decrypt_part.error,
        rw c.deref_mut.ensures.value at c.in-Err-decrypt_part.ensures,
        told _ _ _ _ (c.deref_mut-in-Err-decrypt_part.ensures.value ∙ again) c.with_locked.ensures,
      ),
    )
