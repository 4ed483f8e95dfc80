use Rattle.std.proofs.Common.{◌∙◌, arith, inr, Ok, Err}
use Rattle.sazh_core.proofs.Told.{told, went_well, written_over}
use Rattle.sazh_core.proofs.given.migrate_by.Goals as goal

pub returns-in-Ok-migrate_text : goal.returns-in-Ok-migrate_text
returns-in-Ok-migrate_text g c =
    inr (
      (c.in-Ok.holders.items, c.migrate_text.new.identities),
      c.in-Ok.ensures,
      (
        Ok c.in-Ok-migrate_text.field-0,
        rw c.deref_mut.ensures.value at c.in-Ok-migrate_text.ensures,
        went_well _ _,
      ),
    )

pub returns : goal.returns
returns g c =
    let again = written_over _ _ _ (Prim.omega (arith, c.migrate_text.auto.identities, c.deref_mut.ensures.len)) in
    inr (
      (c.in-Ok.holders.items, c.migrate_text.new.identities),
      c.in-Ok.ensures,
      (
        Err c.in-Err-migrate_text.error,
        rw c.deref_mut.ensures.value at c.in-Err-migrate_text.ensures,
        told _ _ _ _ (c.deref_mut-in-Err-migrate_text.ensures.value ∙ again) c.with_locked.ensures,
      ),
    )
