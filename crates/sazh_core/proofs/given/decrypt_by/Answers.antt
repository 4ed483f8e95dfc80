use Rattle.std.proofs.Common.{◌∙◌, arith, inr, Ok, Err}
use Rattle.sazh_core.proofs.Told.{told, went_well, written_over}
use Rattle.sazh_core.proofs.given.decrypt_by.Goals as goal

pub returns-in-Ok-decrypt : goal.returns-in-Ok-decrypt
returns-in-Ok-decrypt g c =
    inr (
      (c.in-Ok.holders.items, c.decrypt.new.identities),
      c.in-Ok.ensures,
      (
        Ok c.in-Ok-decrypt.field-0,
        (rw c.deref_mut.ensures.value at c.in-Ok-decrypt.ensures.steps, rw c.deref_mut.ensures.value at c.in-Ok-decrypt.ensures.file, tt),
        went_well _ _,
      ),
    )

pub returns : goal.returns
returns g c =
    let again = written_over _ _ _ (Prim.omega (arith, c.decrypt.auto.identities, c.deref_mut.ensures.len)) in
    inr (
      (c.in-Ok.holders.items, c.decrypt.new.identities),
      c.in-Ok.ensures,
      (
        Err c.in-Err-decrypt.error,
        (rw c.deref_mut.ensures.value at c.in-Err-decrypt.ensures.steps, λ reader_told writer_told. tt, c.in-Err-decrypt.ensures.refused),
        told _ _ _ _ (c.deref_mut-in-Err-decrypt.ensures.value ∙ again) c.with_locked.ensures,
      ),
    )
