use Rattle.std.proofs.Common.{◌∙◌, arith, inr, Ok, Err}
use Rattle.sazh_core.proofs.Told.{command_told, command_went_well, written_over}
use Rattle.sazh_core.proofs.given.rekey_by.Goals as goal

pub returns-in-Ok-rekey : goal.returns-in-Ok-rekey
returns-in-Ok-rekey g c =
    inr (
      (c.in-Ok-holders_of.holders.items, c.rekey.new.identities, c.in-Ok.keys.items),
      (c.in-Ok-holders_of.ensures, c.in-Ok.ensures),
      (
        Ok c.in-Ok-rekey.field-0,
        (
          rw (c.deref_mut.ensures.value, c.deref.ensures.value) at c.in-Ok-rekey.ensures.steps,
          rw (c.deref_mut.ensures.value, c.deref.ensures.value) at c.in-Ok-rekey.ensures.plaintext,
        ),
        command_went_well _ _,
      ),
    )

pub returns : goal.returns
returns g c =
    let again = written_over _ _ _ (Prim.omega (arith, c.rekey.auto.identities, c.deref_mut.ensures.len)) in
    inr (
      (c.in-Ok-holders_of.holders.items, c.rekey.new.identities, c.in-Ok.keys.items),
      (c.in-Ok-holders_of.ensures, c.in-Ok.ensures),
      (
        Err c.in-Err-rekey.error,
        (
          rw (c.deref_mut.ensures.value, c.deref.ensures.value) at c.in-Err-rekey.ensures.steps,
          λ reader_told well writer_told file plain carries for. tt,
        ),
        command_told _ _ _ _ (c.deref_mut-in-Err-rekey.ensures.value ∙ again) c.command_with_locked.ensures,
      ),
    )
