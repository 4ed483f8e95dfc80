use Rattle.std.proofs.Common.{◌∙◌, Ok, Err, arith, refl}
use Rattle.age_files.proofs.keys.recipients_text_out.Goals as goal

pub returns-in-Ok : goal.returns-in-Ok
returns-in-Ok g c = (Ok c.in-Ok.told.items, c.in-Ok.ensures, rw c.deref.ensures.value at c.hand_out.ensures)

pub returns-in-Err : goal.returns-in-Err
returns-in-Err g c = (
  Err c.in-Err.error,
  c.in-Err.ensures,
  (
    c.refuse.ensures.status ∙ c.of_identities.ensures.number,
    omega (arith, c.refuse.ensures.status, c.of_identities.ensures.above),
    refl,
    c.refuse.ensures.count,
  ),
)
