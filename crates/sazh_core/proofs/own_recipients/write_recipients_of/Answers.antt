use Rattle.std.proofs.Common.{inr, refl, Ok, Err}
use Rattle.sazh_core.proofs.own_recipients.write_recipients_of.Goals as goal

pub returns-in-Ok-write_lines : goal.returns-in-Ok-write_lines
returns-in-Ok-write_lines g c =
    inr (c.in-Ok.recipients.items, c.in-Ok.ensures, (Ok c.in-Ok-write_lines.field-0, rw c.deref.ensures.value at c.in-Ok-write_lines.ensures, refl))

pub returns : goal.returns
returns g c =
    inr (c.in-Ok.recipients.items, c.in-Ok.ensures, (Err c.in-Err-write_lines.error, rw c.deref.ensures.value at c.in-Err-write_lines.ensures, refl))
