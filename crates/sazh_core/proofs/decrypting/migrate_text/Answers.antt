use Rattle.std.proofs.Common.{inr, refl, Ok, Err}
use Rattle.sazh_core.proofs.decrypting.migrate_text.Goals as goal

pub returns-in-Err-migrate : goal.returns-in-Err-migrate
returns-in-Err-migrate g c =
    let text = c.in-Ok.ensures in
    inr (
      c.in-Ok.text,
      c.migrate.new.reader,
      c.migrate.new.writer,
      Err c.in-Err-migrate.error,
      record { tells = text.tells; steady = text.steady; faults = text.faults; place = text.place; rest = text.rest; honest = text.honest },
      c.in-Err-migrate.ensures.migrates,
      c.in-Err-migrate.ensures.files,
      (refl, refl),
    )

pub returns : goal.returns
returns g c =
    let text = c.in-Ok.ensures in
    inr (
      c.in-Ok.text,
      c.migrate.new.reader,
      c.migrate.new.writer,
      Ok c.in-Ok-migrate.field-0,
      record { tells = text.tells; steady = text.steady; faults = text.faults; place = text.place; rest = text.rest; honest = text.honest },
      c.in-Ok-migrate.ensures.migrates,
      c.in-Ok-migrate.ensures.files,
      c.flushed.ensures,
    )
