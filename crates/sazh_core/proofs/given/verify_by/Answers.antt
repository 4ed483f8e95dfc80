use Rattle.std.proofs.Common.{refl, Ok, Err}
use Rattle.sazh_core.proofs.Verified.{verified}
use Rattle.sazh_core.proofs.given.verify_by.Goals as goal

pub returns-in-Ok-clause-steps : goal.returns-in-Ok-clause-steps
returns-in-Ok-clause-steps g c =
    (c.new-plaintext.result, c.decrypt_by.new.writer, c.new-plaintext.ensures, (Ok c.in-Ok.field-0, c.in-Ok.ensures, (refl, c.finish.ensures)))

pub returns-in-Ok-clause-file : goal.returns-in-Ok-clause-file
returns-in-Ok-clause-file g c =
    verified _ g.S.Suite _ _ c.args.keyring.now g.R.Read c.args.reader.now c.decrypt_by.new.reader c.new-plaintext.result c.decrypt_by.new.writer
    c.in-Ok.field-0
    c.finish.result (λ w. refl) (λ x took. took) c.new-plaintext.ensures c.finish.ensures c.in-Ok.ensures

pub returns-in-Err-clause-steps : goal.returns-in-Err-clause-steps
returns-in-Err-clause-steps g c =
    (c.new-plaintext.result, c.decrypt_by.new.writer, c.new-plaintext.ensures, (Err c.in-Err.error, c.in-Err.ensures, refl))
