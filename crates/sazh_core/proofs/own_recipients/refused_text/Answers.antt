use Rattle.std.proofs.Common.{inr, refl}
use Rattle.sazh_core.proofs.own_recipients.refused_text.Goals as goal

pub returns-then-is_scrypt : goal.returns-then-is_scrypt
returns-then-is_scrypt g c = λ bytes reads. inr
    (inr (refl, (c.args.text, reads, (c.in-Ok.front, c.in-Ok.ensures, c.is_scrypt.ensures.0 c.if-is_scrypt.true))))
