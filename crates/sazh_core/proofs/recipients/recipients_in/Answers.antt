use Rattle.std.proofs.Common.{inr, refl}
use Rattle.sazh_core.proofs.Added.{first_bad}
use Rattle.sazh_core.proofs.recipients.recipients_in.Goals as goal

pub returns-in-Ok-None : goal.returns-in-Ok-None
returns-in-Ok-None g c =
    let bad = rw c.in-Ok-None.field-0-is at (c.in-Ok-None.ensures _ c.loop-i.invariant) in
    inr (_, refl, first_bad (λ line. line.now) c.args.lines.now c.loop-i.i _ _ c.loop-i-test.true c.loop-i.invariant bad)
