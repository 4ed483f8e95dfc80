use Rattle.age_protocol.proofs.Writing.{text-flushed, text-stopped}
use Rattle.age_protocol.proofs.whole.end_text.Goals as goal

pub returns-in-Err : goal.returns-in-Err
returns-in-Err g c =
    rw c.into_inner-output.ensures (text-stopped g.W.Write c.args.armored c.close-closed.new.self c.in-Err.error
    (rw c.in-Err.is at c.close-closed.ensures))

pub returns-in-Ok : goal.returns-in-Ok
returns-in-Ok g c =
    text-flushed g.W.Write c.args.armored c.close-closed.new.self
    (rw c.in-Ok.is at c.close-closed.ensures) g.met.W.Write.joins c.flush_retrying-flushed.new.writer c.flush_retrying-flushed.result
    (rw c.into_inner-output.ensures at c.flush_retrying-flushed.ensures.flushes)
