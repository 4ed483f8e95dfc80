use Rattle.age_io.proofs.Appending.{flushes-later, interrupted-more}
use Rattle.age_io.proofs.retry.flush_retrying.Goals as goal

pub returns-then-not-is_interruption-clause-flushes : goal.returns-then-not-is_interruption-clause-flushes
returns-then-not-is_interruption-clause-flushes g c = let w = g.W.Write in
    flushes-later w.tells w.faults w.refuses w.appended g.met.W.Write.joins c.args.writer.now c.loop-try.writer c.flush-answer.new.self
    c.flush-answer.result
    c.loop-try.invariant.untouched (c.is_interruption.ensures.no c.if-not-is_interruption.true) c.flush-answer.ensures.flushes

pub loop-try-preserved : goal.loop-try-preserved
loop-try-preserved g c = let again = c.flush-answer.ensures.flushes in
    interrupted-more g.W.Write g.met.W.Write.joins 0 c.args.writer.now c.loop-try.writer c.flush-answer.new.self c.loop-try._try c.flush-answer.result
    c.loop-try.invariant (c.is_interruption.ensures.yes c.if-not-is_interruption.false)
    again.same_tells again.no_fewer_faults again.device again.why again.interrupted again.nothing
