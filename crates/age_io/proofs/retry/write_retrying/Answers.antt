use Rattle.std.proofs.Common.{length}
use Rattle.age_io.proofs.Appending.{writes-later, interrupted-more}
use Rattle.age_io.proofs.Retrying.{interrupted-by}
use Rattle.age_io.proofs.retry.write_retrying.Goals as goal

pub returns-then-not-is_interruption-clause-writes : goal.returns-then-not-is_interruption-clause-writes
returns-then-not-is_interruption-clause-writes g c = let w = g.W.Write in
    writes-later w.tells w.faults w.refuses w.appended g.met.W.Write.joins c.args.writer.now c.loop-try.writer c.write-answer.new.self
    c.args.bytes.now c.write-answer.result
    c.loop-try.invariant.untouched (c.is_interruption.ensures.no c.if-not-is_interruption.true) c.write-answer.ensures.writes

pub loop-try-preserved : goal.loop-try-preserved
loop-try-preserved g c =
    let again = c.write-answer.ensures.writes in
    let is = c.is_interruption.ensures.yes c.if-not-is_interruption.false in
    interrupted-more g.W.Write g.met.W.Write.joins
    (length c.args.bytes.now) c.args.writer.now c.loop-try.writer c.write-answer.new.self c.loop-try._try
    c.write-answer.result c.loop-try.invariant is
    again.same_tells again.no_fewer_faults again.device again.why again.interrupted
    (λ told. interrupted-by c.write-answer.result is (again.takes_nothing told))
