use Rattle.age_io.specs.CopyingLemmas.{front-none, front-all_written}
use Rattle.age_io.specs.Writing.{Retried}
use Rattle.age_io.specs.WritingLemmas.{keeps-writer}
use Rattle.age_stream.specs.SendingLemmas.{keeps-chunk}
use Rattle.std.proofs.Common.{rules}
use Rattle.age_stream.proofs.writer.write_chunk.Goals as goal

pub returns-clause-keeps : goal.returns-clause-keeps
returns-clause-keeps g c = let w = g.W.Write in
    keeps-chunk w.refuses w.tells w.faults _ _ c.write_all.result
    (keeps-writer w.tells w.faults w.refuses w.appended _ _ _ c.write_all.result c.write_all.ensures.writes)

-- the seal found no memory
pub returns-in_err-sealed-clause-front : goal.returns-in_err-sealed-clause-front
returns-in_err-sealed-clause-front g c = λ told. front-none g.W.Write.appended g.met.W.Write.appends_nothing _ _

pub returns-clause-front : goal.returns-clause-front
returns-clause-front g c = λ told. let w = g.W.Write in
    let out = front-all_written w.appended w.tells w.faults (Retried w.refuses) _ _ _ c.write_all.result told c.write_all.ensures.writes in
    search rules
