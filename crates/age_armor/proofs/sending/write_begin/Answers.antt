use Rattle.age_io.specs.CopyingLemmas.{front-all_written}
use Rattle.age_io.specs.Writing.{Retried}
use Rattle.age_io.specs.WritingLemmas.{keeps-writer}
use Rattle.age_armor.proofs.sending.write_begin.Goals as goal

pub returns-clause-keeps : goal.returns-clause-keeps
returns-clause-keeps g c = let w = g.W.Write in
    keeps-writer w.tells w.faults w.refuses w.appended _ _ _ c.write_all.result c.write_all.ensures.writes

pub returns-clause-front : goal.returns-clause-front
returns-clause-front g c = λ told. let w = g.W.Write in
    front-all_written w.appended w.tells w.faults (Retried w.refuses) _ _ _ c.write_all.result told c.write_all.ensures.writes
