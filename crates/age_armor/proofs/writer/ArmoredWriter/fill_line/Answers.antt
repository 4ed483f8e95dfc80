use Rattle.age_io.specs.CopyingLemmas.{front-none}
use Rattle.age_armor.proofs.writer.ArmoredWriter.fill_line.Goals as goal

pub returns-clause-front : goal.returns-clause-front
returns-clause-front g c = λ told.
    rw c.in_ok-extend_from_slice.ensures.items at (rw c.deref.ensures.value at (c.write_lines-sent.ensures.front told))

pub returns-in_err-extend_from_slice-clause-front : goal.returns-in_err-extend_from_slice-clause-front
returns-in_err-extend_from_slice-clause-front g c = λ told. front-none g.W.Write.appended g.met.W.Write.appends_nothing _ c.args.self.now.inner
