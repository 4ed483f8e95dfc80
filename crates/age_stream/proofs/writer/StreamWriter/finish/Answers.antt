use Rattle.age_stream.proofs.writer.StreamWriter.finish.Goals as goal

pub returns-clause-ok : goal.returns-clause-ok
returns-clause-ok g c = λ told start key plain first made took.
    rw c.into_inner.ensures (c.in_ok-close.ensures.ok told start key plain first made took)
