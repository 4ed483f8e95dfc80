use Rattle.std.proofs.Common.{inl, inr, refl}
use Rattle.age.specs.CopyingLemmas.{front-all, front-take}
use Rattle.age_claims.proofs.left.written_at_once.Goals as goal

pub returns-in-Err-clause-left : goal.returns-in-Err-clause-left
returns-in-Err-clause-left g c = λ told. inl refl

pub returns-in-Err-write_all-clause-left : goal.returns-in-Err-write_all-clause-left
returns-in-Err-write_all-clause-left g c = λ told.
    let (file, prepares, written) = c.in-Ok.ensures in
    let (n, fits, out) = c.in-Err-write_all.ensures.writes.takes_front told in
    inr (file, _, prepares, written, front-take g.W.Write.appended n _ c.args.writer.now c.write_all.new.writer (rw c.deref.ensures.value at out))

pub returns-clause-left : goal.returns-clause-left
returns-clause-left g c = λ told.
    let (file, prepares, written) = c.in-Ok.ensures in
    let out = c.in-Ok-write_all.ensures.writes.takes_all told in
    inr (file, _, prepares, written, front-all g.W.Write.appended _ c.args.writer.now c.write_all.new.writer (rw c.deref.ensures.value at out))

pub returns-clause-whole : goal.returns-clause-whole
returns-clause-whole g c = λ told.
    let (file, prepares, written) = c.in-Ok.ensures in
    (file, _, prepares, written, rw c.deref.ensures.value at (c.in-Ok-write_all.ensures.writes.takes_all told))
