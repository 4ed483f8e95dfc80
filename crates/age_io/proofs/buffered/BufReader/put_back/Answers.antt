use Rattle.std.proofs.lemmas.Bool.{true≢false}
use Rattle.age_io.specs.Cursor.{OrFailed}
use Rattle.age_io.specs.Keeping.{OrSeek}
use Rattle.age_io.specs.Reading.{TriedAgain}
use Rattle.age_io.proofs.Keeping.{keeps-done, same-self, same-sought}
use Rattle.age_io.proofs.Stopping.{keeps-unrefused}
use Rattle.age_io.proofs.buffered.BufReader.put_back.Goals as goal

pub returns-in-Ok-clause-keeps : goal.returns-in-Ok-clause-keeps
returns-in-Ok-clause-keeps g c =
    let read = g.R.Read in
    let seeks = c.in-Ok.ensures.seeks in
    keeps-done read (OrSeek (OrFailed g.R.Seek.seek_refuses) (TriedAgain read.refuses)) c.args.self.now.inner c.seek_retrying.new.reader
    (same-sought read c.args.self.now.inner c.seek_retrying.new.reader seeks) seeks.narrows

pub returns-in-Err-clause-keeps : goal.returns-in-Err-clause-keeps
returns-in-Err-clause-keeps g c =
    keeps-unrefused g.R.Read g.R.Seek.seek_refuses c.args.self.now.inner c.seek_retrying.new.reader c.in-Err.e c.unrefused.result
    c.unrefused.ensures.failed c.unrefused.ensures.same c.in-Err.ensures.patient c.in-Err.ensures.seeks

pub returns-then-self-clause-keeps : goal.returns-then-self-clause-keeps
returns-then-self-clause-keeps g c =
    let inner = c.args.self.now.inner in
    keeps-done g.R.Read (OrSeek (OrFailed g.R.Seek.seek_refuses) (TriedAgain g.R.Read.refuses)) inner inner (same-self g.R.Read inner) (λ e may. may)

pub invariant_of-self-in-Err-clause-unspent : goal.invariant_of-self-in-Err-clause-unspent
invariant_of-self-in-Err-clause-unspent g c = λ fresh. absurd (true≢false fresh)

pub invariant_of-self-in-Err-clause-follows : goal.invariant_of-self-in-Err-clause-follows
invariant_of-self-in-Err-clause-follows g c = λ told steady fresh. absurd (true≢false fresh)
