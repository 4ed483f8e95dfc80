use Rattle.std.proofs.Common.{refl, arith, inl}
use Rattle.age_stream.specs.WritingLemmas.{Appended-nothing}
use Rattle.age_stream.proofs.Flushing.{flushes-payload, flushes-refused}
use Rattle.age_stream.proofs.writing.StreamWriterWrite.flush.Goals as goal

-- it had failed
pub returns-then-self-clause-flushes : goal.returns-then-self-clause-flushes
returns-then-self-clause-flushes g c = record {
  same_tells = refl;
  no_fewer_faults = omega arith;
  device = λ is. absurd is;
  unspent = tt;
  why = inl (c.if-self.true, refl);
  narrows = tt;
  interrupted = λ is. absurd is;
  nothing = λ told. Appended-nothing g.S.Suite.seal_of g.W.Write.appended g.met.W.Write.appends_nothing c.args.self.now;
}

pub returns-in-Ok-clause-flushes : goal.returns-in-Ok-clause-flushes
returns-in-Ok-clause-flushes g c = let w = g.W.Write in
    flushes-payload g.S.Suite.seal_of w.tells w.faults w.refuses w.appended c.args.self.now _ _ c.if-self.false c.if-self.false refl refl refl
    c.in-Ok.ensures.flushes

pub returns-in-Err-clause-flushes : goal.returns-in-Err-clause-flushes
returns-in-Err-clause-flushes g c = let w = g.W.Write in
    flushes-refused g.S.Suite.seal_of w.tells w.faults w.refuses w.appended c.args.self.now _ _ c.if-self.false refl
    c.in-Err.ensures.flushes
