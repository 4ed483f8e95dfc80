use Rattle.std.proofs.Common.{refl, arith, inl, inr, ◌∙◌, length}
use Rattle.std.proofs.lemmas.List.{take_all}
use Rattle.age_stream.specs.SendingLemmas.{refuses-chunk-patient}
use Rattle.age_stream.specs.WritingLemmas.{Appended-nothing, Refused-narrows}
use Rattle.age_stream.proofs.Sent.{sends-none, sends-taken}
use Rattle.age_stream.proofs.writing.StreamWriterWrite.write.Goals as goal

-- it had failed
pub returns-then-self-clause-writes : goal.returns-then-self-clause-writes
returns-then-self-clause-writes g c = record {
  count = tt;
  same_tells = refl;
  no_fewer_faults = omega arith;
  device = λ is. absurd is;
  why = inl (c.if-self.true, refl);
  takes_none = tt;
  narrows = tt;
  interrupted = λ is. absurd is;
  takes_front = λ told. tt;
  takes_part = λ told. (0, omega arith, Appended-nothing g.S.Suite.seal_of g.W.Write.appended g.met.W.Write.appends_nothing c.args.self.now);
  takes_nothing = λ told is. absurd is;
}

-- too long
pub returns-then-bytes-taken-clause-writes : goal.returns-then-bytes-taken-clause-writes
returns-then-bytes-taken-clause-writes g c = record {
  count = tt;
  same_tells = refl;
  no_fewer_faults = omega arith;
  device = λ is. absurd is;
  why = inr (c.if-self.false, inl (refl, omega arith));
  takes_none = tt;
  narrows = tt;
  interrupted = λ is. absurd is;
  takes_front = λ told. tt;
  takes_part = λ told. (0, omega arith, Appended-nothing g.S.Suite.seal_of g.W.Write.appended g.met.W.Write.appends_nothing c.args.self.now);
  takes_nothing = λ told is. absurd is;
}

pub returns-in-Ok-clause-writes : goal.returns-in-Ok-clause-writes
returns-in-Ok-clause-writes g c =
    let took = c.in-Ok.ensures in
    let bytes = c.args.bytes.now in
    record {
      count = omega arith;
      same_tells = took.inner.same_tells;
      no_fewer_faults = took.inner.no_fewer_faults;
      device = tt;
      why = tt;
      takes_none = λ none some. absurd (omega (arith, none, some));
      narrows = Refused-narrows g.W.Write.refuses c.args.self.now c.take_all.new.self (length bytes) c.if-self.false
          (took.failed ∙ c.if-self.false) took.total took.inner.narrows;
      interrupted = tt;
      takes_front = λ told. inr (inr (
        c.if-self.false,
        took.failed
            ∙ c.if-self.false,
        rw (take_all (length bytes) bytes (omega arith)) (took.took told),
      ));
      takes_part = λ told. tt;
      takes_nothing = λ told. tt;
    }

-- it failed: a beginning of what is due for these bytes went out
pub returns-in-Err-clause-writes : goal.returns-in-Err-clause-writes
returns-in-Err-clause-writes g c =
    let refused = c.in-Err.ensures in
    let bytes = c.args.bytes.now in
    let patient = refuses-chunk-patient g.W.Write.refuses c.args.self.now.inner _ refused.inner.why in
    record {
      count = tt;
      same_tells = refused.inner.same_tells;
      no_fewer_faults = refused.inner.no_fewer_faults;
      device = refused.inner.device;
      why = inr (c.if-self.false, inr refused.inner.why);
      takes_none = tt;
      narrows = tt;
      interrupted = λ is. absurd (patient is);
      takes_front = λ told. tt;
      takes_part = λ told. (
        length bytes,
        omega arith,
        rw (take_all (length bytes) bytes (omega arith)) (inr (inl (record { good = c.if-self.false; failed = refl; sends = refused.front told }))),
      );
      takes_nothing = λ told is. absurd (patient is);
    }

pub returns-in-Ok-clause-sent : goal.returns-in-Ok-clause-sent
returns-in-Ok-clause-sent g c = λ told. sends-taken g.S.Suite.seal_of g.W.Write.appended c.args.self.now c.take_all.new.self c.args.bytes.now
    (c.in-Ok.ensures.took told)

-- too long
pub returns-then-bytes-taken-clause-sent : goal.returns-then-bytes-taken-clause-sent
returns-then-bytes-taken-clause-sent g c =
    λ told. sends-none g.S.Suite.seal_of g.W.Write.appended g.met.W.Write.appends_nothing c.args.self.now c.args.bytes.now

-- it had failed
pub returns-then-self-clause-sent : goal.returns-then-self-clause-sent
returns-then-self-clause-sent g c = λ told. sends-none g.S.Suite.seal_of g.W.Write.appended g.met.W.Write.appends_nothing c.args.self.now
    c.args.bytes.now
