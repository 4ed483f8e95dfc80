use Rattle.std.proofs.Common.{arith, length, refl, rules, subst, sym}
use Rattle.std.proofs.Math.Seq.{take-length}
use Rattle.age_io.specs.CopyingLemmas.{front-written}
use Rattle.age_io.specs.WritingLemmas.{hands-on-patient}
use Rattle.age_armor.specs.Writing.{SendsFront}
use Rattle.age_armor.proofs.Sent.{failed-given, sends-none, sends-taken}
use Rattle.age_armor.proofs.writing.ArmoredWriterWrite.write.Goals as goal

-- it had failed
pub returns-then-self-clause-besides : goal.returns-then-self-clause-besides
returns-then-self-clause-besides g c = record {
  sent = λ told. sends-none g.W.Write.appended g.met.W.Write.appends_nothing c.args.self.now c.args.bytes.now c.args.self.now.armored;
  all = search rules;
  finds_room = search rules;
  binary = search rules;
  state = record { good = search rules; fails = search rules; failed = search rules; patient = search rules; same_form = search rules };
}

-- in binary
pub returns-then-not-self-clause-besides : goal.returns-then-not-self-clause-besides
returns-then-not-self-clause-besides g c = record {
  sent = λ told. let w = g.W.Write in
      let s = c.args.self.now in
      subst (λ f. SendsFront w.appended f s c.args.bytes.now c.write.new.self) (sym c.if-not-self.true)
      (front-written w.appended w.tells w.faults w.refuses s.inner c.write.new.self c.args.bytes.now c.write.result told c.write.ensures.writes);
  all = search rules;
  finds_room = search rules;
  binary = search rules;
  state = record { good = search rules; fails = search rules; failed = search rules; patient = search rules; same_form = search rules };
}

pub returns-in-Ok-clause-besides : goal.returns-in-Ok-clause-besides
returns-in-Ok-clause-besides g c = record {
  sent = λ told. let w = g.W.Write in
      let s = c.args.self.now in
      subst (λ f. SendsFront w.appended f s c.args.bytes.now c.take_all.new.self.inner) (sym c.if-not-self.false)
      (sends-taken w.appended s c.take_all.new.self c.args.bytes.now (c.in-Ok.ensures.took told));
  all = search rules;
  finds_room = search rules;
  binary = search rules;
  state = record { good = search rules; fails = search rules; failed = search rules; patient = search rules; same_form = search rules };
}

pub returns-in-Err-clause-besides : goal.returns-in-Err-clause-besides
returns-in-Err-clause-besides g c = record {
  sent = λ told. let w = g.W.Write in
      let s = c.args.self.now in
      subst (λ f. SendsFront w.appended f s c.args.bytes.now c.take_all.new.self.inner) (sym c.if-not-self.false) (c.in-Err.ensures.front told);
  all = search rules;
  finds_room = search rules;
  binary = search rules;
  state = record { good = search rules; fails = search rules; failed = search rules; patient = search rules; same_form = search rules };
}

pub returns-in-Err-clause-writes : goal.returns-in-Err-clause-writes
returns-in-Err-clause-writes g c = record {
  count = search rules;
  same_tells = search rules;
  no_fewer_faults = search rules;
  device = search rules;
  why = search rules;
  takes_none = search rules;
  narrows = search rules;
  interrupted = search rules;
  takes_front = search rules;
  takes_part = λ told. let w = g.W.Write in
      let s = c.args.self.now in
      let bytes = c.args.bytes.now in (
        length bytes,
        omega arith,
        rw (take-length bytes)
            (failed-given w.appended s _ bytes c.if-self.false refl c.in-Err.ensures.same_form
            (subst (λ f. SendsFront w.appended f s bytes c.take_all.new.self.inner) (sym c.if-not-self.false) (c.in-Err.ensures.front told))),
      );
  takes_nothing = λ told is. absurd (hands-on-patient g.W.Write.refuses c.args.self.now.inner _ c.in-Err.ensures.inner.why is);
}
