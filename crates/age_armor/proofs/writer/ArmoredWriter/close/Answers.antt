use Rattle.std.proofs.Common.{rules, subst, sym}
use Rattle.std.proofs.lemmas.Result.{on_ok_weaker}
use Rattle.age_io.specs.Copying.{AppendsFront}
use Rattle.age_io.specs.CopyingLemmas.{front-all, front-none}
use Rattle.age_v1.specs.Armor.{text_of}
use Rattle.age_armor.specs.Writing.{left_of, text_end}
use Rattle.age_armor.proofs.Ending.{closes_armor, finishes_armor, finishes_binary}
use Rattle.age_armor.proofs.writer.ArmoredWriter.close.Goals as goal

-- it had failed
pub returns-then-self : goal.returns-then-self
returns-then-self g c = record {
  ok = λ told start format bytes first made took. tt;
  left = λ told. front-none g.W.Write.appended g.met.W.Write.appends_nothing (left_of c.args.self.now) c.args.self.now.inner;
  front = search rules;
  binary = search rules;
  same_form = search rules;
  same_tells = search rules;
  no_fewer_faults = search rules;
  narrows = search rules;
  fails = search rules;
  failed = search rules;
  why = search rules;
  patient = search rules;
  device = search rules;
}

-- in binary
pub returns-then-not-self : goal.returns-then-not-self
returns-then-not-self g c = let w = g.W.Write in
    let s = c.args.self.now in
    record {
      ok = λ told. finishes_binary w.appended g.met.W.Write.joins s c.if-self.false c.if-not-self.true;
      left = λ told. front-none w.appended g.met.W.Write.appends_nothing (left_of s) s.inner;
      front = λ told good start format bytes first made took. front-all w.appended (text_of format bytes) first s.inner
          (finishes_binary w.appended g.met.W.Write.joins s c.if-self.false c.if-not-self.true start format bytes first made took);
      binary = search rules;
      same_form = search rules;
      same_tells = search rules;
      no_fewer_faults = search rules;
      narrows = search rules;
      fails = search rules;
      failed = search rules;
      why = search rules;
      patient = search rules;
      device = search rules;
    }

pub returns : goal.returns
returns g c = let w = g.W.Write in
    let s = c.args.self.now in
    let after = c.write_end.new.inner in
    record {
      ok = λ told start format bytes first made took. on_ok_weaker c.write_end.result
          (λ sent. finishes_armor w.appended g.met.W.Write.joins s after c.if-self.false c.if-not-self.false sent start format bytes first made took)
          (rw c.deref.ensures.value at (c.write_end.ensures.sent told));
      left = λ told. subst (λ f. AppendsFront w.appended (text_end f s.held.items) s.inner after) (sym c.if-not-self.false)
          (rw c.deref.ensures.value at (c.write_end.ensures.front told));
      front = λ told good.
          closes_armor w.appended g.met.W.Write.joins s after c.if-self.false c.if-not-self.false
          (rw c.deref.ensures.value at (c.write_end.ensures.front told));
      binary = search rules;
      same_form = search rules;
      same_tells = search rules;
      no_fewer_faults = search rules;
      narrows = search rules;
      fails = search rules;
      failed = search rules;
      why = search rules;
      patient = search rules;
      device = search rules;
    }
