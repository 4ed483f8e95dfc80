use Rattle.std.proofs.Common.{rules, ◌∙◌, arith, refl, length-drop}
use Rattle.std.proofs.lemmas.List.{take_rest, take_all}
use Rattle.std.proofs.Math.Seq.{take-add}
use Rattle.std.specs.Prelude.{Ok, Err}
use Rattle.age_io.specs.Writing.{HandsOn}
use Rattle.age_io.specs.WritingLemmas.{keeps-same, keeps-later, keeps-well}
use Rattle.age_armor.specs.WritingLemmas.{Took-both, Took-nothing}
use Rattle.age_armor.specs.Writing.{SendsLines}
use Rattle.age_armor.proofs.Sent.{sends-rest}
use Rattle.age_armor.proofs.writer.ArmoredWriter.take_all.Goals as goal

pub loop-done-init : goal.loop-done-init
loop-done-init g c = record {
  within = omega arith;
  roomy = λ _. (omega arith, refl);
  failed = refl;
  same_form = refl;
  keeps = keeps-same g.W.Write.tells g.W.Write.faults (HandsOn g.W.Write.refuses) c.args.self.now.inner tt;
  took = λ told. Took-nothing g.W.Write.appended c.args.self.now (omega (arith, c.args.self.now.part, c.args.self.now.held.ok.0))
      (g.met.W.Write.appends_nothing c.args.self.now.inner);
}

pub loop-done-preserved : goal.loop-done-preserved
loop-done-preserved g c =
    let before = c.loop-done.invariant in
    let now = c.in_ok-done.ensures in
    let bytes = c.args.bytes.now in
    record {
      within = omega (arith, length-drop c.loop-done.done bytes, now.count.1);
      roomy = λ room.
          let first = before.roomy room in
          let next = now.roomy (rw take_rest (omega (arith, first.0, length-drop c.loop-done.done bytes))) in
          (omega (arith, first.0, next.0), next.1 ∙ first.1);
      failed = now.failed ∙ before.failed;
      same_form = now.same_form ∙ before.same_form;
      keeps = keeps-later g.W.Write.tells g.W.Write.faults (HandsOn g.W.Write.refuses) c.args.self.now.inner c.loop-done.self.inner _
          tt (Ok tt) before.keeps (keeps-well g.W.Write.tells g.W.Write.faults (HandsOn g.W.Write.refuses) _ _ _ tt now.inner);
      took = λ told. rw (take-add c.loop-done.done c.in_ok-done.field-0 bytes)
          (Took-both g.W.Write.appended g.met.W.Write.joins _ _ _ _ _ (before.took told)
          (rw (take_rest bytes c.loop-done.done) at (now.took (before.keeps.same_tells ∙ told))));
    }

pub returns-clause-took : goal.returns-clause-took
returns-clause-took g c = λ told. rw (take_all c.loop-done.done c.args.bytes.now c.loop-done-test.false) at (c.loop-done.invariant.took told)

pub returns-in_err-done-clause-inner : goal.returns-in_err-done-clause-inner
returns-in_err-done-clause-inner g c = let w = g.W.Write in
    let refused = keeps-later w.tells w.faults (HandsOn w.refuses) c.args.self.now.inner c.loop-done.self.inner c.take_some.new.self.inner
    tt (Err c.in_err-done.field-0.0) c.loop-done.invariant.keeps c.in_err-done.ensures.inner in
    search rules

-- what it took before, and what the bytes left came to
pub returns-in_err-done-clause-front : goal.returns-in_err-done-clause-front
returns-in_err-done-clause-front g c = λ told. let w = g.W.Write in
    let before = c.loop-done.invariant in
    let bytes = c.args.bytes.now in
    let done = c.loop-done.done in
    let sends : SendsLines w.appended c.args.self.now bytes c.take_some.new.self.inner =
    sends-rest w.appended g.met.W.Write.joins c.args.self.now c.loop-done.self c.take_some.new.self.inner done bytes (before.took told)
    (rw (take_rest bytes done) at (c.in_err-done.ensures.front (before.keeps.same_tells ∙ told))) in
    search rules
