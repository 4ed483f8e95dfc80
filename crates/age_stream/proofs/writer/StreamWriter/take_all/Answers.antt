use Rattle.std.proofs.Common.{rules, ◌≡◌, ◌∙◌, ◌<◌, arith, length, length-drop, take, drop}
use Rattle.std.proofs.lemmas.List.{take_rest, take_all, take-append-drop}
use Rattle.std.proofs.Math.Seq.{take-add}
use Rattle.std.specs.Prelude.{Ok, Err}
use Rattle.age_io.specs.WritingLemmas.{keeps-later, keeps-well}
use Rattle.age_stream.specs.Sending.{RefusesChunk}
use Rattle.age_stream.specs.WritingLemmas.{Sent-both, Took-sent}
use Rattle.age_stream.specs.Writing.{SendsFront}
use Rattle.age_stream.proofs.Sent.{sends-on}
use Rattle.age_stream.proofs.writer.StreamWriter.take_all.Goals as goal

pub loop-done-preserved : goal.loop-done-preserved
loop-done-preserved g c =
    let w = g.W.Write in
    let before = c.loop-done.invariant in
    let now = c.in_ok-done.ensures in
    let bytes = c.args.bytes.now in
    record {
      within = omega (arith, length-drop c.loop-done.done bytes, now.takes.count.1);
      total = omega (arith, now.takes.total);
      roomy = λ room.
          let first = before.roomy room in
          let next = now.roomy (rw take_rest (omega (arith, first.0, length-drop c.loop-done.done bytes))) in
          (omega (arith, first.0, next.0), next.1 ∙ first.1);
      last = λ _ whole. now.takes.last (rw take_rest (omega (arith, length-drop c.loop-done.done bytes, whole)));
      failed = now.failed ∙ before.failed;
      keeps = keeps-later w.tells w.faults (RefusesChunk w.refuses) c.args.self.now.inner c.loop-done.self.inner c.take_some.new.self.inner
          tt (Ok tt) before.keeps (keeps-well w.tells w.faults (RefusesChunk w.refuses) _ _ _ tt now.inner);
      sent = λ told. rw (take-add c.loop-done.done c.in_ok-done.field-0 bytes)
          (Sent-both g.S.Suite.seal_of g.W.Write.appended g.met.W.Write.joins _ _ _ _ _ (before.sent told)
          (rw (take_rest bytes c.loop-done.done) at (now.sent (before.keeps.same_tells ∙ told))));
    }

pub returns-clause-took : goal.returns-clause-took
returns-clause-took g c = λ told.
    let writer = c.loop-done.self in
    let bytes = c.args.bytes.now in
    let done = c.loop-done.invariant in
    let whole : c.loop-done.done ≡ length bytes = omega (arith, done.within) in
    Took-sent g.S.Suite.seal_of g.W.Write.appended c.args.self.now writer bytes
    (rw (take_all c.loop-done.done bytes c.loop-done-test.false) at (done.sent told))
    (λ more. omega (arith, done.last more whole, writer.held.ok.0))

pub returns-in_err-done-clause-inner : goal.returns-in_err-done-clause-inner
returns-in_err-done-clause-inner g c = let w = g.W.Write in
    let refused = keeps-later w.tells w.faults (RefusesChunk w.refuses) c.args.self.now.inner c.loop-done.self.inner c.take_some.new.self.inner
    tt (Err c.in_err-done.field-0.0) c.loop-done.invariant.keeps c.in_err-done.ensures.inner in
    search rules

-- what it took before, and what the bytes left came to
pub returns-in_err-done-clause-front : goal.returns-in_err-done-clause-front
returns-in_err-done-clause-front g c = λ told.
    let before = c.loop-done.invariant in
    let bytes = c.args.bytes.now in
    let done = c.loop-done.done in
    let left : 0 < length (drop done bytes) = omega (arith, length-drop done bytes, c.loop-done-test.true) in
    let sends : SendsFront g.S.Suite.seal_of g.W.Write.appended c.args.self.now bytes c.take_some.new.self.inner =
    rw (take-append-drop done bytes) at (sends-on g.S.Suite.seal_of g.W.Write.appended g.met.W.Write.joins c.args.self.now c.loop-done.self
    c.take_some.new.self.inner
    (take done bytes) (drop done bytes) (before.sent told) left
    (rw (take_rest bytes done) at (c.in_err-done.ensures.front (before.keeps.same_tells ∙ told)))) in
    search rules
