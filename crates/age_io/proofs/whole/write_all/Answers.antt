use Rattle.std.proofs.Common.{◌≡◌, ◌+◌, arith, ◌∙◌, subst, length, take, drop, length-drop}
use Rattle.std.proofs.lemmas.Grind.{common_steps}
use Rattle.std.proofs.lemmas.List.{take_rest}
use Rattle.age_io.proofs.Appending.{further, before_nothing}
use Rattle.age_error.specs.declared.io.Error.TheVariants.{WriteZero}
use Rattle.age_io.specs.Writing.{Retried}
use Rattle.age_io.specs.WritingLemmas.{narrows-both}
use Rattle.age_io.proofs.whole.write_all.Goals as goal

pub returns-in-Err-clause-writes : goal.returns-in-Err-clause-writes
returns-in-Err-clause-writes g c =
    let sent = c.in-Err.ensures.writes in
    let before = c.loop-at.invariant in
    let left = drop c.loop-at.at c.args.bytes.now in
    let size : c.loop-at.at + length left ≡ length c.args.bytes.now = omega (arith, length-drop c.loop-at.at c.args.bytes.now, before.within) in
    record {
      same_tells = sent.same_tells ∙ before.same_tells;
      no_fewer_faults = omega (arith, sent.no_fewer_faults, before.no_fewer_faults);
      device = λ is. omega (arith, sent.device is, before.no_fewer_faults);
      why = subst (λ n. Retried g.W.Write.refuses c.args.writer.now n c.in-Err.e) size
          (before.narrows (length left) c.in-Err.e (rw take_rest at sent.why));
      narrows = tt;
      takes_all = λ told. tt;
      takes_front = λ told.
          let (n, most, out) = rw take_rest at (sent.takes_part (before.same_tells ∙ told)) in (
            c.loop-at.at + n,
            omega (arith, most, size),
            further g.W.Write.tells g.W.Write.faults g.W.Write.refuses g.W.Write.appended g.met.W.Write.joins _ _ _ c.args.bytes.now c.loop-at.at n
                (before.so_far told) out,
          );
    }

pub returns-in-Ok-eq0-clause-writes : goal.returns-in-Ok-eq0-clause-writes
returns-in-Ok-eq0-clause-writes g c =
    let sent = c.in-Ok-eq0.ensures.writes in
    let before = c.loop-at.invariant in
    let left = drop c.loop-at.at c.args.bytes.now in
    let size : c.loop-at.at + length left ≡ length c.args.bytes.now = omega (arith, length-drop c.loop-at.at c.args.bytes.now, before.within) in
    let zero-is : c.in-Ok-eq0.field-0 ≡ 0 = omega (arith, c.in-Ok-eq0.field-0-test) in
    record {
      same_tells = sent.same_tells ∙ before.same_tells;
      no_fewer_faults = omega (arith, sent.no_fewer_faults, before.no_fewer_faults);
      device = λ is. absurd is;
      why = subst (λ n. Retried g.W.Write.refuses c.args.writer.now n WriteZero) size
          (before.narrows (length left) WriteZero ((rw take_rest at sent.takes_none) zero-is (omega (arith, size, c.loop-at-test.true))));
      narrows = tt;
      takes_all = λ told. tt;
      takes_front = λ told. (
        c.loop-at.at,
        before.within,
        before_nothing g.W.Write.tells g.W.Write.faults g.W.Write.refuses g.W.Write.appended g.met.W.Write.joins _ _ _ _
            (before.so_far told) (subst (λ n. g.W.Write.appended c.loop-at.writer
            (take n (drop c.loop-at.at c.args.bytes.now)) c.write_retrying.new.writer) zero-is
            (rw take_rest at (sent.takes_front (before.same_tells ∙ told)))),
      );
    }

pub loop-at-preserved : goal.loop-at-preserved
loop-at-preserved g c =
    let sent = c.in-Ok.ensures.writes in
    let before = c.loop-at.invariant in
    record {
      same_tells = sent.same_tells ∙ before.same_tells;
      no_fewer_faults = omega (arith, sent.no_fewer_faults, before.no_fewer_faults);
      narrows = narrows-both (Retried g.W.Write.refuses) c.args.writer.now c.loop-at.writer c.write_retrying.new.writer
          c.loop-at.at c.in-Ok.n before.narrows sent.narrows;
      within = grind (arith, common_steps);
      so_far = λ told. further g.W.Write.tells g.W.Write.faults g.W.Write.refuses g.W.Write.appended g.met.W.Write.joins _ _ _ c.args.bytes.now
          c.loop-at.at c.in-Ok.n
          (before.so_far told) (rw take_rest at (sent.takes_front (before.same_tells ∙ told)));
    }
