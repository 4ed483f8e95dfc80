use Rattle.std.proofs.Common.{◌∙◌, inr, refl}
use Rattle.std.proofs.lemmas.Result.{IfErr-weaker}
use Rattle.sazh_core.proofs.Flushed.{on_ok}
use Rattle.sazh_core.proofs.Secrets.{all_of, front_of, then_none}
use Rattle.sazh_core.proofs.own_recipients.write_text.Goals as goal

pub returns-in-Err : goal.returns-in-Err
returns-in-Err g c =
    let writes = c.in-Err.ensures.writes in
    record {
      written = λ told. tt;
      front = λ told. let (n, fits, out) = writes.takes_front told in
          front_of g.W.Write.appended n _ _ c.args.writer.now c.write_all.new.writer refl out;
      why = inr (_, writes.why);
    }

pub returns : goal.returns
returns g c =
    let writes = c.in-Ok.ensures.writes in
    let flushes = c.flush_retrying.ensures.flushes in
    record {
      written = λ told. on_ok c.flush_retrying.result
          (then_none g.W.Write.appended g.met.W.Write.joins _ _ _ _ _ refl (writes.takes_all told) (flushes.nothing (writes.same_tells ∙ told)));
      front = λ told.
          all_of g.W.Write.appended _ _ c.args.writer.now c.flush_retrying.new.writer refl
          (then_none g.W.Write.appended g.met.W.Write.joins _ _ _ _ _ refl (writes.takes_all told) (flushes.nothing (writes.same_tells ∙ told)));
      why = IfErr-weaker c.flush_retrying.result _ _ (λ e refuses. inr (_, writes.narrows 0 e refuses)) flushes.why;
    }
