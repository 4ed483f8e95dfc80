use Rattle.std.proofs.Common.{◌≡◌, ◌∙◌, ap, arith, length, rules, vec_len}
use Rattle.std.proofs.lemmas.Result.{IfOk-weaker}
use Rattle.age_armor.proofs.Asking.{asks_later, asks_again}
use Rattle.age_armor.proofs.showing.take_run.Goals as goal

pub returns-in-loop-of-retried : goal.returns-in-loop-of-retried
returns-in-loop-of-retried g c =
    let loop = c.loop-of-retried.invariant in
    let now = c.run_once.ensures in
    let size : vec_len c.loop-of-retried.line ≡ vec_len c.args.line.now = omega (arith, ap length loop.same_line) in
    record {
      asks = asks_later _ c.run_once.result _ _ _ c.loop-of-retried._try loop.interrupted now.asks (search rules);
      patient = search rules;
      grows = record {
        longer = omega (arith, size, now.grows.longer);
        grows = IfOk-weaker c.run_once.result _ _ (λ run more is. omega (arith, size, more is)) now.grows.grows;
        ended = IfOk-weaker c.run_once.result _ _ (λ run more is. omega (arith, size, more is)) now.grows.ended;
      };
      kept = rw loop.same_line at now.kept;
      run = λ told. rw (loop.same_line, loop.interrupted.same_rest told) at (now.run (loop.interrupted.same.tells ∙ told));
      moves = λ told. rw (loop.same_line, loop.interrupted.same_place told) at (now.moves (loop.interrupted.same.tells ∙ told));
    }

pub loop-of-retried-preserved : goal.loop-of-retried-preserved
loop-of-retried-preserved g c = record {
  same_line = search rules;
  interrupted = asks_again _ c.run_once.result _ _ _ c.loop-of-retried._try c.loop-of-retried.invariant.interrupted c.run_once.ensures.asks
      (search rules);
}
