use Rattle.std.proofs.Common.{◌∙◌, arith, rules, sym}
use Rattle.std.proofs.lemmas.Bool.{eqb-false, eqb-true}
use Rattle.age_io.proofs.Keeping.{same-later}
use Rattle.age_armor.proofs.Refusing.{text-asked, kept-asked}
use Rattle.age_armor.proofs.AheadLines.{ahead_none}
use Rattle.age_armor.proofs.Taking.{cut_short, quiet_after, run_on, taken_none, taken_run}
use Rattle.age_armor.proofs.counted.Counted.take_line.Goals as goal

pub overflow_sub-len : goal.overflow_sub-len
overflow_sub-len g c = omega (arith, c.len-before.ensures, c.len.ensures, c.take_run-answer.ensures.grows.longer)

pub invariant_of-self-clause-shows : goal.invariant_of-self-clause-shows
invariant_of-self-clause-shows g c = ahead_none _ _ _

pub invariant_of-self-in-Ok-clause-shows : goal.invariant_of-self-in-Ok-clause-shows
invariant_of-self-in-Ok-clause-shows g c = rw c.runs.invariant.none (ahead_none c.runs.self.ahead _ c.runs.self.next)

pub invariant_of-self-in-Ended-clause-shows : goal.invariant_of-self-in-Ended-clause-shows
invariant_of-self-in-Ended-clause-shows g c = rw c.runs.invariant.none (ahead_none c.runs.self.ahead _ c.runs.self.next)

pub invariant_of-self-in-Nothing-clause-shows : goal.invariant_of-self-in-Nothing-clause-shows
invariant_of-self-in-Nothing-clause-shows g c = rw c.runs.invariant.none (ahead_none c.runs.self.ahead _ c.runs.self.next)

pub runs-preserved : goal.runs-preserved
runs-preserved g c =
    let loop = c.runs.invariant in
    let asks = c.in-Ok.ensures.asks in
    record {
      none = loop.none;
      lines = loop.lines;
      same = same-later _ _ _ _ loop.same asks.same;
      narrows = λ e h. loop.narrows e (asks.narrows e h);
      origin = search rules;
      count = search rules;
      unended = λ told. (run_on c.runs.line.items _ (g.R.Read.rest c.args.self.now.inner) _ _ (loop.unended told) (loop.so_far told)
          (rw c.in-Open.is at (c.in-Ok.ensures.run (loop.same.tells ∙ told)))).0;
      so_far = λ told. (run_on c.runs.line.items _ (g.R.Read.rest c.args.self.now.inner) _ _ (loop.unended told) (loop.so_far told)
          (rw c.in-Open.is at (c.in-Ok.ensures.run (loop.same.tells ∙ told)))).1;
    }

pub returns-in-Err : goal.returns-in-Err
returns-in-Err g c =
    let loop = c.runs.invariant in
    let asks = c.in-Err.ensures.asks in
    record {
      kept = record {
        keeps = record {
          same = same-later _ _ _ _ loop.same asks.same;
          device = λ is. omega (arith, loop.same.faults, asks.device is);
          patient = c.in-Err.ensures.patient;
          why = text-asked g.R.Read c.args.self.now.inner c.runs.self.inner c.in-Err.e loop.narrows asks.why;
          narrows = tt;
        };
        unspent = tt;
        origin = search rules;
        more = search rules;
      };
      counts = record { lines = tt; no_line = tt; none_taken = loop.lines; counts = omega (arith, loop.lines) };
      taken = λ told. tt;
      line = λ told. tt;
      why = λ other. loop.narrows c.in-Err.e (asks.why other);
      cause = λ told other quiet.
          cut_short c.runs.line.items (g.R.Read.rest c.args.self.now.inner) (g.R.Read.rest c.runs.self.inner) (loop.unended told) (loop.so_far told)
          (asks.cause (loop.same.tells ∙ told) other (quiet_after _ _ _ loop.same.faults asks.same.faults quiet));
    }

pub returns-then-is_empty : goal.returns-then-is_empty
returns-then-is_empty g c =
    let loop = c.runs.invariant in
    let now = c.in-Ok.ensures in
    record {
      kept = kept-asked _ _ _ _ _ _ loop.same loop.narrows now.asks (search rules) (search rules);
      counts = record {
        lines = λ some. absurd (omega (arith, eqb-true c.take_run-answer.new.line.len 0 (sym c.is_empty.ensures ∙ c.if-is_empty.true), some));
        no_line = λ none. loop.lines;
        none_taken = tt;
        counts = omega (arith, loop.lines);
      };
      taken = search rules;
      line = λ told. taken_none c.runs.line.items c.take_run-answer.new.line.items (g.R.Read.rest c.args.self.now.inner)
          (g.R.Read.rest c.runs.self.inner)
          (g.R.Read.rest c.take_run-answer.new.reader) (loop.unended told) (loop.so_far told)
          (rw c.in-Nothing.is at (now.run (loop.same.tells ∙ told)));
      why = tt;
      cause = λ told. tt;
    }

pub returns-in-Nothing : goal.returns-in-Nothing
returns-in-Nothing g c =
    let loop = c.runs.invariant in
    let now = c.in-Ok.ensures in
    record {
      kept = kept-asked _ _ _ _ _ _ loop.same loop.narrows now.asks (search rules) (search rules);
      counts = record {
        lines = λ some. rw loop.lines at c.saturating_add-self-in-Nothing.ensures;
        no_line = λ none. absurd (omega (arith, eqb-false c.take_run-answer.new.line.len 0 (sym c.is_empty.ensures ∙ c.if-is_empty.false), none));
        none_taken = tt;
        counts = search rules;
      };
      taken = search rules;
      line = λ told. taken_none c.runs.line.items c.take_run-answer.new.line.items (g.R.Read.rest c.args.self.now.inner)
          (g.R.Read.rest c.runs.self.inner)
          (g.R.Read.rest c.take_run-answer.new.reader) (loop.unended told) (loop.so_far told)
          (rw c.in-Nothing.is at (now.run (loop.same.tells ∙ told)));
      why = tt;
      cause = λ told. tt;
    }

pub returns-in-Ended : goal.returns-in-Ended
returns-in-Ended g c =
    let loop = c.runs.invariant in
    let now = c.in-Ok.ensures in
    record {
      kept = kept-asked _ _ _ _ _ _ loop.same loop.narrows now.asks (search rules) (search rules);
      counts = record {
        lines = λ some. rw loop.lines at c.saturating_add-self-in-Ended.ensures;
        no_line = λ none. absurd (omega (arith, now.grows.ended c.in-Ended.is, none));
        none_taken = tt;
        counts = search rules;
      };
      taken = search rules;
      line = λ told. taken_run c.runs.line.items c.take_run-answer.new.line.items (g.R.Read.rest c.args.self.now.inner)
          (g.R.Read.rest c.runs.self.inner)
          (g.R.Read.rest c.take_run-answer.new.reader) (loop.unended told) (loop.so_far told)
          (rw c.in-Ended.is at (now.run (loop.same.tells ∙ told)));
      why = tt;
      cause = λ told. tt;
    }
