use Rattle.std.proofs.Common.{refl, rules, ◌≡◌, ◌∙◌, arith, take, length, length-take, length-take-le, sym}
use Rattle.std.proofs.lemmas.Bool.{true≢false}
use Rattle.age_io.proofs.Keeping.{same-later, same-read, keeps-done, keeps-later}
use Rattle.age_io.proofs.Retrying.{tried-narrows}
use Rattle.age_armor.specs.Reader.{armored_reader, refuses_of}
use Rattle.age_armor.proofs.Keeping.{good-done, good-failed, text-learned, text-later, armor-plain}
use Rattle.age_armor.proofs.Pacing.{open_stage, counted_on}
use Rattle.age_armor.proofs.Taking.{quiet_after}
use Rattle.age_armor.proofs.Walking.{further, still_clean, ends_before}
use Rattle.std.proofs.lemmas.List.{nil_from_length}
use Rattle.age_armor.specs.Windows.{held_in}
use Rattle.age_armor.proofs.reader.ArmoredReader.walk.Goals as goal

pub returns-in-Err : goal.returns-in-Err
returns-in-Err g c =
    let loop = c.reads.invariant in
    let now = c.in-Err.ensures in
    let reads = now.reads in
    record {
      goes = record {
        keeps = keeps-later _ _ _ _ _ _ loop.same loop.narrows (armor-plain c.args.self.now c.reads.self loop.narrows)
            (record {
              same = same-read armored_reader c.reads.self c.read_on.new.self reads;
              device = reads.device;
              patient = now.good.patient;
              why = reads.why;
              narrows = tt;
            });
        unspent = tt;
      };
      text = text-later c.args.self.now c.reads.self c.read_on.new.self loop.same loop.text (text-learned _ _ now.same_text now.learns);
      good = good-failed _ _ c.in-Err.e c.requires.good now.good.fails now.good.patient;
      ending = record {
        same = λ told. tt;
        named = λ told good other quiet. rw (loop.ending told) at
            (now.ending.named (loop.same.tells ∙ told) loop.good other (quiet_after _ _ _ loop.same.faults reads.no_fewer_faults quiet));
      };
      comes = record { there = λ told. tt; end = λ told. tt; knows = tt };
      along = record {
        rest = λ told stands. tt;
        short = λ told steady stands other quiet.
            let told_now = loop.same.tells ∙ told in
            let fault = reads.cause told_now other (quiet_after _ _ _ loop.same.faults reads.no_fewer_faults quiet) in
            ends_before _ _ c.reads.self.place c.args.target (loop.rest told stands) fault (omega (arith, loop.place told, c.reads-test.true));
      };
      takes = λ told steady stands inside. tt;
      begun = λ told before. tt;
      still = λ at. absurd (omega (arith, at, loop.left, c.reads-test.true));
    }

pub returns-in-Ok-eq0 : goal.returns-in-Ok-eq0
returns-in-Ok-eq0 g c =
    let loop = c.reads.invariant in
    let now = c.in-Ok-eq0.ensures in
    let reads = now.reads in
    let n = c.in-Ok-eq0.field-0 in
    let front = take n c.read_on.new.buf in
    let size : length front ≡ n = length-take-le n c.read_on.new.buf reads.count in
    record {
      goes = record {
        keeps = keeps-done _ _ _ _ (same-later armored_reader c.args.self.now c.reads.self _ loop.same (same-read _ _ _ reads))
            (λ e h. loop.narrows e (tried-narrows refuses_of c.reads.self c.read_on.new.self reads.narrows e h));
        unspent = reads.unspent (search rules);
      };
      text = text-later c.args.self.now c.reads.self c.read_on.new.self loop.same loop.text (text-learned _ _ now.same_text now.learns);
      good = good-done _ _ c.requires.good now.good.good;
      ending = record { same = λ told. now.ending.same (loop.same.tells ∙ told) ∙ loop.ending told; named = λ told good. tt };
      comes = record {
        there = λ told there. absurd (true≢false (sym there));
        end = λ told none.
            let told_now = loop.same.tells ∙ told in (
              still_clean _ _ front (reads.end told_now (omega (arith, c.in-Ok-eq0.field-0-test)) (search rules)) (reads.bytes told_now)
                  (omega (arith, size, c.in-Ok-eq0.field-0-test)),
              omega (arith, reads.moves told_now, loop.place told, c.reads-test.true, c.in-Ok-eq0.field-0-test),
            );
        knows = λ none. now.knows (omega (arith, c.in-Ok-eq0.field-0-test));
      };
      along = record {
        rest = λ told stands.
            let told_now = loop.same.tells ∙ told in
            further _ _ _ c.reads.self.place _ n front (loop.rest told stands) (reads.bytes told_now) (sym size) (reads.moves told_now);
        short = λ told steady stands. tt;
      };
      takes = λ told steady stands inside there. absurd (true≢false (sym there));
      begun = λ told before. (now.counts (loop.same.tells ∙ told)).begun;
      still = λ at. absurd (omega (arith, at, loop.left, c.reads-test.true));
    }

pub returns : goal.returns
returns g c =
    let loop = c.reads.invariant in
    record {
      goes = record { keeps = keeps-done _ _ _ _ loop.same loop.narrows; unspent = loop.unspent };
      text = loop.text;
      good = good-done _ _ c.requires.good loop.good;
      ending = record { same = loop.ending; named = λ told good. tt };
      comes = record {
        there = λ told there. omega (arith, loop.place told, c.reads-test.false);
        end = λ told none. absurd (true≢false none);
        knows = λ none. absurd (true≢false none);
      };
      along = record { rest = loop.rest; short = λ told steady stands. tt };
      takes = λ told steady stands inside there. (loop.counted told steady stands inside).bound;
      begun = λ told before. loop.begun told (omega (arith, before, c.reads-test.false));
      still = λ at. (refl, loop.still at);
    }

pub overflow_sub-left-in-Ok : goal.overflow_sub-left-in-Ok
overflow_sub-left-in-Ok g c = omega (arith, c.in-Ok.ensures.reads.count, c.min-most.ensures, length-take c.min-most.result c.reads.room)

pub reads-preserved : goal.reads-preserved
reads-preserved g c =
    let loop = c.reads.invariant in
    let reads = c.in-Ok.ensures.reads in
    let n = c.in-Ok.count in
    record {
      same = same-later armored_reader c.args.self.now c.reads.self _ loop.same (same-read _ _ _ reads);
      narrows = λ e h. loop.narrows e (tried-narrows refuses_of c.reads.self c.read_on.new.self reads.narrows e h);
      unspent = reads.unspent (search rules);
      good = c.in-Ok.ensures.good.good;
      place = λ told. omega (
        arith,
        reads.moves
            (loop.same.tells ∙ told),
        loop.place told,
        reads.count,
        c.min-most.ensures,
        length-take c.min-most.result c.reads.room,
      );
      rest = λ told stands.
          further _ _ _ c.reads.self.place _ n (take n c.read_on.new.buf) (loop.rest told stands)
          (reads.bytes (loop.same.tells ∙ told)) (sym (length-take-le n c.read_on.new.buf reads.count)) (reads.moves (loop.same.tells ∙ told));
      ending = λ told. c.in-Ok.ensures.ending.same (loop.same.tells ∙ told) ∙ loop.ending told;
      text = text-later c.args.self.now c.reads.self c.read_on.new.self loop.same loop.text
          (text-learned _ _ c.in-Ok.ensures.same_text c.in-Ok.ensures.learns);
      counted = λ told steady stands inside.
          let told_now = loop.same.tells ∙ told in
          let now = c.reads.self in
          let front = take n c.read_on.new.buf in
          let size : length front ≡ n = length-take-le n c.read_on.new.buf reads.count in
          counted_on _ _ _ _ _ _ _ _ _ _ _ (c.in-Ok.ensures.counts told_now) (loop.counted told steady stands inside)
          (omega (arith, loop.place told, c.reads-test.true))
          (λ none. open_stage now.failed (held_in now.window) now.stage (g.R.Read.rest now.source.inner) _ front loop.good
          (nil_from_length (held_in now.window) none)
          (reads.bytes told_now) (omega (arith, size, c.in-Ok.count-test)));
      begun = λ told further. (c.in-Ok.ensures.counts (loop.same.tells ∙ told)).begun;
      left = omega (arith, loop.left);
      still = λ at. absurd (omega (arith, at, loop.left, c.reads-test.true));
    }
