use Rattle.std.proofs.Common.{[], ◌≡◌, ◌∙◌, false, Ok, arith, length, take, length-drop, ap, sym, subst, refl}
use Rattle.std.proofs.lemmas.Bool.{true≢false}
use Rattle.std.proofs.lemmas.Result.{on_ok_weaker}
use Rattle.age_io.specs.Reading.{Delivers}
use Rattle.age_io.proofs.Keeping.{same-read}
use Rattle.age_armor.specs.Ahead.{rest_ahead, shown_ahead}
use Rattle.age_armor.specs.Marks.{is_known}
use Rattle.age_armor.specs.Reader.{source_of, armored_reader, refuses_of}
use Rattle.age_armor.specs.PrivateSeeking.{Goes}
use Rattle.age_armor.specs.Stages.{is_start, has_lines}
use Rattle.age_armor.proofs.Ahead.{shown_small}
use Rattle.age_armor.proofs.Forms.{binary_form}
use Rattle.age_armor.proofs.Keeping.{on_if, form-found, fails-passed, ends-passed, good-done, text-still, text-later, goes-given, reads-done, reads-failed, learned, held_shown, reached}
use Rattle.age_armor.proofs.Resuming.{not_binary}
use Rattle.std.proofs.lemmas.List.{nil_from_length}
use Rattle.age_armor.proofs.Windows.{held_few}
use Rattle.age_armor.specs.Windows.{held_in}
use Rattle.age_armor.proofs.reader.ArmoredReader.read_on.Goals as goal

pub returns-then-is_passing : goal.returns-then-is_passing
returns-then-is_passing g c =
    let before = c.args.self.now in
    let after = c.pass.new.self in
    let now = c.pass.ensures in
    let passing = c.is_passing.ensures c.if-is_passing.true in
    let bare : has_lines after.stage ≡ false = ap has_lines now.binary.stage in
    record {
      reads = now.reads;
      good = now.good;
      ending = now.ending;
      why = now.why;
      same_text = now.text.same_text;
      gives = record {
        held = λ some. absurd (omega (arith, ap length now.binary.shown, some));
        line = λ armored. absurd (true≢false (sym armored ∙ bare));
        form = λ some told steady.
            let same = same-read armored_reader before after now.reads in
            on_ok_weaker c.pass.result (λ good. form-found before after same now.text (ap is_start now.binary.stage) told steady) now.good.good;
        beyond = λ armored. absurd (true≢false (sym armored ∙ bare));
        untouched = λ armored. absurd (true≢false (sym armored ∙ bare));
        spared = λ told steady armor. binary_form before.stage (source_of before) passing.0
            ((before.sound.text told steady).form (ap is_start passing.0)) armor;
      };
      counts = λ told. on_if c.pass.result _ _ (λ n moves. record {
        held = λ some. absurd (omega (arith, some, ap length passing.1));
        more = (omega (arith, now.binary.lines), omega (arith, now.binary.lines));
        full = λ none full. not_binary (sym now.binary.stage ∙ full);
        bare = λ is. now.binary.lines;
        begun = ap is_start now.binary.stage;
        on = omega (arith, moves);
      }) (now.reads.moves told);
      learns = record {
        more = now.text.learns;
        reaches = λ told. on_ok_weaker c.pass.result (λ good. reached after (now.reads.same_tells ∙ told) good) now.good.good;
        lines = (now.text.counts, omega (arith, now.binary.lines));
        bare = now.text.bare;
        exact = λ told armored. absurd (true≢false (sym armored ∙ bare));
      };
      knows = now.knows;
    }

pub returns-in-Err : goal.returns-in-Err
returns-in-Err g c =
    let now = c.in-Err.ensures in
    record {
      reads = reads-failed _ _ _ c.in-Err.e now.goes now.holds.place now.good.fails now.cause;
      good = fails-passed _ _ c.in-Err.e now.good;
      ending = ends-passed _ _ _ _ _ _ c.in-Err.e now.ending;
      why = now.why;
      same_text = now.text.same_text;
      gives = record {
        held = λ some. tt;
        line = λ armored. tt;
        form = λ some told steady. tt;
        beyond = λ armored. tt;
        untouched = λ armored. refl;
        spared = λ told steady armor. refl;
      };
      counts = λ told. tt;
      learns = record {
        more = now.text.learns;
        reaches = λ told. tt;
        lines = (now.text.counts, now.lines);
        bare = now.text.bare;
        exact = λ told armored. tt;
      };
      knows = tt;
    }

pub returns-in-Ok : goal.returns-in-Ok
returns-in-Ok g c =
    let reader = g.R.Read in
    let before = c.args.self.now in
    let held = c.hold.new.self in
    let after = c.give.new.self in
    let now = c.in-Ok.ensures in
    let given = c.give.ensures in
    let n = c.give.result in
    let lines = ap (λ s. s.lines) given.reads.source in
    let back = now.goes.keeps.same in
    let goes : Goes armored_reader refuses_of before after (Ok n) =
    goes-given before held after now.goes given.reads.source given.reads.preceding given.reads.fresh in
    let text = text-later before held after back now.text (text-still held after given.reads.source given.reads.preceding given.reads.marks) in
    let left = rest_ahead after.failed (held_in after.window) after.stage (reader.rest after.source.inner) in
    let size = held_shown held now.good.good in
    let no_more : (n ≡ 0 → held_in held.window ≡ []) =
    λ none. nil_from_length (held_in held.window) (omega (arith, none, given.count, c.requires.some)) in
    let form = form-found before held back now.text now.holds.begun in
    record {
      reads = reads-done before after c.give.new.buf n goes.keeps (λ some. goes.unspent) (omega (arith, given.count, c.give.auto.buf))
          (λ told. subst (λ s. Delivers (take n c.give.new.buf) s left) (now.holds.rest told) given.bytes)
          (λ told. omega (arith, given.moves (back.tells ∙ told), now.holds.place))
          (λ told none some. now.holds.end told (no_more none));
      good = good-done _ _ c.requires.good given.reads.fresh;
      ending = record { same = λ told. given.reads.ending ∙ now.ending.same told; named = λ told good. tt };
      why = λ told. tt;
      same_text = text.same_text;
      gives = record {
        held = λ some. omega (arith, given.count, size, ap length ((now.holds.same some).1));
        line = λ armored.
            let shown = shown_ahead held.failed (held_in held.window) in
            omega (
              arith,
              given.count,
              size,
              shown_small held.failed (held_in held.window)
                  (held_few held.window),
              length-drop n shown,
              ap length given.shown,
            );
        form = λ some told steady. ap has_lines given.reads.stage ∙ form told steady;
        beyond = λ armored. given.beyond;
        untouched = λ armored. tt;
        spared = λ told steady armor. tt;
      };
      counts = λ told.
          let taken = now.counts told in
          let sum = given.sum (back.tells ∙ told) in
          record {
            held = λ some. let same = taken.held some in (given.reads.stage ∙ same.0, lines ∙ same.1, sum ∙ same.2);
            more = (omega (arith, lines, taken.more.0), omega (arith, lines, taken.more.1));
            full = λ none full. omega (arith, sum, taken.full none (sym given.reads.stage ∙ full));
            bare = λ is. lines ∙ taken.bare (sym (ap has_lines given.reads.stage) ∙ is);
            begun = ap is_start given.reads.stage ∙ taken.begun;
            on = omega (arith, taken.on, given.moves (back.tells ∙ told));
          };
      learns = learned before after goes.keeps.same text (omega (arith, lines, now.lines)) given.reads.fresh
          (λ told armored.
          let line = now.holds.line (sym (ap has_lines given.reads.stage) ∙ armored) in
          let moves = given.moves (back.tells ∙ told) in
          let shown = shown_ahead held.failed (held_in held.window) in
          record {
            held = λ some. lines ∙ line.held some;
            next = λ none more. lines ∙ line.next none
                (omega (arith, more, moves, now.holds.place, given.count, size, length-drop n shown, ap length given.shown));
          });
      knows = λ none.
          ap (λ m. is_known m.length) given.reads.marks ∙ now.holds.knows (no_more none);
    }
