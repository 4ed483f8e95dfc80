use Rattle.std.proofs.Common.{inr, ℕ, refl, false, ◌≡◌, ◌∙◌, ◌+◌, ◌-◌, arith, take, length, length-take-le, sym, ap, IsTrue}
use Rattle.std.proofs.lemmas.Bool.{true≢false}
use Rattle.age_io.specs.Reading.{Delivers, StandsIn}
use Rattle.age_io.specs.Stretch.{from_place}
use Rattle.age_armor.specs.Ahead.{rest_ahead}
use Rattle.age_armor.specs.Marks.{is_known}
use Rattle.age_armor.proofs.Walking.{further}
use Rattle.age_v1.proofs.DeliveredArmors.{content_of, stands_by}
use Rattle.age_armor.proofs.Keeping.{stands_inside, follows_text, same-text, armored-done, armored-refused, good-done, good-failed, text-moved, reads-done, reads-failed}
use Rattle.age_armor.proofs.Ahead.{given_stands, pass_delivers, pass_end, pass_fault, pass_named, pass_ending, shown_none}
use Rattle.age_armor.specs.Stages.{is_start, has_lines}
use Rattle.age_armor.specs.PrivateStages.{is_ended}
use Rattle.age_v1.specs.DeliveredArmor.{text_delivers}
use Rattle.age_armor.proofs.Resuming.{knows_later, length_at_end, not_binary, reaches_content}
use Rattle.age_armor.proofs.Forms.{form_kept}
use Rattle.age_armor.specs.Reader.{origin_of, text_outcome_of}
use Rattle.age_armor.proofs.Invariants.{sound-failed}
use Rattle.age_armor.specs.PrivateReader.{IsHere}
use Rattle.age_armor.specs.Windows.{held_in}
use Rattle.age_armor.proofs.Pacing.{learns_none}
use Rattle.age_armor.proofs.Refusing.{end-asked, want-asked, want-own}
use Rattle.age_armor.proofs.reader.ArmoredReader.pass.Goals as goal

pub invariant_of-self : goal.invariant_of-self
invariant_of-self g c =
    let before = c.args.self.now in
    let reader = g.R.Read in
    let now = c.in-Ok.ensures in
    let n = c.in-Ok.count in
    let source = c.read.new.self in
    let held = held_in before.window in
    let none : length held ≡ 0 = ap length c.requires.given in
    let origin = origin_of before in
    let next = reader.place source.inner - source.taken + before.preceding in
    let content = content_of (reader.content before.source.inner) origin in
    let other = content_of (reader.content source.inner) next in
    let rest = rest_ahead before.failed held before.stage (reader.rest before.source.inner) in
    let new = rest_ahead before.failed held before.stage (reader.rest source.inner) in
    let front = take n c.read.new.buf in
    let size : n ≡ length front = sym (length-take-le n c.read.new.buf now.count) in
    let same = same-text reader before.source.inner origin source.inner next now.kept.keeps.same
    (λ told. ap (λ n. n + before.preceding) (now.kept.origin told)) in
    let begun : is_start before.stage ≡ false = ap is_start c.requires.binary in
    let delivers : (IsTrue (reader.tells before.source.inner) → Delivers front rest new) = λ told.
    pass_delivers before.failed held front before.stage _ _ c.requires.good c.requires.binary c.requires.given (now.bytes told) in
    let place : (IsTrue (reader.tells source.inner) → c.saturating_add-self.result ≡ before.place + n) = λ told.
    omega (
      arith,
      c.saturating_add-self.ensures,
      before.sound.counted (same.told told) c.requires.good,
      now.taken
          (same.told told),
      source.behind told,
      g.met.R.Read.place_fits source.inner told,
    ) in
    record {
      sound = record {
        fresh = before.sound.fresh;
        untaken = λ good start. absurd (true≢false (sym start ∙ begun));
        unspent = λ good begun. now.kept.unspent;
        counted = λ told good. omega (arith, before.sound.counted (same.told told) c.requires.good, place told, now.taken (same.told told));
        paced = λ told good.
            let told_before = same.told told in
            let pace = before.sound.paced told_before c.requires.good in
            record {
              within = omega (
                arith,
                none,
                place told,
                c.learn.ensures.reaches
                    (omega (
                      arith,
                      before.sound.counted told_before c.requires.good,
                      now.taken told_before,
                      source.behind
                          told,
                      g.met.R.Read.place_fits source.inner told,
                    )) (omega (arith, pace.within)),
              );
              first = λ start. absurd (true≢false (sym start ∙ begun));
              lines = λ full. not_binary (sym c.requires.binary ∙ full);
            };
        begins = λ told. omega (arith, before.sound.begins (same.told told), now.kept.origin (same.told told));
        fits = λ told. omega (
          arith,
          before.sound.counted (same.told told) c.requires.good,
          place told,
          now.taken
              (same.told told),
          source.behind told,
          g.met.R.Read.place_fits source.inner told,
        );
        known = λ told.
            let told_before = same.told told in
            let pace = before.sound.paced told_before c.requires.good in
            knows_later (reader.steady before.source.inner) _ _ _ _ same.steady (same.text told)
            (c.learn.ensures.knows (reader.steady before.source.inner) _ (before.sound.known told_before) (omega (arith, pace.within))
            (λ none steady. length_at_end (reader.content before.source.inner) rest _ before.place
            (pass_end before.failed held before.stage _ c.requires.good c.requires.binary c.requires.given (now.end told_before none))
            (stands_inside before told_before steady) (follows_text before told_before steady))
            (λ some lines. not_binary lines)
            (λ steady. reaches_content content rest before.place n front new.bytes (stands_inside before told_before steady)
            (follows_text before told_before steady)
            (delivers told_before).bytes (sym size))
            (λ steady armored. absurd (true≢false (sym armored ∙ sym ((before.sound.text told_before steady).form begun).same
            ∙ ap has_lines c.requires.binary))));
        lined = λ told other. absurd (other c.requires.binary);
        done = λ ended. absurd (true≢false (sym ended ∙ ap is_ended c.requires.binary));
        text = λ told steady.
            let told_before = same.told told in
            let text = before.sound.text told_before (same.steady steady) in
            let at = text.here c.requires.good begun in
            let stands : StandsIn other c.saturating_add-self.result new =
            rw (place told, same.content told) (given_stands content rest new before.place n front size (delivers told_before)
            (stands_by content rest before.place text.inside (λ some. (text.follows some).rest))) in
            let here : IsHere source before.preceding before.stage held c.saturating_add-self.result before.failed = record {
              rest = further content rest new before.place _ n front at.rest (delivers told_before) size (place told)
                  ∙ ap (from_place c.saturating_add-self.result) (sym (same.content told));
              ending = pass_ending held _ before.stage _ _ c.requires.binary (now.bytes told_before)
                  ∙ at.ending ∙ sym (ap (λ t. (text_delivers t.bytes t.ends_well).ending) (same.text told));
            } in
            record {
              behind = omega (arith, text.behind, now.kept.more told_before);
              inside = stands.within;
              here = λ good begun. here;
              follows = λ some. here;
              form = λ begun. form_kept (has_lines before.stage) _ _ (text.form begun) (same.text told);
              unread = λ start. absurd (true≢false (sym start ∙ begun));
            };
      };
    }

pub invariant_of-self-in-Err : goal.invariant_of-self-in-Err
invariant_of-self-in-Err g c =
    let before = c.args.self.now in
    let kept = c.in-Err.ensures.kept in
    record {
      sound = sound-failed before c.read.new.self before.preceding before.place _ kept.keeps.same
          (λ told. ap (λ n. n + before.preceding) (kept.origin told))
          (λ told steady. omega (arith, (before.sound.text told steady).behind, kept.more told)) before.sound.fits (stands_inside before)
          (omega (arith, c.in-Err.ensures.lines));
    }

pub returns-in-Ok : goal.returns-in-Ok
returns-in-Ok g c =
    let before = c.args.self.now in
    let reader = g.R.Read in
    let now = c.in-Ok.ensures in
    let after = c.read.new.self in
    let good = c.requires.good in
    let binary = c.requires.binary in
    let goes = armored-done {y = c.in-Ok.count} _ _ _ now.kept.keeps
    (λ told. ap (λ n. n + before.preceding) (now.kept.origin told)) now.kept.unspent good in
    record {
      reads = reads-done _ _ _ _ goes.keeps (λ some. goes.unspent) now.count
          (λ told. pass_delivers before.failed (held_in before.window) _ before.stage _ _ good binary c.requires.given (now.bytes told))
          (λ told.
          let told_now : IsTrue (reader.tells after.inner) = now.kept.keeps.same.tells ∙ told in
          omega (
            arith,
            c.saturating_add-self.ensures,
            before.sound.counted told good,
            now.taken told,
            after.behind
                told_now,
            g.met.R.Read.place_fits after.inner told_now,
          ))
          (λ told none some. pass_end before.failed (held_in before.window) before.stage _ good binary c.requires.given (now.end told none));
      good = good-done _ _ good good;
      ending = record { same = λ told. pass_ending (held_in before.window) _ before.stage _ _ binary (now.bytes told); named = λ told fine. tt };
      why = λ told. tt;
      text = text-moved _ _ now.kept.keeps.same (λ told. ap (λ n. n + before.preceding) (now.kept.origin told)) c.learn.ensures.more
          (omega (arith, now.lines))
          (λ told steady plain. now.lines);
      binary = record {
        stage = binary;
        shown = shown_none before.failed (held_in before.window) c.requires.given;
        holds = refl;
        lines = now.lines;
      };
      stays = tt;
      knows = λ none. ap is_known (c.learn.ensures.ends none);
    }

pub returns-in-Err : goal.returns-in-Err
returns-in-Err g c =
    let before = c.args.self.now in
    let now = c.in-Err.ensures in
    let good = c.requires.good in
    let binary = c.requires.binary in
    record {
      reads = reads-failed _ _ _ c.in-Err.e (armored-refused {B = ℕ} _ _ _ c.in-Err.e now.kept.keeps
          (λ told. ap (λ n. n + before.preceding) (now.kept.origin told))
          (λ why. inr (want-own g.R.Read before.source.inner (text_outcome_of before).ending c.in-Err.e
          (want-asked g.R.Read before.source.inner c.in-Err.e now.why)))) refl refl
          (λ told other quiet. pass_fault before.failed (held_in before.window) before.stage _ good binary c.requires.given
          (now.cause told other quiet));
      good = good-failed _ _ c.in-Err.e good refl now.kept.keeps.patient;
      ending = record {
        same = λ told. tt;
        named = λ told fine other quiet. pass_named (held_in before.window) before.stage _ c.in-Err.e binary (now.cause told other quiet);
      };
      why = λ told. end-asked g.R.Read before.source.inner _ c.in-Err.e now.why;
      text = text-moved _ _ now.kept.keeps.same (λ told. ap (λ n. n + before.preceding) (now.kept.origin told)) (learns_none _ _ refl)
          (omega (arith, now.lines))
          (λ told steady plain. now.lines);
      binary = record {
        stage = binary;
        shown = shown_none before.failed (held_in before.window) c.requires.given;
        holds = refl;
        lines = now.lines;
      };
      stays = refl;
      knows = tt;
    }
