use Rattle.std.proofs.Common.{inr, [], ◌++◌, subst, ◌*◌, ◌+◌, ◌≡◌, ◌∙◌, ◌-◌, ◌≤◌, true, arith, drop, length, length-take-le, sym, ap, refl}
use Rattle.age_armor.specs.declared.stages.Stage.TheVariants.{Lines}
use Rattle.std.proofs.lemmas.Bool.{true≢false}
use Rattle.std.proofs.lemmas.List.{nil_from_length}
use Rattle.age_io.specs.Reading.{StandsIn}
use Rattle.age_armor.specs.Ahead.{rest_ahead}
use Rattle.age_armor.specs.Marks.{is_known}
use Rattle.age_io.specs.Stretch.{IsCleanEnd, from_place}
use Rattle.age_v1.proofs.DeliveredArmors.{content_of, stands_by}
use Rattle.age_armor.proofs.Keeping.{stands_inside, follows_text, ends_as_text, same-text, armored-done, armored-refused, good-done, good-failed, text-still, text-moved}
use Rattle.age_armor.proofs.Ahead.{kept_stands, hold_rest, hold_ending, hold_end, hold_fault, hold_named, outcome_none, ended_clean, shown_none, front_held}
use Rattle.age_v1.specs.DeliveredArmor.{text_delivers}
use Rattle.age_armor.specs.Stages.{ahead, is_start}
use Rattle.age_armor.specs.PrivateStages.{Advances, is_ended}
use Rattle.age_armor.proofs.Resuming.{knows_later, resumes_line, length_at_end, not_nothing, reaches_content, none_after, still_full, after_full}
use Rattle.age_armor.proofs.Forms.{form_held, plain_stage, plain_rest}
use Rattle.age_armor.specs.Reader.{origin_of, source_of, text_outcome_of}
use Rattle.age_io.proofs.Keeping.{keeps-done, same-self}
use Rattle.age_armor.proofs.Invariants.{sound-failed}
use Rattle.age_armor.specs.PrivateReader.{IsHere}
use Rattle.age_armor.specs.PrivateSteps.{WhereTold}
use Rattle.age_armor.specs.Windows.{held_in}
use Rattle.age_armor.proofs.Pacing.{learns_none, lined_on, not_before, other_than_binary}
use Rattle.age_armor.proofs.OwnEndings.{end_left}
use Rattle.age_armor.proofs.Refusing.{end-later, text-own}
use Rattle.age_armor.proofs.reader.ArmoredReader.hold.Goals as goal

pub invariant_of-self-in-Ok : goal.invariant_of-self-in-Ok
invariant_of-self-in-Ok g c =
    let before = c.args.self.now in
    let reader = g.R.Read in
    let now = c.in-Ok.ensures in
    let piece = c.in-Ok.piece in
    let source = c.advance.new.source in
    let old = held_in before.window in
    let empty : old ≡ [] = c.is_ready.ensures.none c.if-is_ready.false in
    let none : length old ≡ 0 = ap length empty in
    let held = held_in c.hold.new.self in
    let size : length held ≡ piece.count =
    ap length c.hold.ensures ∙ length-take-le piece.count c.advance.new.bytes (omega (arith, now.piece.fits, now.size)) in
    let advances : WhereTold before (Advances (ahead before.stage (reader.rest before.source.inner)) held
    (ahead piece.next (reader.rest source.inner))) = λ told.
    subst (λ xs. Advances (ahead before.stage (reader.rest before.source.inner)) xs (ahead piece.next (reader.rest source.inner)))
    (sym c.hold.ensures) (now.gives.bytes told) in
    let origin = origin_of before in
    let next = reader.place source.inner - source.taken + before.preceding in
    let content = content_of (reader.content before.source.inner) origin in
    let other = content_of (reader.content source.inner) next in
    let rest = rest_ahead before.failed old before.stage (reader.rest before.source.inner) in
    let new = rest_ahead before.failed held piece.next (reader.rest source.inner) in
    let front = front_held before.failed held piece.next (reader.rest source.inner) c.requires in
    let same = same-text reader before.source.inner origin source.inner next now.kept.keeps.same
    (λ told. ap (λ n. n + before.preceding) (now.kept.origin told)) in
    let kept : WhereTold before (new ≡ rest) = λ told.
    hold_rest before.failed old held before.stage piece.next (reader.rest before.source.inner) (reader.rest source.inner) c.requires empty
    (advances told) in
    let begins_so : WhereTold before (rest.bytes ≡ held ++ front.more) = λ told. ap (λ s. s.bytes) (sym (kept told)) ∙ front.bytes in
    let end : WhereTold before (piece.count ≡ 0 → IsCleanEnd rest) = λ told none.
    hold_end before.failed old before.stage (reader.rest before.source.inner) c.requires empty (now.piece.end told none) in
    let short : WhereTold before (before.stage ≡ Lines true → piece.count ≡ 0) = λ told.
    none_after before.stage (reader.rest before.source.inner) held piece.count _ (advances told) size in
    record {
      sound = record {
        fresh = λ good start. absurd (true≢false (sym start ∙ now.piece.begun));
        untaken = λ good start. absurd (true≢false (sym start ∙ now.piece.begun));
        unspent = λ good begun. now.kept.unspent;
        counted = λ told good. omega (arith, before.sound.counted (same.told told) c.requires, now.gives.taken (same.told told), size);
        paced = λ told good.
            let told_before = same.told told in
            let pace = before.sound.paced told_before c.requires in
            record {
              within = omega (
                arith,
                size,
                c.learn.ensures.reaches (omega (arith, before.sound.fits told_before, now.piece.fits))
                    (omega (arith, pace.within)),
              );
              first = λ start. absurd (true≢false (sym start ∙ now.piece.begun));
              lines = λ full. omega (
                arith,
                size,
                still_full before.stage piece.next before.place piece.count (c.is_ready.ensures.more c.if-is_ready.false) now.kept_form
                    pace.first (λ is. omega (arith, pace.lines is, none)) (short told_before) now.piece.full full,
              );
            };
        begins = λ told. omega (arith, before.sound.begins (same.told told), now.kept.origin (same.told told));
        fits = λ told. before.sound.fits (same.told told);
        known = λ told.
            let told_before = same.told told in
            let pace = before.sound.paced told_before c.requires in
            knows_later (reader.steady before.source.inner) _ _ _ _ same.steady (same.text told)
            (c.learn.ensures.knows (reader.steady before.source.inner) _ (before.sound.known told_before) (omega (arith, pace.within))
            (λ none steady. length_at_end (reader.content before.source.inner) rest _ before.place (end told_before none)
            (stands_inside before told_before steady) (follows_text before told_before steady))
            (λ some lines. (
              omega (arith, before.sound.counted told_before c.requires, none, c.saturating_sub-taken.ensures),
              λ steady. resumes_line (reader.content before.source.inner)
                  (reader.rest before.source.inner) _ origin c.saturating_sub-taken.result before.place old
                  before.stage _ held lines
                  (omega (arith, before.source.behind told_before, (before.sound.text told_before steady).behind, c.saturating_sub-taken.ensures))
                  (g.met.R.Read.stands before.source.inner told_before steady) empty (advances told_before) (omega (arith, size, some))
                  (stands_inside before told_before steady)
                  (rw c.requires at (follows_text before told_before steady)) (rw c.requires at (ends_as_text before told_before steady))
                  ((before.sound.text told_before steady).form (ap is_start lines)),
            ))
            (λ steady. reaches_content content rest before.place piece.count held front.more (stands_inside before told_before steady)
            (follows_text before told_before steady) (begins_so told_before) size)
            (λ steady. after_full before.stage before.place piece.count (drop origin (reader.content before.source.inner).bytes)
            (c.is_ready.ensures.more c.if-is_ready.false) (before.sound.text told_before steady).form pace.first
            (λ full. omega (arith, pace.lines full, none)) (short told_before) now.piece.fits));
        lined = λ told other.
            let told_before = same.told told in
            let armored = other_than_binary piece.next now.piece.begun other in
            let before_lined = before.sound.lined told_before (λ binary. not_before before.stage piece.next now.kept_form armored binary) in
            let place : before.place ≤ before.marks.furthest = omega (arith, (before.sound.paced told_before c.requires).within) in
            let more = lined_on before.place piece.count before.marks.furthest before.source.lines source.lines place before_lined now.piece.fits
            (before.sound.fits told_before) now.counts.0 (now.line armored) in
            c.learn.ensures.within (48 * source.lines) more.0 more.1;
        done = λ ended. ap is_known (c.learn.ensures.ends (now.piece.ended ended));
        text = λ told steady.
            let told_before = same.told told in
            let text = before.sound.text told_before (same.steady steady) in
            let stands : StandsIn other before.place new = kept_stands content other rest new before.place (same.content told) (kept told_before)
            (stands_by content rest before.place text.inside (λ some. (text.follows some).rest)) in
            let at = text.follows (not_nothing rest held front.more piece.count (begins_so told_before) size (end told_before)) in
            let here : IsHere source before.preceding piece.next held before.place before.failed = record {
              rest = kept told_before ∙ at.rest ∙ ap (from_place before.place) (sym (same.content told));
              ending = hold_ending old held before.stage piece.next (reader.rest before.source.inner) (reader.rest source.inner)
                  (advances told_before)
                  ∙ at.ending ∙ sym (ap (λ t. (text_delivers t.bytes t.ends_well).ending) (same.text told));
            } in
            record {
              behind = omega (arith, text.behind, now.kept.more told_before);
              inside = stands.within;
              here = λ good begun. here;
              follows = λ some. here;
              form = λ begun.
                  form_held (reader.content before.source.inner) (reader.rest before.source.inner) _
                  (reader.place before.source.inner) origin before.stage piece.next
                  (g.met.R.Read.stands before.source.inner told_before (same.steady steady))
                  (λ start. omega (arith, before.sound.untaken c.requires start, before.source.behind told_before))
                  (now.form told_before) now.kept_form text.form (same.text told);
              unread = λ start. absurd (true≢false (sym start ∙ now.piece.begun));
            };
      };
    }

pub invariant_of-self-in-Err : goal.invariant_of-self-in-Err
invariant_of-self-in-Err g c =
    let before = c.args.self.now in
    let source = c.advance.new.source in
    let kept = c.in-Err.ensures.kept in
    record {
      sound = sound-failed before source before.preceding before.place _ kept.keeps.same (λ told. ap (λ n. n + before.preceding) (kept.origin told))
          (λ told steady. omega (arith, (before.sound.text told steady).behind, kept.more told)) before.sound.fits
          (stands_inside before) c.in-Err.ensures.counts.0;
    }

pub returns-then-is_ready : goal.returns-then-is_ready
returns-then-is_ready g c =
    let before = c.args.self.now in
    let begun = c.is_ready.ensures.begun c.if-is_ready.true in
    let end = c.is_ready.ensures.end c.if-is_ready.true in
    record {
      goes = record { keeps = keeps-done _ _ _ _ (same-self _ before) (λ e h. h); unspent = before.sound.unspent c.requires begun };
      good = good-done _ _ c.requires c.requires;
      ending = record { same = λ told. refl; named = λ told good. tt };
      why = λ told. tt;
      text = text-still _ _ refl refl refl;
      holds = record {
        place = refl;
        rest = λ told. refl;
        begun = begun;
        end = λ told none.
            hold_end before.failed (held_in before.window) before.stage (g.R.Read.rest before.source.inner) c.requires none
            (ended_clean before.stage (g.R.Read.rest before.source.inner) (end none));
        knows = λ none. before.sound.done (end none);
        same = λ some. (refl, refl);
        line = λ armored. record {
          held = λ some. refl;
          next = λ none more. absurd (omega (arith, ap length none, more));
        };
      };
      counts = λ told. record {
        held = λ some. (refl, refl, refl);
        more = (omega arith, omega arith);
        full = λ none full. absurd (true≢false (sym (end (nil_from_length (held_in before.window) none)) ∙ ap is_ended full));
        bare = λ no. refl;
        begun = begun;
        on = omega arith;
      };
      lines = omega arith;
      cause = λ told. tt;
    }

pub returns-in-Ok : goal.returns-in-Ok
returns-in-Ok g c =
    let before = c.args.self.now in
    let reader = g.R.Read in
    let now = c.in-Ok.ensures in
    let piece = c.in-Ok.piece in
    let source = c.advance.new.source in
    let old = held_in before.window in
    let empty : old ≡ [] = c.is_ready.ensures.none c.if-is_ready.false in
    let held = held_in c.hold.new.self in
    let size : length held ≡ piece.count =
    ap length c.hold.ensures ∙ length-take-le piece.count c.advance.new.bytes (omega (arith, now.piece.fits, now.size)) in
    let advances : WhereTold before (Advances (ahead before.stage (reader.rest before.source.inner)) held
    (ahead piece.next (reader.rest source.inner))) = λ told.
    subst (λ xs. Advances (ahead before.stage (reader.rest before.source.inner)) xs (ahead piece.next (reader.rest source.inner)))
    (sym c.hold.ensures) (now.gives.bytes told) in
    let no_count : (held ≡ [] → piece.count ≡ 0) = λ none. sym size ∙ ap length none in
    record {
      goes = armored-done _ _ _ now.kept.keeps (λ told. ap (λ n. n + before.preceding) (now.kept.origin told)) now.kept.unspent c.requires;
      good = good-done _ _ c.requires c.requires;
      ending = record {
        same = λ told. hold_ending old held before.stage piece.next (reader.rest before.source.inner) (reader.rest source.inner) (advances told);
        named = λ told good. tt;
      };
      why = λ told. tt;
      text = text-moved _ _ now.kept.keeps.same (λ told. ap (λ n. n + before.preceding) (now.kept.origin told)) c.learn.ensures.more now.counts.0
          (λ told steady plain. now.binary told (plain_stage before.stage (source_of before) (before.sound.text told steady).form plain)
          (λ start. plain_rest (reader.content before.source.inner) _ _ (origin_of before) (g.met.R.Read.stands before.source.inner told steady)
          (omega (arith, before.sound.untaken c.requires start, before.source.behind told)) plain));
      holds = record {
        place = refl;
        rest = λ told. hold_rest before.failed old held before.stage piece.next (reader.rest before.source.inner)
            (reader.rest source.inner) c.requires empty (advances told);
        begun = now.piece.begun;
        end = λ told found. hold_end before.failed old before.stage (reader.rest before.source.inner) c.requires empty
            (now.piece.end told (no_count found));
        knows = λ found. ap is_known (c.learn.ensures.ends (no_count found));
        same = λ some. absurd (omega (arith, ap length (shown_none before.failed (held_in before.window) empty), some));
        line = λ armored. record {
          held = λ some. absurd (omega (arith, ap length (shown_none before.failed (held_in before.window) empty), some));
          next = λ empty more. now.line armored;
        };
      };
      counts = λ told. record {
        held = λ some. absurd (omega (arith, some, ap length empty));
        more = now.counts;
        full = λ is full. omega (arith, now.piece.full full, size);
        bare = now.bare;
        begun = now.piece.begun;
        on = omega arith;
      };
      lines = now.counts.1;
      cause = λ told. tt;
    }

pub returns-in-Err : goal.returns-in-Err
returns-in-Err g c =
    let before = c.args.self.now in
    let reader = g.R.Read in
    let now = c.in-Err.ensures in
    let empty : held_in before.window ≡ [] = c.is_ready.ensures.none c.if-is_ready.false in
    record {
      goes = armored-refused _ _ _ c.in-Err.e now.kept.keeps (λ told. ap (λ n. n + before.preceding) (now.kept.origin told))
          (λ why. inr (text-own reader before.source.inner _ (text_outcome_of before).ending c.in-Err.e why now.gives.why
          (λ told steady. end_left (reader.content before.source.inner) (reader.rest before.source.inner) (reader.place before.source.inner)
          (origin_of before)
          (held_in before.window) before.stage c.in-Err.e (g.met.R.Read.stands before.source.inner told steady)
          (λ start. omega (arith, before.sound.untaken c.requires start, before.source.behind told))
          (λ begun. ((before.sound.text told steady).here c.requires begun).ending))));
      good = good-failed _ _ c.in-Err.e c.requires refl now.kept.keeps.patient;
      ending = record {
        same = λ told. tt;
        named = λ told good other quiet.
            hold_named (held_in before.window) before.stage (reader.rest before.source.inner) c.in-Err.e (now.gives.cause told other quiet);
      };
      why = λ told.
          end-later reader before.source.inner before.source.inner _ _ c.in-Err.e (λ e h. h)
          (outcome_none (held_in before.window) before.stage (reader.rest before.source.inner) empty) (now.gives.why told);
      text = text-moved _ _ now.kept.keeps.same (λ told. ap (λ n. n + before.preceding) (now.kept.origin told)) (learns_none _ _ refl) now.counts.0
          (λ told steady plain. now.binary told (plain_stage before.stage (source_of before) (before.sound.text told steady).form plain)
          (λ start. plain_rest (reader.content before.source.inner) _ _ (origin_of before) (g.met.R.Read.stands before.source.inner told steady)
          (omega (arith, before.sound.untaken c.requires start, before.source.behind told)) plain));
      holds = record {
        place = refl;
        rest = λ told. tt;
        begun = tt;
        end = λ told. tt;
        knows = tt;
        same = λ some. absurd (omega (arith, ap length (shown_none before.failed (held_in before.window) empty), some));
        line = λ armored. tt;
      };
      counts = λ told. tt;
      lines = now.counts.1;
      cause = λ told other quiet.
          hold_fault before.failed (held_in before.window) before.stage (reader.rest before.source.inner) c.in-Err.e c.requires empty
          (now.gives.cause told other quiet);
    }
