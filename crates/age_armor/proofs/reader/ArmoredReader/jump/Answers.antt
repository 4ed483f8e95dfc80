use Rattle.std.proofs.Common.{◌≡◌, ◌∙◌, ◌+◌, ◌-◌, ◌≤◌, IsTrue, false, Err, length, length-drop, arith, ap, sym, subst, refl, inl, inr}
use Rattle.std.proofs.lemmas.Bool.{true≢false}
use Rattle.age_error.specs.declared.io.Error.TheVariants.{PastEnd}
use Rattle.age_io.specs.Stretch.{from_place}
use Rattle.age_io.specs.Keeping.{KeepsReader, OrSeek}
use Rattle.age_io.proofs.Keeping.{same-later, keeps-later, keeps-refused, seek-narrows}
use Rattle.age_armor.specs.declared.stages.Stage.TheVariants.{Binary}
use Rattle.age_armor.specs.PrivateMarks.{Resumes}
use Rattle.age_armor.specs.PrivateReader.{IsSound}
use Rattle.age_armor.specs.Windows.{held_in}
use Rattle.age_armor.specs.Reader.{armored_reader, armored_content, armored_rest, origin_of, source_of, text_outcome_of}
use Rattle.age_armor.specs.ReaderLemmas.{well_inner}
use Rattle.age_armor.specs.Refusing.{OrWant}
use Rattle.age_armor.specs.Seeking.{OrAstray}
use Rattle.age_armor.specs.Stages.{is_start, has_lines}
use Rattle.age_armor.specs.PrivateStages.{FindsForm}
use Rattle.age_armor.specs.Steps.{WhereSteady}
use Rattle.age_armor.specs.PrivateSteps.{WhereTold}
use Rattle.age_armor.proofs.Ahead.{shown_none}
use Rattle.age_armor.proofs.Aiming.{moved-within, moved-past}
use Rattle.age_armor.proofs.Going.{reaches-none, misses-none, misses-own}
use Rattle.age_armor.proofs.Invariants.{sound-failed, sound-resumed}
use Rattle.age_armor.proofs.Keeping.{stands_inside, same-text, same-armored, armored-done, armored-refused, armor-narrows, text-moved}
use Rattle.age_armor.proofs.Refusing.{want-narrows, want-own}
use Rattle.age_armor.proofs.Resuming.{resumes_binary, resumed_rest, resumed_ending, carried_binary}
use Rattle.age_armor.proofs.Taking.{quiet_after}
use Rattle.age_armor.proofs.Walking.{ends_at}
use Rattle.age_armor.proofs.reader.ArmoredReader.jump.Goals as goal

pub invariant_of-self : goal.invariant_of-self
invariant_of-self g c =
    let before = c.args.self.now in
    let now = c.in-Err.ensures in
    record {
      sound = sound-failed before c.leap.new.self before.preceding before.place _ now.keeps.same
          (λ told. ap (λ n. n + before.preceding) (now.origin told))
          (λ told steady. omega (arith, (before.sound.text told steady).behind, now.refused)) before.sound.fits (stands_inside before)
          (omega (arith, now.lines));
    }

-- ---- past the end

pub invariant_of-self-then-not-there : goal.invariant_of-self-then-not-there
invariant_of-self-then-not-there g c =
    let before = c.args.self.now in
    let now = c.in-Ok.ensures in
    record {
      sound = sound-failed before c.leap.new.self before.preceding before.place _ now.keeps.same
          (λ told. ap (λ n. n + before.preceding) (now.origin told))
          (λ told steady. omega (arith, (before.sound.text told steady).behind, now.stays c.if-not-there.true)) before.sound.fits
          (stands_inside before) (omega (arith, now.lines));
    }

pub returns-in-Err-jump_to_end-clause-goes : goal.returns-in-Err-jump_to_end-clause-goes
returns-in-Err-jump_to_end-clause-goes g c =
    let before = c.args.self.now in
    let reader = g.R.Read in
    let middle = c.leap.new.self.inner in
    let new = c.jump_to_end.new.self in
    let e = c.in-Err-jump_to_end.e in
    let first = c.in-Ok.ensures in
    let last = c.in-Err-jump_to_end.ensures in
    let same = first.keeps.same in
    let origin : WhereTold before (origin_of new ≡ origin_of before) =
    λ told. last.origin (same.tells ∙ told) ∙ ap (λ n. n + before.preceding) (first.origin told) in
    let own = OrAstray g.R.Seek.seek_refuses in
    let keeps : KeepsReader {T = Unit {0}} reader (OrSeek own (OrWant reader)) before.source.inner new.source.inner (Err e) =
    keeps-later reader (OrSeek own (OrWant reader)) (Err e) before.source.inner middle new.source.inner same first.keeps.narrows
    (seek-narrows own (OrWant reader) before.source.inner middle (want-narrows reader before.source.inner middle first.keeps.narrows)) last.below in
    record {
      goes = armored-refused _ before new e keeps origin
          (λ why. elim why [ inl is ↦ inl is | inr want ↦ inr (inr (want-own reader before.source.inner (text_outcome_of before).ending e want)) ]);
      text = text-moved before new keeps.same origin last.text.learns (omega (arith, last.lines, first.lines))
          (λ told steady plain. last.lines ∙ first.lines);
      reaches = reaches-none _ _ _ _;
      misses = misses-own before new _ e last.fails.other (λ told well other quiet.
          absurd (last.cause (same.tells ∙ told) (subst (λ s. IsTrue s.ends_well) (sym (same.content told)) well) other
          (quiet_after _ _ _ same.faults last.below.same.faults quiet)));
    }

pub returns-in-Ok-jump_to_end-clause-goes : goal.returns-in-Ok-jump_to_end-clause-goes
returns-in-Ok-jump_to_end-clause-goes g c =
    let before = c.args.self.now in
    let reader = g.R.Read in
    let middle = c.leap.new.self.inner in
    let new = c.jump_to_end.new.self in
    let first = c.in-Ok.ensures in
    let last = c.in-Ok-jump_to_end.ensures in
    let back = first.keeps.same in
    let same = same-later reader before.source.inner middle new.source.inner back last.below.same in
    let origin : WhereTold before (origin_of new ≡ origin_of before) =
    λ told. last.origin (back.tells ∙ told) ∙ ap (λ n. n + before.preceding) (first.origin told) in
    let armored = same-armored before new same origin in
    let form : WhereSteady before (FindsForm false (source_of before).bytes) = λ told steady.
    subst (λ s. FindsForm (has_lines s) (source_of before).bytes) c.requires ((before.sound.text told steady).form (ap is_start c.requires)) in
    record {
      goes = record { keeps = keeps-refused armored_reader _ before new PastEnd armored (λ device. device) (inl (inl tt)); unspent = tt };
      text = text-moved before new same origin last.text.learns (omega (arith, last.lines, first.lines))
          (λ told steady plain. last.lines ∙ first.lines);
      reaches = reaches-none _ _ _ _;
      misses = record {
        missed = λ refusal. armor-narrows before new same (λ e h. first.keeps.narrows e (last.below.narrows e h)) origin last.stands.good;
        refused = λ told steady refusal.
            let told_then = back.tells ∙ told in
            let steady_then = back.steady ∙ steady in
            let content : armored_content new ≡ armored_content before = armored.content told in
            let text = same-text reader before.source.inner (origin_of before) middle
            (reader.place middle - c.leap.new.self.taken + before.preceding) back
            (λ told. ap (λ n. n + before.preceding) (first.origin told)) in
            let stands : armored_rest new ≡ from_place new.place (armored_content before) =
            last.stands.rest told_then steady_then ∙ ap (from_place new.place) (text.content told_then) in
            let end = ends_at (armored_content before) (armored_rest new) new.place stands (last.end told_then)
            (subst (λ s. new.place ≤ length s.bytes) content (stands_inside new (armored.tells ∙ told) (armored.steady ∙ steady))) in
            let well = well_inner (reader.content before.source.inner) (origin_of before) end.0 in
            let past = first.past told well c.if-not-there.true in
            let size : length (armored_content before).bytes ≡ length (source_of before).bytes =
            ap (λ o. length o.bytes) (carried_binary (source_of before) (form told steady)) in (
              end.0,
              moved-past c.args.target (length (armored_content before).bytes)
                  (omega (
                    arith,
                    past,
                    size,
                    c.saturating_add.ensures,
                    (form told steady).long,
                    length-drop (origin_of before)
                        (reader.content before.source.inner).bytes,
                  )),
            );
        named = λ told well own. absurd (own tt);
      };
    }

-- ---- within the text

pub invariant_of-self-2 : goal.invariant_of-self-2
invariant_of-self-2 g c =
    let before = c.args.self.now in
    let reader = g.R.Read in
    let now = c.in-Ok.ensures in
    let source = c.leap.new.self in
    let target = c.args.target in
    let content = reader.content before.source.inner in
    let there = now.there c.if-not-there.false in
    let sum : c.saturating_add.result ≡ before.preceding + target = omega (arith, there, c.saturating_add.ensures) in
    let form : WhereSteady before (FindsForm false (source_of before).bytes) = λ told steady.
    subst (λ s. FindsForm (has_lines s) (source_of before).bytes) c.requires ((before.sound.text told steady).form (ap is_start c.requires)) in
    let resumes : WhereSteady before (Resumes (source_of before) Binary target target) = λ told steady.
    resumes_binary (source_of before) target (form told steady)
    (omega (arith, now.within told steady c.if-not-there.false, sum, length-drop (origin_of before) content.bytes)) in
    record {
      sound = subst (λ s. IsSound source before.preceding s (held_in c.clear.new.self) target false c.reach.new.self) (sym c.requires)
          (sound-resumed before source before.preceding Binary
          (held_in c.clear.new.self) target target c.reach.new.self c.clear.ensures now.keeps.same
          (λ told. ap (λ n. n + before.preceding) (now.origin told))
          (there.0 ∙ sum) (now.unspent c.if-not-there.false) (g.met.R.Read.place_fits source.inner) (λ start. absurd (true≢false (sym start))) refl
          (λ full. absurd (true≢false (sym (ap has_lines full)))) (λ told. (omega arith, resumes told))
          (λ told steady. now.rest told steady c.if-not-there.false ∙ ap (λ n. from_place n content) (omega (arith, sum)))
          (λ told. (
            c.reach.ensures.knows (reader.steady before.source.inner) (source_of before) (before.sound.known told)
                (λ steady. (resumes told steady).within) (λ steady. sym (form told steady).same),
            c.reach.ensures.reaches,
          ))
          (λ told steady start. absurd (true≢false (sym start))) (λ told other. absurd (other refl)));
    }

pub returns-clause-goes : goal.returns-clause-goes
returns-clause-goes g c =
    let before = c.args.self.now in
    let reader = g.R.Read in
    let now = c.in-Ok.ensures in
    let source = c.leap.new.self in
    let target = c.args.target in
    let content = reader.content before.source.inner in
    let there = now.there c.if-not-there.false in
    let sum : c.saturating_add.result ≡ before.preceding + target = omega (arith, there, c.saturating_add.ensures) in
    let form : WhereSteady before (FindsForm false (source_of before).bytes) = λ told steady.
    subst (λ s. FindsForm (has_lines s) (source_of before).bytes) c.requires ((before.sound.text told steady).form (ap is_start c.requires)) in
    let resumes : WhereSteady before (Resumes (source_of before) before.stage target target) = λ told steady.
    rw c.requires (resumes_binary (source_of before) target (form told steady)
    (omega (arith, now.within told steady c.if-not-there.false, sum, length-drop (origin_of before) content.bytes))) in
    let origin : WhereTold before (reader.place source.inner - source.taken + before.preceding ≡ origin_of before) =
    λ told. ap (λ n. n + before.preceding) (now.origin told) in
    let rest : WhereSteady before (reader.rest source.inner ≡ from_place (origin_of before + target) content) = λ told steady.
    now.rest told steady c.if-not-there.false ∙ ap (λ n. from_place n content) (omega (arith, sum)) in
    record {
      goes = armored-done _ _ _ now.keeps origin (now.unspent c.if-not-there.false) refl;
      text = text-moved _ _ now.keeps.same origin c.reach.ensures.more (omega (arith, now.lines)) (λ told steady plain. now.lines);
      reaches = record {
        stands = record {
          good = refl;
          rest = λ told steady. resumed_rest content (reader.rest source.inner) (origin_of before) target target before.stage
              (held_in c.clear.new.self) c.clear.ensures (resumes told steady) (rest told steady);
          ending = λ told steady. resumed_ending content (reader.rest source.inner) (origin_of before) target target before.stage
              (held_in c.clear.new.self) (resumes told steady) (rest told steady);
        };
        there = refl;
        place = λ told. refl;
        exact = λ told steady. moved-within target (length (armored_content before).bytes) (resumes told steady).within;
      };
      misses = misses-none _ _ _ _;
    }

pub returns-clause-lands : goal.returns-clause-lands
returns-clause-lands g c =
    let there = c.in-Ok.ensures.there c.if-not-there.false in
    record { taken = omega (arith, there, c.saturating_add.ensures); shown = shown_none false (held_in c.clear.new.self) c.clear.ensures }
