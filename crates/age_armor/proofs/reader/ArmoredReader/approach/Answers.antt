use Rattle.std.proofs.Common.{inl, inr, ◌≡◌, ◌∙◌, ◌+◌, ◌-◌, ◌≤◌, false, arith, length-drop, ap, refl}
use Rattle.std.proofs.lemmas.Bool.{cases_Bool}
use Rattle.age_io.specs.Stretch.{from_place}
use Rattle.age_armor.specs.PrivateMarks.{CanResume, Resumes}
use Rattle.age_armor.specs.Stages.{is_start}
use Rattle.age_armor.specs.Reader.{origin_of, source_of}
use Rattle.age_armor.specs.Steps.{WhereSteady}
use Rattle.age_armor.specs.PrivateSteps.{WhereTold}
use Rattle.age_armor.specs.Windows.{held_in}
use Rattle.age_armor.proofs.Ahead.{shown_none}
use Rattle.age_armor.proofs.Keeping.{stands_inside, armored-done, armored-refused, text-moved}
use Rattle.age_armor.proofs.Pacing.{learns_none}
use Rattle.age_armor.proofs.Resuming.{resumed_rest, resumed_ending, armored_stage}
use Rattle.age_armor.proofs.Invariants.{sound-failed, sound-resumed}
use Rattle.age_armor.proofs.Going.{stands-none}
use Rattle.age_armor.proofs.reader.ArmoredReader.approach.Goals as goal

pub invariant_of-self : goal.invariant_of-self
invariant_of-self g c =
    let before = c.args.self.now in
    let now = c.in-Err.ensures in
    record {
      sound = sound-failed before c.go.new.self before.preceding before.place _ now.goes.keeps.same
          (λ told. ap (λ n. n + before.preceding) (now.origin told))
          (λ told steady. omega (arith, (before.sound.text told steady).behind, now.stays)) before.sound.fits (stands_inside before)
          (omega (arith, now.lines));
    }

pub invariant_of-self-in-Ok : goal.invariant_of-self-in-Ok
invariant_of-self-in-Ok g c =
    let before = c.args.self.now in
    let reader = g.R.Read in
    let now = c.in-Ok.ensures in
    let mark = c.last-mark.result in
    let found : WhereTold before (CanResume (reader.steady before.source.inner) (source_of before) mark.stage mark.place mark.taken
    × (mark.place ≤ before.marks.furthest)) = λ told.
    c.last-mark.ensures.each (reader.steady before.source.inner) (source_of before) (before.sound.known told) in
    record {
      sound = sound-resumed before c.go.new.self before.preceding mark.stage
          (held_in c.clear.new.self) mark.place mark.taken before.marks c.clear.ensures now.goes.keeps.same
          (λ told. ap (λ n. n + before.preceding) (now.origin told)) (omega (arith, now.taken, c.saturating_add.ensures)) now.goes.unspent
          (g.met.R.Read.place_fits c.go.new.self.inner) c.last-mark.ensures.front c.last-mark.ensures.going (λ full. c.last-mark.ensures.whole)
          (λ told. (found told).0)
          (λ told steady. now.rest told steady ∙ ap (λ n. from_place n (reader.content before.source.inner))
          (omega (arith, now.taken, c.saturating_add.ensures)))
          (λ told. (before.sound.known told, (found told).1))
          (λ told steady start some. elim (cases_Bool (is_start before.stage)) [
            | inl unread ↦ (before.sound.text told steady).unread unread some
            | inr begun ↦ armored_stage before.stage (source_of before) begun ((before.sound.text told steady).form begun) c.requires
          ])
          (λ told other. omega (arith, before.sound.lined told c.requires, now.lines));
    }

pub returns-in-Ok : goal.returns-in-Ok
returns-in-Ok g c =
    let before = c.args.self.now in
    let after = c.go.new.self in
    let reader = g.R.Read in
    let now = c.in-Ok.ensures in
    let mark = c.last-mark.result in
    let origin = origin_of before in
    let content = reader.content before.source.inner in
    let same : WhereTold before (reader.place after.inner - after.taken + before.preceding ≡ origin) =
    λ told. ap (λ n. n + before.preceding) (now.origin told) in
    let resumes : WhereSteady before (Resumes (source_of before) mark.stage mark.place mark.taken) = λ told steady.
    (c.last-mark.ensures.each (reader.steady before.source.inner) (source_of before) (before.sound.known told)).0.1 steady in
    let there : WhereSteady before (reader.rest after.inner ≡ from_place (origin + mark.taken) content) = λ told steady.
    now.rest told steady ∙ ap (λ n. from_place n content) (omega (arith, now.taken, c.saturating_add.ensures)) in
    record {
      goes = armored-done _ _ _ now.goes.keeps same now.goes.unspent refl;
      text = text-moved _ _ now.goes.keeps.same same (learns_none _ _ refl) (omega (arith, now.lines)) (λ told steady plain. now.lines);
      stands = record {
        good = refl;
        rest = λ told steady.
            resumed_rest content (reader.rest after.inner) origin mark.place mark.taken mark.stage (held_in c.clear.new.self) c.clear.ensures
            (resumes told steady) (there told steady);
        ending = λ told steady.
            resumed_ending content (reader.rest after.inner) origin mark.place mark.taken mark.stage (held_in c.clear.new.self)
            (resumes told steady) (there told steady);
      };
      before = c.last-mark.ensures.before;
      near = λ told steady noting armored behind. c.last-mark.ensures.near
          (omega (arith, behind, (before.sound.known told).near steady noting armored));
      unread = (now.lines, refl);
      front = λ zero.
          let start = c.last-mark.ensures.front (c.last-mark.ensures.zero (omega (arith, zero, c.last-mark.ensures.before))) in
          (omega (arith, start.0, now.taken, c.saturating_add.ensures), shown_none false (held_in c.clear.new.self) c.clear.ensures);
      fails = record { fails = tt; stays = tt; other = tt };
      cause = λ told well. tt;
    }

pub returns-in-Err : goal.returns-in-Err
returns-in-Err g c =
    let before = c.args.self.now in
    let reader = g.R.Read in
    let now = c.in-Err.ensures in
    let origin = origin_of before in
    let content = reader.content before.source.inner in
    let same : WhereTold before (reader.place c.go.new.self.inner - c.go.new.self.taken + before.preceding ≡ origin) =
    λ told. ap (λ n. n + before.preceding) (now.origin told) in
    record {
      goes = armored-refused _ _ _ c.in-Err.e now.goes.keeps same (λ why. elim why [ inl is ↦ inl is | inr tried ↦ inr (inr (inr tried)) ]);
      text = text-moved _ _ now.goes.keeps.same same (learns_none _ _ refl) (omega (arith, now.lines)) (λ told steady plain. now.lines);
      stands = stands-none _ _ _;
      before = tt;
      near = λ told steady noting armored behind. tt;
      unread = (now.lines, refl);
      front = λ zero. tt;
      fails = record { fails = refl; stays = refl; other = now.other };
      cause = λ told well.
          let steady = g.met.R.Read.well before.source.inner told well in
          let can = (c.last-mark.ensures.each (reader.steady before.source.inner) (source_of before) (before.sound.known told)).0 in
          now.cause told well
          (omega (
            arith,
            (can.1 steady).reaches,
            length-drop origin
                content.bytes,
            (g.met.R.Read.stands before.source.inner told steady).within,
            (before.sound.text told steady).behind,
            before.source.behind told,
            c.saturating_add.ensures,
          ));
    }
