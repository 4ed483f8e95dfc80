use Rattle.std.proofs.Common.{◌≡◌, ◌∙◌, ◌+◌, ◌-◌, ◌≤◌, IsTrue, false, length, length-drop, arith, ap, sym, subst, refl}
use Rattle.std.proofs.lemmas.Bool.{true≢false}
use Rattle.age_io.specs.Stretch.{from_place}
use Rattle.age_armor.specs.declared.stages.Stage.TheVariants.{Binary}
use Rattle.age_armor.specs.Reader.{origin_of, source_of}
use Rattle.age_armor.specs.PrivateMarks.{Resumes}
use Rattle.age_armor.specs.PrivateReader.{IsSound}
use Rattle.age_armor.specs.Windows.{held_in}
use Rattle.age_armor.specs.Stages.{is_start, has_lines}
use Rattle.age_armor.specs.PrivateStages.{FindsForm}
use Rattle.age_armor.specs.Steps.{WhereSteady}
use Rattle.age_armor.specs.PrivateSteps.{WhereTold}
use Rattle.age_armor.proofs.Ahead.{shown_none}
use Rattle.age_armor.proofs.Invariants.{sound-failed, sound-resumed}
use Rattle.age_armor.proofs.Keeping.{stands_inside}
use Rattle.age_armor.proofs.Resuming.{resumes_binary, length_binary, clean_binary}
use Rattle.age_armor.proofs.reader.ArmoredReader.jump_to_end.Goals as goal

pub invariant_of-self : goal.invariant_of-self
invariant_of-self g c =
    let before = c.args.self.now in
    let now = c.go_to_end.ensures in
    record {
      sound = sound-failed before c.go_to_end.new.self c.go_to_end.new.preceding before.place _ now.goes.keeps.same
          now.origin (λ told steady. now.behind told steady (before.sound.text told steady).behind) before.sound.fits (stands_inside before)
          (omega (arith, now.lines));
    }

pub returns-then-self-clause-cause : goal.returns-then-self-clause-cause
returns-then-self-clause-cause g c = λ told well other quiet.
    let before = c.args.self.now in
    let steady = g.met.R.Read.well before.source.inner told well in
    absurd (omega (arith, c.go_to_end.ensures.behind told steady (before.sound.text told steady).behind, c.if-self.true))

pub invariant_of-self-2 : goal.invariant_of-self-2
invariant_of-self-2 g c =
    let before = c.args.self.now in
    let reader = g.R.Read in
    let now = c.in-Ok.ensures in
    let source = c.go_to_end.new.self in
    let preceding = c.go_to_end.new.preceding in
    let content = reader.content before.source.inner in
    let len = source.taken - preceding in
    let form : WhereSteady before (FindsForm false (source_of before).bytes) = λ told steady.
    subst (λ s. FindsForm (has_lines s) (source_of before).bytes) c.requires ((before.sound.text told steady).form (ap is_start c.requires)) in
    let all : WhereTold before (len + origin_of before ≡ reader.place source.inner) =
    λ told. omega (arith, (now.all told).0, (now.all told).1, c.if-self.false) in
    let size : WhereSteady before (len ≡ length (source_of before).bytes) = λ told steady.
    omega (arith, all told, (now.rest told steady).1, length-drop (origin_of before) content.bytes) in
    let within : WhereSteady before (len ≤ length (source_of before).bytes) = λ told steady. omega (arith, size told steady) in
    let ends : WhereSteady before (IsTrue content.ends_well) = λ told steady.
    subst (λ s. IsTrue s.ends_well) (now.rest told steady).0 (now.end told).ends_well in
    let resumes : WhereSteady before (Resumes (source_of before) Binary len len) = λ told steady.
    resumes_binary (source_of before) len (form told steady) (within told steady) in
    record {
      sound = subst (λ s. IsSound source preceding s (held_in c.clear.new.self) len false c.learn.new.self) (sym c.requires)
          (sound-resumed before source preceding Binary
          (held_in c.clear.new.self) len len c.learn.new.self c.clear.ensures now.goes.keeps.same now.origin
          (omega (arith, c.if-self.false)) now.goes.unspent
          (g.met.R.Read.place_fits source.inner) (λ start. absurd (true≢false (sym start))) refl
          (λ full. absurd (true≢false (sym (ap has_lines full))))
          (λ told. (omega arith, resumes told))
          (λ told steady. (now.rest told steady).0 ∙ ap (λ n. from_place n content) (omega (arith, all told)))
          (λ told. (
            c.learn.ensures.knows (reader.steady before.source.inner) (source_of before)
                (c.reach.ensures.knows (reader.steady before.source.inner) (source_of before) (before.sound.known told)
                (λ steady. (resumes told steady).within) (λ steady. sym (form told steady).same))
                c.reach.ensures.reaches
                (λ none steady. length_binary (source_of before) len (form told steady) (size told steady) (ends told steady))
                (λ some. absurd (omega (arith, some))) (λ steady. omega (arith, (resumes told steady).within))
                (λ steady armored some. absurd (omega (arith, some))),
            omega (arith, c.reach.ensures.reaches, c.learn.ensures.more.further),
          ))
          (λ told steady start. absurd (true≢false (sym start))) (λ told other. absurd (other refl)));
    }

pub returns-clause-end : goal.returns-clause-end
returns-clause-end g c = λ told.
    clean_binary (held_in c.clear.new.self) c.args.self.now.stage (g.R.Read.rest c.go_to_end.new.self.inner) c.clear.ensures c.requires
    (c.in-Ok.ensures.end told)

pub returns-clause-lands : goal.returns-clause-lands
returns-clause-lands g c = record { taken = refl; shown = shown_none false (held_in c.clear.new.self) c.clear.ensures }
