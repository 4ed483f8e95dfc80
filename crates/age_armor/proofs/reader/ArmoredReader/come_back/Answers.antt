use Rattle.std.proofs.Common.{IsTrue, ◌≡◌, ◌∙◌, ◌<◌, ◌≤◌, ap, length, arith, sym, subst, inl, inr}
use Rattle.std.proofs.lemmas.Bool.{true≢false}
use Rattle.age_io.specs.Stretch.{from_place}
use Rattle.age_armor.specs.Reader.{origin_of, armored_content}
use Rattle.age_armor.specs.ReaderLemmas.{well_inner}
use Rattle.age_armor.proofs.Keeping.{same-source, source-narrows, armor-plain, text-still, text-later}
use Rattle.age_armor.proofs.Aiming.{refusal_or_not, past-moved, stays-failed, came, lost}
use Rattle.age_armor.proofs.reader.ArmoredReader.come_back.Goals as goal

pub returns-then-failed : goal.returns-then-failed
returns-then-failed g c =
    let now = c.fail_at.ensures in
    record {
      back = stays-failed _ _ g.R.Seek.seek_refuses _ _ _ _ _ (same-source _ _ now.source now.preceding) now.place now.failed now.rest
          (source-narrows c.args.self.now c.fail_at.new.self now.source now.preceding) (inl c.if-failed.true);
      text = text-still _ _ now.source now.preceding now.marks;
      ending = λ told steady good. absurd (true≢false (sym now.failed ∙ good));
      lines = λ told steady had at refusal. omega (arith, ap (λ s. s.lines) now.source);
    }

pub returns-then-not-is_outside : goal.returns-then-not-is_outside
returns-then-not-is_outside g c =
    let now = c.fail_at-then-not-is_outside.ensures in
    record {
      back = stays-failed _ _ g.R.Seek.seek_refuses _ _ _ _ _ (same-source _ _ now.source now.preceding) now.place now.failed now.rest
          (source-narrows c.args.self.now c.fail_at-then-not-is_outside.new.self now.source now.preceding)
          (inr (c.is_outside.ensures.no c.if-not-is_outside.true));
      text = text-still _ _ now.source now.preceding now.marks;
      ending = λ told steady good. absurd (true≢false (sym now.failed ∙ good));
      lines = λ told steady had at refusal. omega (arith, ap (λ s. s.lines) now.source);
    }

pub fail_at-requires-in-Err-clause-fits : goal.fail_at-requires-in-Err-clause-fits
fail_at-requires-in-Err-clause-fits g c = λ told. c.requires.fits (sym c.in-Err.ensures.goes.keeps.same.tells ∙ told)

pub fail_at-requires-in-Err-clause-inside : goal.fail_at-requires-in-Err-clause-inside
fail_at-requires-in-Err-clause-inside g c = λ told steady.
    let same = c.in-Err.ensures.goes.keeps.same in
    let told_before = sym same.tells ∙ told in
    subst (λ s. c.args.place ≤ length s.bytes) (sym (same.content told_before)) (c.requires.inside told_before (sym same.steady ∙ steady))

pub returns-in-Ok : goal.returns-in-Ok
returns-in-Ok g c =
    let before = c.args.self.now in
    let now = c.in-Ok.ensures in
    let place : (IsTrue (g.R.Read.tells before.source.inner) → c.go_to.new.self.place ≡ c.args.place) =
    λ told. now.reaches.place told ∙ now.reaches.there in
    record {
      back = came _ _ g.R.Seek.seek_refuses _ _ _ _ _ now.goes.keeps.same now.reaches.stands.good place
          (λ told steady. now.reaches.stands.rest told steady ∙ ap (λ n. from_place n (armored_content before)) (place told)) c.if-failed.false
          (c.is_outside.ensures.yes c.if-not-is_outside.false) (armor-plain before c.go_to.new.self now.goes.keeps.narrows);
      text = now.text;
      ending = λ told steady good. now.reaches.stands.ending told steady;
      lines = λ told steady had at refusal. now.stays.unmoved told steady (had ∙ c.if-failed.false) at;
    }

pub returns-in-Err : goal.returns-in-Err
returns-in-Err g c =
    let reader = g.R.Read in
    let before = c.args.self.now in
    let missed = c.in-Err.ensures in
    let now = c.fail_at-in-Err.ensures in
    let made = c.unrefused.ensures in
    let len = length (armored_content before).bytes in
    record {
      back = lost _ _ g.R.Seek.seek_refuses before c.go_to.new.self c.fail_at-in-Err.new.self _ _ _ c.in-Err.e c.unrefused.result missed.goes
          (same-source _ _ now.source now.preceding) now.place now.failed now.rest
          (c.is_outside.ensures.yes c.if-not-is_outside.false) made.other made.kept
          (λ told well other quiet.
          let inner = well_inner (reader.content before.source.inner) (origin_of before) well in
          let steady = g.met.R.Read.well before.source.inner told inner in
          let within : c.args.place ≤ len = c.requires.inside told steady in
          let beyond : len < c.args.place = elim (refusal_or_not c.in-Err.e) [
            | inl is ↦ past-moved c.args.place len c.in-Err.e (missed.misses.refused told steady is).1
            | inr not ↦ (missed.misses.named told inner not (λ memory. other (made.same not ∙ memory)) quiet).1
          ] in
          absurd (omega (arith, beyond, within)));
      text = text-later before c.go_to.new.self c.fail_at-in-Err.new.self missed.goes.keeps.same missed.text
          (text-still _ _ now.source now.preceding now.marks);
      ending = λ told steady good. absurd (true≢false (sym now.failed ∙ good));
      lines = λ told steady had at refusal. absurd (made.other refusal);
    }
