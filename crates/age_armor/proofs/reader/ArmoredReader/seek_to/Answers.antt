use Rattle.std.proofs.Common.{length, subst, ◌≤◌, ◌∙◌, sym}
use Rattle.age_armor.proofs.Keeping.{stands_inside, text-later}
use Rattle.age_armor.proofs.Going.{ends-later, seek-done, seek-missed, takes-back}
use Rattle.age_armor.proofs.reader.ArmoredReader.seek_to.Goals as goal

pub returns-in-Ok : goal.returns-in-Ok
returns-in-Ok g c =
    let now = c.in-Ok.ensures in
    record {
      seeks = seek-done g.R.Seek.seek_refuses _ _ _ _ now.goes now.reaches;
      text = now.text;
      below = now.below;
      takes = record { lines = now.spares.lines; outside = λ told steady known. tt };
      still = λ good begun at. (sym c.in-Ok.is ∙ (c.go_to.ensures.stays.still good begun at).0, (c.go_to.ensures.stays.still good begun at).1);
      ending = λ told steady good. now.reaches.stands.ending told steady;
    }

pub returns-in-Err : goal.returns-in-Err
returns-in-Err g c =
    let before = c.args.self.now in
    let middle = c.go_to.new.self in
    let after = c.come_back.new.self in
    let now = c.in-Err.ensures in
    let back = c.come_back.ensures in
    record {
      seeks = seek-missed g.R.Seek.seek_refuses before middle after _ c.in-Err.e c.come_back.result
          (g.met.R.Read.well before.source.inner) now.goes now.misses back.back;
      text = text-later before middle after now.goes.keeps.same now.text back.text;
      below = λ told steady plain. tt;
      takes = takes-back before middle after _ c.in-Err.e c.come_back.result now.goes now.spares back.back back.lines;
      still = λ good begun at. absurd (cc (sym c.in-Err.is ∙ (c.go_to.ensures.stays.still good begun at).0));
      ending = ends-later before middle after now.goes.keeps.same now.text back.ending;
    }

pub come_back-requires-clause-fits : goal.come_back-requires-clause-fits
come_back-requires-clause-fits g c = λ told. c.args.self.now.sound.fits (sym c.in-Err.ensures.goes.keeps.same.tells ∙ told)

pub come_back-requires-clause-inside : goal.come_back-requires-clause-inside
come_back-requires-clause-inside g c = λ told steady.
    let before = c.args.self.now in
    let same = c.in-Err.ensures.goes.keeps.same in
    let told_before = sym same.tells ∙ told in
    subst (λ s. before.place ≤ length s.bytes) (sym (same.content told_before)) (stands_inside before told_before (sym same.steady ∙ steady))
