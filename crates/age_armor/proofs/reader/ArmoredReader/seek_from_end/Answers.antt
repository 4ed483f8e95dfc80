use Rattle.std.proofs.Common.{Ok, Err, length, subst, sym, w64, to_z-of_z, ◌≤◌, ◌∙◌}
use Rattle.age_error.specs.declared.io.SeekFrom.TheVariants.{End}
use Rattle.age_armor.specs.PrivateSteps.{Reaches, Misses}
use Rattle.age_armor.proofs.Keeping.{text-later}
use Rattle.age_armor.proofs.Going.{ends-later, finds-none, seek-done, seek-missed, takes-back}
use Rattle.age_armor.proofs.reader.ArmoredReader.seek_from_end.Goals as goal

pub returns-in-Ok : goal.returns-in-Ok
returns-in-Ok g c =
    let now = c.in-Ok.ensures in
    let reaches = subst (λ d. Reaches c.args.self.now c.go_from_end.new.self (End d) (Ok c.in-Ok.there))
    (to_z-of_z {w = w64} c.ranges.distance) now.reaches in
    record {
      seeks = seek-done g.R.Seek.seek_refuses _ _ _ _ now.goes reaches;
      text = now.text;
      finds = now.finds;
      below = now.below;
      takes = record { lines = now.spares.lines; outside = λ told steady known. tt };
      ending = λ told steady good. now.reaches.stands.ending told steady;
    }

pub returns-in-Err : goal.returns-in-Err
returns-in-Err g c =
    let before = c.args.self.now in
    let middle = c.go_from_end.new.self in
    let after = c.come_back.new.self in
    let now = c.in-Err.ensures in
    let back = c.come_back.ensures in
    let misses = subst (λ d. Misses before middle (End d) (Err c.in-Err.e)) (to_z-of_z {w = w64} c.ranges.distance) now.misses in
    record {
      seeks = seek-missed g.R.Seek.seek_refuses before middle after _ c.in-Err.e c.come_back.result
          (g.met.R.Read.well before.source.inner) now.goes misses back.back;
      text = text-later before middle after now.goes.keeps.same now.text back.text;
      finds = finds-none _ _ _;
      below = λ told steady plain. tt;
      takes = takes-back before middle after _ c.in-Err.e c.come_back.result now.goes
          (record { lines = λ told steady noting known. tt; outside = now.spares.outside }) back.back back.lines;
      ending = ends-later before middle after now.goes.keeps.same now.text back.ending;
    }

pub come_back-requires-clause-inside : goal.come_back-requires-clause-inside
come_back-requires-clause-inside g c = λ told steady.
    let before = c.args.self.now in
    let same = c.in-Err.ensures.goes.keeps.same in
    let told_before = sym same.tells ∙ told in
    subst (λ s. before.place ≤ length s.bytes) (sym (same.content told_before)) ((before.sound.text told_before (sym same.steady ∙ steady)).inside)

pub come_back-requires-clause-fits : goal.come_back-requires-clause-fits
come_back-requires-clause-fits g c = λ told. c.args.self.now.sound.fits (sym c.in-Err.ensures.goes.keeps.same.tells ∙ told)
