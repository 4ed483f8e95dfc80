use Rattle.std.proofs.Common.{◌∙◌, arith, refl, inr}
use Rattle.age_armor.specs.Reader.{armored_reader, refuses_of}
use Rattle.age_armor.proofs.Keeping.{stands_inside, goes-unrefused, text-later}
use Rattle.age_armor.proofs.Going.{misses-own, came-on, came-goes, walk-goes, walk-misses}
use Rattle.age_armor.proofs.reader.ArmoredReader.find_form.Goals as goal

pub returns-in-Err-clause-misses : goal.returns-in-Err-clause-misses
returns-in-Err-clause-misses g c = λ to asks.
    let now = c.in-Err.ensures in
    misses-own _ _ to _ now.fails.other (λ told well other quiet. absurd (now.cause told well other quiet))

pub returns-in-Err-walk-clause-keeps : goal.returns-in-Err-walk-clause-keeps
returns-in-Err-walk-clause-keeps g c =
    let first = c.in-Ok.ensures in
    let last = c.in-Err-walk.ensures in
    (goes-unrefused armored_reader g.R.Seek.seek_refuses refuses_of _ _ c.unrefused.result c.unrefused.result (λ other. refl)
    (walk-goes g.R.Seek.seek_refuses c.args.self.now c.approach.new.self c.walk.new.self c.in-Err-walk.e c.unrefused.result first.goes last.goes
    c.unrefused.ensures.kept)).keeps

pub returns-in-Err-walk-clause-text : goal.returns-in-Err-walk-clause-text
returns-in-Err-walk-clause-text g c =
    let first = c.in-Ok.ensures in
    text-later c.args.self.now c.approach.new.self c.walk.new.self first.goes.keeps.same first.text c.in-Err-walk.ensures.text

pub returns-in-Err-walk-clause-misses : goal.returns-in-Err-walk-clause-misses
returns-in-Err-walk-clause-misses g c = λ to asks.
    let before = c.args.self.now in
    let first = c.in-Ok.ensures in
    let last = c.in-Err-walk.ensures in
    let made = c.unrefused.ensures in
    walk-misses before c.approach.new.self c.walk.new.self to 1 c.in-Err-walk.e c.unrefused.result (g.met.R.Read.well before.source.inner)
    first.goes first.stands last.goes last.along last.ending made.other made.same (λ len past. asks len (omega (arith, past, c.if-target-eq0.false)))

pub returns-in-Ok-walk : goal.returns-in-Ok-walk
returns-in-Ok-walk g c =
    let before = c.args.self.now in
    let middle = c.approach.new.self in
    let new = c.walk.new.self in
    let first = c.in-Ok.ensures in
    let last = c.in-Ok-walk.ensures in
    let came = came-on before middle new 1 first.goes first.text first.stands last.goes last.text last.good.good last.along last.ending
    (stands_inside new) in
    record {
      keeps = (came-goes before new came).keeps;
      text = came.text;
      finds = inr (c.is_new.ensures.yes c.if-not-is_new.false, omega (arith, c.if-target-eq0.false));
      known = λ told steady plain some. last.begun (first.goes.keeps.same.tells ∙ told) (omega (arith, first.before));
      other = tt;
      misses = tt;
    }
