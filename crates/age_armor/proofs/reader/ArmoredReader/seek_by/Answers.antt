use Rattle.std.proofs.Common.{◌≡◌, ◌∙◌, ◌<◌, ◌^◌, IsTrue, Some, None, Ok, ap, arith, sym, subst, w64, to_z-of_z, refl}
use Rattle.age_io.specs.Cursor.{place_at}
use Rattle.age_armor.proofs.Keeping.{same-source, text-still}
use Rattle.age_armor.proofs.Aiming.{too-long, too-early, counted-on}
use Rattle.age_armor.proofs.reader.ArmoredReader.seek_by.Goals as goal

pub returns-then-self : goal.returns-then-self
returns-then-self g c =
    let before = c.args.self.now in
    let now = c.fail_at.ensures in
    let untold : (IsTrue (g.R.Read.tells before.source.inner) → ⊥) = λ told.
    let fits : before.place < 2 ^ 63 = before.sound.fits told in omega (arith, fits, c.if-self.true) in
    record {
      seeks = too-long _ _ g.R.Seek.seek_refuses before c.fail_at.new.self _ _ _ (same-source _ _ now.source now.preceding) now.failed untold;
      text = text-still _ _ now.source now.preceding now.marks;
      below = λ told steady plain. tt;
      takes = record { lines = λ told steady noting near. tt; outside = λ told steady known refusal. absurd refusal };
      still = λ told good begun same. absurd (untold told);
      ending = λ later told steady good. absurd (untold told);
      at_once = λ told early. absurd (untold told);
    }

pub returns-in-None : goal.returns-in-None
returns-in-None g c =
    let before = c.args.self.now in
    let none : place_at before.place c.args.distance ≡ None =
    subst (λ d. place_at before.place d ≡ None) (to_z-of_z {w = w64} c.ranges.distance) (sym c.in-None.ensures) in
    record {
      seeks = too-early _ _ g.R.Seek.seek_refuses before c.args.distance _ _ none;
      text = text-still _ _ refl refl refl;
      below = λ told steady plain. tt;
      takes = record { lines = λ told steady noting near. tt; outside = λ told steady known refusal. omega arith };
      still = λ told good begun same. absurd (cc (sym none ∙ same));
      ending = λ later. absurd (later none);
      at_once = λ told early. (refl, refl);
    }

pub returns-in-Some : goal.returns-in-Some
returns-in-Some g c =
    let before = c.args.self.now in
    let now = c.seek_to.ensures in
    let some : place_at before.place c.args.distance ≡ Some c.in-Some.target =
    subst (λ d. place_at before.place d ≡ Some c.in-Some.target) (to_z-of_z {w = w64} c.ranges.distance) (sym c.in-Some.ensures) in
    record {
      seeks = counted-on _ _ g.R.Seek.seek_refuses before c.seek_to.new.self c.args.distance c.in-Some.target _ _ c.seek_to.result some now.seeks;
      text = now.text;
      below = now.below;
      takes = record {
        lines = λ told steady noting near. now.takes.lines told steady noting (near c.in-Some.target some);
        outside = now.takes.outside;
      };
      still = λ told good begun same.
          let target : c.in-Some.target ≡ before.place = cc (sym some ∙ same) in
          let still = now.still good begun (sym target) in
          (still.0 ∙ ap Ok target, still.1);
      ending = λ later. now.ending;
      at_once = λ told early. absurd (cc (sym early ∙ some));
    }
