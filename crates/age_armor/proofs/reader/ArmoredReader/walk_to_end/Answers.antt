use Rattle.std.proofs.Common.{◌∙◌, arith, refl, inl, inr}
use Rattle.age_error.specs.declared.io.Error.TheVariants.{TooLong}
use Rattle.age_error.specs.declared.io.SeekFrom.TheVariants.{End}
use Rattle.age_armor.specs.Reader.{armored_reader, refuses_of}
use Rattle.age_armor.proofs.Keeping.{stands_inside, goes-error, goes-unrefused, goes-refused, text-later}
use Rattle.age_armor.proofs.Going.{misses-own, came-on, came-goes, walk-goes, walk-misses}
use Rattle.age_armor.proofs.reader.ArmoredReader.walk_to_end.Goals as goal

pub returns-in-Err : goal.returns-in-Err
returns-in-Err g c =
    let now = c.in-Err.ensures in
    record {
      goes = goes-unrefused armored_reader g.R.Seek.seek_refuses refuses_of _ _ c.in-Err.e c.in-Err.e (λ other. refl) now.goes;
      text = now.text;
      came = tt;
      end = λ told. tt;
      knows = tt;
      misses = λ d. misses-own _ _ (End d) _ now.fails.other (λ told well other quiet. absurd (now.cause told well other quiet));
    }

pub returns-in-Err-walk : goal.returns-in-Err-walk
returns-in-Err-walk g c =
    let before = c.args.self.now in
    let middle = c.approach.new.self in
    let first = c.in-Ok.ensures in
    let last = c.in-Err-walk.ensures in
    let made = c.unrefused.ensures in
    record {
      goes = goes-error armored_reader _ before c.walk.new.self c.unrefused.result
          (walk-goes g.R.Seek.seek_refuses before middle c.walk.new.self c.in-Err-walk.e c.unrefused.result first.goes last.goes made.kept).keeps;
      text = text-later before middle c.walk.new.self first.goes.keeps.same first.text last.text;
      came = tt;
      end = λ told. tt;
      knows = tt;
      misses = λ d. walk-misses before middle c.walk.new.self (End d) _ c.in-Err-walk.e c.unrefused.result
          (g.met.R.Read.well before.source.inner) first.goes first.stands last.goes last.along last.ending made.other made.same (λ len past. tt);
    }

pub returns-then-there : goal.returns-then-there
returns-then-there g c =
    let before = c.args.self.now in
    let new = c.walk.new.self in
    let first = c.in-Ok.ensures in
    let last = c.in-Ok-walk.ensures in
    let back = first.goes.keeps.same in
    record {
      goes = goes-refused armored_reader _ before c.approach.new.self new TooLong back last.goes.keeps.same (λ device. device) (inl (inr (inl refl)));
      text = text-later before c.approach.new.self new back first.text last.text;
      came = tt;
      end = λ told. tt;
      knows = tt;
      misses = λ d. misses-own _ _ (End d) _ (λ refusal. refusal) (λ told well other quiet.
          let told_middle = back.tells ∙ told in
          let fits = new.sound.fits (last.goes.keeps.same.tells ∙ told_middle) in
          absurd (omega (arith, last.comes.there told_middle c.if-there.true, fits)));
    }

pub returns-else-there : goal.returns-else-there
returns-else-there g c =
    let before = c.args.self.now in
    let new = c.walk.new.self in
    let first = c.in-Ok.ensures in
    let last = c.in-Ok-walk.ensures in
    let came = came-on before c.approach.new.self new _ first.goes first.text first.stands last.goes last.text last.good.good last.along
    last.ending (stands_inside new) in
    record {
      goes = came-goes before new came;
      text = came.text;
      came = came;
      end = λ told. (last.comes.end (first.goes.keeps.same.tells ∙ told) c.if-there.false).0;
      knows = last.comes.knows c.if-there.false;
      misses = tt;
    }
