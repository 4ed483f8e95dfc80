use Rattle.std.proofs.Common.{◌+◌, ◌*◌, ◌≡◌, ◌∙◌, ◌≤◌, ◌<◌, arith, length, ap, sym, subst, refl, inl, inr}
use Rattle.std.proofs.lemmas.Bool.{cases_Bool}
use Rattle.age_io.specs.Stretch.{from_place, IsCleanEnd}
use Rattle.age_io.proofs.Keeping.{same-self}
use Rattle.age_error.specs.declared.io.Error.TheVariants.{PastEnd}
use Rattle.age_error.specs.declared.io.SeekFrom.TheVariants.{Start}
use Rattle.age_v1.specs.DeliveredArmor.{begins_armor}
use Rattle.age_armor.specs.Steps.{WhereSteady, LandsBelow}
use Rattle.age_armor.specs.PrivateSteps.{WhereTold}
use Rattle.age_armor.specs.Reader.{armored_reader, source_of, armored_content, armored_rest, refuses_of}
use Rattle.age_armor.proofs.Aiming.{moved-within, moved-past}
use Rattle.age_armor.proofs.Keeping.{stands_inside, goes-unrefused, goes-refused, armor-plain, text-later}
use Rattle.age_armor.proofs.Going.{reaches-none, misses-none, misses-own, came-on, came-goes, came-stands, came-end, walk-goes, walk-misses}
use Rattle.age_armor.proofs.reader.ArmoredReader.go_along.Goals as goal

pub returns-in-Err-clause-goes : goal.returns-in-Err-clause-goes
returns-in-Err-clause-goes g c =
    let now = c.in-Err.ensures in
    record {
      goes = goes-unrefused armored_reader g.R.Seek.seek_refuses refuses_of _ _ c.in-Err.e c.in-Err.e (λ other. refl) now.goes;
      text = now.text;
      reaches = reaches-none _ _ _ _;
      misses = misses-own _ _ _ _ now.fails.other (λ told well other quiet. absurd (now.cause told well other quiet));
    }

pub returns-in-Err-walk-clause-goes : goal.returns-in-Err-walk-clause-goes
returns-in-Err-walk-clause-goes g c =
    let before = c.args.self.now in
    let middle = c.approach.new.self in
    let first = c.in-Ok.ensures in
    let last = c.in-Err-walk.ensures in
    let made = c.unrefused.ensures in
    record {
      goes = walk-goes g.R.Seek.seek_refuses before middle c.walk.new.self c.in-Err-walk.e c.unrefused.result first.goes last.goes made.kept;
      text = text-later before middle c.walk.new.self first.goes.keeps.same first.text last.text;
      reaches = reaches-none _ _ _ _;
      misses = walk-misses before middle c.walk.new.self (Start c.args.target) c.args.target c.in-Err-walk.e c.unrefused.result
          (g.met.R.Read.well before.source.inner) first.goes first.stands last.goes last.along last.ending made.other made.same (λ len past. past);
    }

pub returns-else-there-clause-goes : goal.returns-else-there-clause-goes
returns-else-there-clause-goes g c =
    let before = c.args.self.now in
    let new = c.walk.new.self in
    let first = c.in-Ok.ensures in
    let last = c.in-Ok-walk.ensures in
    let came = came-on before c.approach.new.self new c.args.target first.goes first.text first.stands last.goes last.text last.good.good
    last.along last.ending (stands_inside new) in
    let ends : WhereTold before (IsCleanEnd (armored_rest new) × (new.place < c.args.target)) =
    λ told. last.comes.end (first.goes.keeps.same.tells ∙ told) c.if-there.false in
    let end = came-end before new came (λ told. (ends told).0) in
    let len = length (armored_content before).bytes in
    record {
      goes = goes-refused armored_reader _ before new new PastEnd came.same (same-self _ new) (λ device. device) (inl (inl tt));
      text = came.text;
      reaches = reaches-none _ _ _ _;
      misses = record {
        missed = λ refusal. armor-plain before new came.narrows;
        refused = λ told steady refusal.
            let out = end told steady in
            (out.0, moved-past c.args.target len (omega (arith, out.1, (ends told).1)));
        named = λ told well own. absurd (own tt);
      };
    }

pub returns-then-there : goal.returns-then-there
returns-then-there g c =
    let before = c.args.self.now in
    let middle = c.approach.new.self in
    let new = c.walk.new.self in
    let first = c.in-Ok.ensures in
    let back = first.goes.keeps.same in
    let last = c.in-Ok-walk.ensures in
    let came = came-on before middle new c.args.target first.goes first.text first.stands last.goes last.text last.good.good last.along
    last.ending (stands_inside new) in
    let len = length (armored_content before).bytes in
    let place : WhereTold before (new.place ≡ c.args.target) = λ told. last.comes.there (back.tells ∙ told) c.if-there.true in
    let within : WhereSteady before (c.args.target ≤ len) = λ told steady.
    subst (λ n. n ≤ len) (place told) (came.within told steady) in
    let walked : WhereSteady before (48 * new.source.lines + middle.place < 48 * middle.source.lines + c.args.target + 48) = λ told steady.
    last.takes (back.tells ∙ told) (back.steady ∙ steady) (first.stands.rest told steady ∙ ap (from_place middle.place) (sym (back.content told)))
    (subst (λ s. c.args.target ≤ length s.bytes) (sym (back.content told)) (within told steady)) c.if-there.true in
    record {
      goes = record {
        goes = came-goes before new came;
        text = came.text;
        reaches = record {
          stands = came-stands before new came;
          there = refl;
          place = place;
          exact = λ told steady. moved-within c.args.target len (within told steady);
        };
        misses = misses-none _ _ _ _;
      };
      lines = λ told steady noting near. elim (cases_Bool (begins_armor (source_of before).bytes)) [
        | inl armored ↦ omega (arith, first.unread.0, first.near told steady noting armored near, walked told steady)
        | inr plain ↦ omega (arith, came.text.bare told steady plain)
      ];
      front = λ zero.
          let still : new ≡ middle = (last.still (omega (arith, first.before, zero))).1 in
          let front = first.front zero in (
            ap (λ r. r.source.lines) still ∙ first.unread.0,
            subst (λ r. LandsBelow r c.args.target) (sym still) (record { taken = front.0 ∙ sym zero; shown = front.1 }),
          );
    }
