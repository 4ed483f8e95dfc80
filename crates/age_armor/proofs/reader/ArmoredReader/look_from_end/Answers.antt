use Rattle.std.proofs.Common.{◌∙◌, Ok, Err, ap, to_z-of_z, w64, length, sym, subst, inl, inr}
use Rattle.std.proofs.lemmas.Result.{on_ok_weaker}
use Rattle.age_error.specs.declared.io.SeekFrom.TheVariants.{End}
use Rattle.age_io.specs.Cursor.{target}
use Rattle.age_io.proofs.Keeping.{same-self}
use Rattle.age_v1.specs.DeliveredArmor.{begins_armor}
use Rattle.age_armor.specs.Seeking.{OrAstray}
use Rattle.age_armor.specs.Steps.{LandsBelow}
use Rattle.age_armor.specs.Reader.{armored_reader, armored_content}
use Rattle.age_armor.proofs.Keeping.{goes-error, goes-later, goes-refused, armor-plain, seeks-plain, text-later}
use Rattle.age_armor.proofs.Aiming.{moved-refusal}
use Rattle.age_armor.proofs.Going.{reaches-none, reaches-end, misses-none, misses-end, finds-none, came-goes, came-stands, came-end, found-end, lands-again}
use Rattle.age_armor.proofs.reader.ArmoredReader.look_from_end.Goals as goal

pub returns-in-Err : goal.returns-in-Err
returns-in-Err g c =
    let now = c.in-Err.ensures.end in
    record {
      goes = goes-error armored_reader _ _ _ c.in-Err.e now.goes.keeps;
      text = now.text;
      reaches = reaches-none _ _ _ _;
      misses = now.misses c.args.distance;
      finds = finds-none _ _ _;
      below = λ told steady plain. tt;
    }

pub returns-in-Err-from_end : goal.returns-in-Err-from_end
returns-in-Err-from_end g c =
    let before = c.args.self.now in
    let new = c.reach_end.new.self in
    let now = c.in-Ok.ensures.end in
    let e = c.in-Err-from_end.e in
    let came = now.came in
    let end = came-end before new came now.end in
    let found = found-end before new _ c.args.distance _ (Err e) came end
    (to_z-of_z {w = w64} c.ranges.distance) c.from_end.ensures.exact c.in-Err-from_end.is in
    record {
      goes = goes-refused armored_reader _ before new new e came.same (same-self _ new) c.in-Err-from_end.ensures.other
          (elim c.in-Err-from_end.ensures.why [ inl out ↦ inl (inl out) | inr long ↦ inl (inr (inl long)) ]);
      text = came.text;
      reaches = reaches-none _ _ _ _;
      misses = record {
        missed = λ refusal. armor-plain before new came.narrows;
        refused = λ told steady refusal. ((end told steady).0, found told steady);
        named = λ told well own other quiet.
            let len = length (armored_content before).bytes in
            absurd (own (moved-refusal (target (End c.args.distance) before.place len) len e
            (found told (g.met.R.Read.well before.source.inner told well))));
      };
      finds = finds-none _ _ _;
      below = λ told steady plain. tt;
    }

pub returns-then-target-len : goal.returns-then-target-len
returns-then-target-len g c =
    let before = c.args.self.now in
    let new = c.reach_end.new.self in
    let now = c.in-Ok.ensures.end in
    let aim = c.in-Ok-from_end.target in
    let came = now.came in
    let end = came-end before new came now.end in
    let found = found-end before new _ c.args.distance _ (Ok aim) came end
    (to_z-of_z {w = w64} c.ranges.distance) c.from_end.ensures.exact c.in-Ok-from_end.is in
    record {
      goes = came-goes before new came;
      text = came.text;
      reaches = record {
        stands = came-stands before new came;
        there = tt;
        place = λ told. sym c.if-target-len.true;
        exact = found;
      };
      misses = misses-none _ _ _ _;
      finds = record { well = λ told steady. (end told steady).0; knows = now.knows };
      below = λ told steady plain. inr (subst (λ n. LandsBelow new n) (sym c.if-target-len.true) (c.in-Ok.ensures.lands told steady plain));
    }

pub returns-else-target-len : goal.returns-else-target-len
returns-else-target-len g c =
    let before = c.args.self.now in
    let new = c.reach_end.new.self in
    let after = c.go_to.new.self in
    let first = c.in-Ok.ensures.end in
    let now = c.go_to.ensures in
    let aim = c.in-Ok-from_end.target in
    let came = first.came in
    let plain = armor-plain before new came.narrows in
    let end = came-end before new came first.end in
    let found = found-end before new _ c.args.distance _ (Ok aim) came end
    (to_z-of_z {w = w64} c.ranges.distance) c.from_end.ensures.exact c.in-Ok-from_end.is in
    record {
      goes = goes-later _ _ _ before new after came.same came.narrows (seeks-plain (OrAstray g.R.Seek.seek_refuses) before new came.narrows) now.goes;
      text = text-later before new after came.same came.text now.text;
      reaches = reaches-end before new after c.args.distance aim c.go_to.result came.same came.text found now.reaches;
      misses = misses-end before new after c.args.distance aim c.go_to.result
          (g.met.R.Read.well before.source.inner) came.same came.text plain found now.goes now.misses;
      finds = record {
        well = λ told steady. on_ok_weaker c.go_to.result (λ good. (end told steady).0) now.reaches.stands.good;
        knows = on_ok_weaker c.go_to.result (λ good. now.text.learns.end first.knows) now.reaches.stands.good;
      };
      below = λ told steady no_armor.
          lands-again before new after c.go_to.result (now.reaches.place (came.same.tells ∙ told)) (c.in-Ok.ensures.lands told steady no_armor)
          (now.below (came.same.tells ∙ told) (came.same.steady ∙ steady) (ap (λ t. begins_armor t.bytes) (came.text.same_text told) ∙ no_armor));
    }
