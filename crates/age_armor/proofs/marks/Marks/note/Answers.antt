use Rattle.std.proofs.Common.{◌≡◌, ◌∙◌, ◌+◌, ◌*◌, [], ◌∷◌, false, arith, ap, length, length-append, slice_get, Some, subst, sym}
use Rattle.std.proofs.lemmas.Bool.{true≢false}
use Rattle.age_armor.specs.declared.stages.Stage.TheVariants.{Lines}
use Rattle.age_armor.specs.PrivateMarks.{CanResume}
use Rattle.age_armor.proofs.Marking.{each_of_longer}
use Rattle.age_armor.proofs.marks.Marks.note.Goals as goal

pub returns-in-Ok-clause-knows : goal.returns-in-Ok-clause-knows
returns-in-Ok-clause-knows c = λ steady text knows behind new.
    let before = c.args.self.now.taken.items in
    let at : c.args.place ≡ 49152 * (length before + 1) = omega (arith, c.if-place-ne0.false, c.if-place-len.false, c.len.ensures) in
    let more : length c.push.new.self.items ≡ length before + 1 = ap length c.in-Ok.ensures.items ∙ length-append before (c.args.taken ∷ []) in
    record {
      each = each_of_longer (λ index taken. CanResume steady text (Lines false) (49152 * (index + 1)) taken) before c.push.new.self.items
          c.args.taken c.in-Ok.ensures.items
          knows.each (subst (λ place. CanResume steady text (Lines false) place c.args.taken) at (new
          (c.is_after_full.ensures.yes c.if-not-is_after_full.false)));
      end = knows.end;
      met = knows.met;
      passed = omega (arith, at, more, behind);
      inside = knows.inside;
      near = λ now noting armored. omega (arith, more, knows.near now noting armored);
    }

pub returns-in-Err-clause-knows : goal.returns-in-Err-clause-knows
returns-in-Err-clause-knows c = λ steady text knows behind new. record {
  each = λ index taken is. knows.each index taken (subst (λ xs. slice_get xs index ≡ Some taken) c.in-Err.ensures.items is);
  end = knows.end;
  met = knows.met;
  passed = omega (arith, knows.passed, ap length c.in-Err.ensures.items);
  inside = knows.inside;
  near = λ now noting armored. absurd (true≢false (sym noting));
}
