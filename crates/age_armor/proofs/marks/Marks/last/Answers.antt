use Rattle.std.proofs.Common.{◌≡◌, ◌+◌, ◌*◌, ◌-◌, false, arith, length, slice_get, Some, refl, subst}
use Rattle.std.proofs.lemmas.Option.{slice_get_read}
use Rattle.age_armor.specs.declared.stages.Stage.TheVariants.{Lines}
use Rattle.age_armor.specs.PrivateMarks.{CanResume}
use Rattle.age_armor.proofs.marks.Marks.last.Goals as goal

pub returns-in-Some-clause-each : goal.returns-in-Some-clause-each
returns-in-Some-clause-each c = λ steady text knows.
    let items = c.deref.result.now in
    let at = c.in-Some.ensures.lookup in
    let read : slice_get items (c.min-count.result - 1) ≡ Some c.in-Some.taken.now =
    slice_get_read items (length items) (c.min-count.result - 1) c.in-Some.taken.now refl at.3.0 at.1 in
    let index : c.min-count.result - 1 + 1 ≡ c.min-count.result = omega (arith, c.if-count-eq0.false) in (
      subst (λ n. CanResume steady text (Lines false) (49152 * n) c.in-Some.taken.now) index
          (knows.each (c.min-count.result - 1) c.in-Some.taken.now
          (subst (λ xs. slice_get xs (c.min-count.result - 1) ≡ Some c.in-Some.taken.now) c.deref.ensures.value read)),
      omega (arith, knows.passed, c.min-count.ensures, c.len.ensures),
    )
