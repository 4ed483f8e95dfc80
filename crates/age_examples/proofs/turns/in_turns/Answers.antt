use Rattle.std.proofs.Common.{◌≡◌, ◌/◌, ◌∙◌, ap, arith, inl, inr, slice_get, sym, subst, IsTrue, None, Some}
use Rattle.age.specs.StreamReader.{tells_of}
use Rattle.age_examples.specs.Turns.{HasPlace}
use Rattle.age.specs.ErrorLemmas.{of_error}
use Rattle.age.specs.ReadingLemmas.{quiet_from}
use Rattle.age_examples.proofs.turns.in_turns.Goals as goal

pub turns-init : goal.turns-init
turns-init g c =
    let one = c.in_ok-one.ensures in
    let two = c.in_ok-other.ensures in
    let told_two = λ (told : IsTrue (tells_of c.args.reader.now)). one.tells ∙ told in
    record {
      same_tells = two.tells ∙ one.tells;
      same_payload = λ told. two.payload (told_two told) ∙ one.payload told;
      first = λ told has. two.keeps_last (told_two told) (subst (λ p. HasPlace p c.args.second) (sym (one.payload told)) has)
          (c.args.first / 65536) (one.uses told);
      second = λ told. two.uses (told_two told);
      same_steady = two.steady ∙ one.steady;
      more_faults = omega (arith, one.faults, two.faults);
      same_content = λ told. two.content (told_two told) ∙ one.content told;
      bytes = λ told steady. (
        one.byte told steady,
        subst (λ s. slice_get s.bytes c.args.second ≡ Some c.in_ok-other.other) (one.content told) (two.byte (told_two told) (one.steady ∙ steady)),
      );
      narrows = λ e why. one.narrows e (two.narrows e why);
      opened = λ told first second.
          let at_second = subst (λ p. HasPlace p c.args.second) (sym (one.payload told)) second in
          omega (arith, one.opens told first, two.opens (told_two told) at_second);
    }

pub turns-preserved : goal.turns-preserved
turns-preserved g c =
    let kept = c.turns.invariant in
    let one = c.in_ok-one-2.ensures in
    let two = c.in_ok-other-2.ensures in
    let told_one = λ (told : IsTrue (tells_of c.args.reader.now)). kept.same_tells ∙ told in
    let told_two = λ (told : IsTrue (tells_of c.args.reader.now)). one.tells ∙ kept.same_tells ∙ told in
    let same = λ (told : IsTrue (tells_of c.args.reader.now)). one.payload (told_one told) ∙ kept.same_payload told in
    record {
      same_tells = two.tells ∙ one.tells ∙ kept.same_tells;
      same_payload = λ told. two.payload (told_two told) ∙ same told;
      first = λ told has. two.keeps_last (told_two told) (subst (λ p. HasPlace p c.args.second) (sym (same told)) has) (c.args.first / 65536)
          (one.uses (told_one told));
      second = λ told. two.uses (told_two told);
      same_steady = two.steady ∙ one.steady ∙ kept.same_steady;
      more_faults = omega (arith, kept.more_faults, one.faults, two.faults);
      same_content = λ told. two.content (told_two told) ∙ one.content (told_one told) ∙ kept.same_content told;
      bytes = λ told steady.
          let content = kept.same_content told in
          let between = one.content (told_one told) ∙ content in (
            subst (λ s. slice_get s.bytes c.args.first ≡ Some c.in_ok-one-2.one) content (one.byte (told_one told) (kept.same_steady ∙ steady)),
            subst (λ s. slice_get s.bytes c.args.second ≡ Some c.in_ok-other-2.other) between
                (two.byte (told_two told) (one.steady ∙ kept.same_steady ∙ steady)),
          );
      narrows = λ e why. kept.narrows e (one.narrows e (two.narrows e why));
      opened = λ told first second.
          let at_first = subst (λ p. HasPlace p c.args.first) (sym (kept.same_payload told)) first in
          let at_second = subst (λ p. HasPlace p c.args.second) (sym (same told)) second in
          let none = one.found (told_one told) at_first (kept.first told second) in
          let none_again = two.found (told_two told) at_second (one.keeps_last (told_one told) at_first (c.args.second / 65536) (kept.second told)) in
          omega (arith, none, none_again, kept.opened told first second);
    }

pub returns-in_err-one-clause-why : goal.returns-in_err-one-clause-why
returns-in_err-one-clause-why g c =
    of_error _ c.from_residual.result c.in_err-one.field-0.0 c.from_residual.ensures.1 (elim c.in_err-one.ensures.why [
      | inl outside ↦ inl outside
      | inr (inl why) ↦ inr (inl why)
      | inr (inr end) ↦ inr (inr (end.0, λ told steady. inl (end.1 told steady)))
    ])

pub returns-in_err-other-clause-why : goal.returns-in_err-other-clause-why
returns-in_err-other-clause-why g c =
    let one = c.in_ok-one.ensures in
    of_error _ c.from_residual-in_err-other.result c.in_err-other.field-0.0 c.from_residual-in_err-other.ensures.1 (elim c.in_err-other.ensures.why [
      | inl outside ↦ inl outside
      | inr (inl why) ↦ inr (inl (one.narrows _ why))
      | inr (inr end) ↦ inr (inr (
        end.0,
        λ told steady. inr (subst (λ s. slice_get s.bytes c.args.second ≡ None) (one.content told) (end.1 (one.tells ∙ told) (one.steady ∙ steady))),
      ))
    ])

pub returns-in_err-one-2-clause-why : goal.returns-in_err-one-2-clause-why
returns-in_err-one-2-clause-why g c =
    let kept = c.turns.invariant in
    of_error _ c.from_residual-in_err-one-2.result c.in_err-one-2.field-0.0 c.from_residual-in_err-one-2.ensures.1 (elim c.in_err-one-2.ensures.why [
      | inl outside ↦ inl outside
      | inr (inl why) ↦ inr (inl (kept.narrows _ why))
      | inr (inr end) ↦ inr (inr (
        end.0,
        λ told steady. inl (subst (λ s. slice_get s.bytes c.args.first ≡ None) (kept.same_content told)
            (end.1 (kept.same_tells ∙ told) (kept.same_steady ∙ steady))),
      ))
    ])

pub returns-in_err-other-2-clause-why : goal.returns-in_err-other-2-clause-why
returns-in_err-other-2-clause-why g c =
    let kept = c.turns.invariant in
    let one = c.in_ok-one-2.ensures in
    of_error _ c.from_residual-in_err-other-2.result c.in_err-other-2.field-0.0 c.from_residual-in_err-other-2.ensures.1
    (elim c.in_err-other-2.ensures.why [
      | inl outside ↦ inl outside
      | inr (inl why) ↦ inr (inl (kept.narrows _ (one.narrows _ why)))
      | inr (inr end) ↦ inr (inr (
        end.0,
        λ told steady. inr (subst (λ s. slice_get s.bytes c.args.second ≡ None) (one.content (kept.same_tells ∙ told) ∙ kept.same_content told)
            (end.1 (one.tells ∙ kept.same_tells ∙ told) (one.steady ∙ kept.same_steady ∙ steady))),
      ))
    ])

pub returns-in_err-one-clause-cause : goal.returns-in_err-one-clause-cause
returns-in_err-one-clause-cause g c = λ told steady well.
    of_error _ c.from_residual.result c.in_err-one.field-0.0 c.from_residual.ensures.1
    (λ memory quiet. inl (c.in_err-one.ensures.cause told steady well memory quiet))

pub returns-in_err-other-clause-cause : goal.returns-in_err-other-clause-cause
returns-in_err-other-clause-cause g c = λ told steady well.
    let one = c.in_ok-one.ensures in
    let two = c.in_err-other.ensures in
    let same = one.content told in
    of_error _ c.from_residual-in_err-other.result c.in_err-other.field-0.0 c.from_residual-in_err-other.ensures.1
    (λ memory quiet. inr (subst (λ s. slice_get s.bytes c.args.second ≡ None) same
    (two.cause (one.tells ∙ told) (one.steady ∙ steady) (ap (λ s. s.ends_well) same ∙ well) memory (quiet_from one.faults two.faults quiet))))

pub returns-in_err-one-2-clause-cause : goal.returns-in_err-one-2-clause-cause
returns-in_err-one-2-clause-cause g c = λ told steady well.
    let kept = c.turns.invariant in
    let one = c.in_err-one-2.ensures in
    let same = kept.same_content told in
    of_error _ c.from_residual-in_err-one-2.result c.in_err-one-2.field-0.0 c.from_residual-in_err-one-2.ensures.1
    (λ memory quiet. inl (subst (λ s. slice_get s.bytes c.args.first ≡ None) same
    (one.cause (kept.same_tells ∙ told) (kept.same_steady ∙ steady) (ap (λ s. s.ends_well) same ∙ well) memory
    (quiet_from kept.more_faults one.faults quiet))))

pub returns-in_err-other-2-clause-cause : goal.returns-in_err-other-2-clause-cause
returns-in_err-other-2-clause-cause g c = λ told steady well.
    let kept = c.turns.invariant in
    let one = c.in_ok-one-2.ensures in
    let two = c.in_err-other-2.ensures in
    let same = one.content (kept.same_tells ∙ told) ∙ kept.same_content told in
    of_error _ c.from_residual-in_err-other-2.result c.in_err-other-2.field-0.0 c.from_residual-in_err-other-2.ensures.1
    (λ memory quiet. inr (subst (λ s. slice_get s.bytes c.args.second ≡ None) same
    (two.cause (one.tells ∙ kept.same_tells ∙ told) (one.steady ∙ kept.same_steady ∙ steady) (ap (λ s. s.ends_well) same ∙ well) memory
    (quiet_from one.faults two.faults (quiet_from kept.more_faults (omega (arith, one.faults, two.faults)) quiet)))))
