use Rattle.std.proofs.Common.{◌≡◌, ◌∙◌, ◌∷◌, ◌++◌, arith, ap, inl, inr, length, map, None, refl, slice_get, Some, subst, sym}
use Rattle.age.specs.ArmorReader.{armored_content, furthest_of}
use Rattle.age_examples.specs.Looks.{AreWithin, IsLook, IsOneOutside}
use Rattle.age.specs.ReadingLemmas.{quiet_from}
use Rattle.age_examples.proofs.Looked.{behind, ended, grown}
use Rattle.age_examples.proofs.looks.bytes_at.Goals as goal

pub looks-preserved : goal.looks-preserved
looks-preserved g c =
    let loop = c.looks.invariant in
    let now = c.in-Ok.ensures in
    let front : c.looks.rest.now ≡ c.in-Some.place.now ∷ c.in-Some.tail.now = c.in-Some.ensures.cases.0 in
    record {
      tells = now.tells ∙ loop.tells;
      steady = now.steady ∙ loop.steady;
      faults = omega (arith, loop.faults, now.faults);
      further = omega (arith, loop.further, now.learns.further);
      within = λ within. (subst (λ ps. AreWithin (furthest_of c.args.reader.now) ps) front (loop.within within)).1;
      lines = λ told steady noting within.
          let before = now.learns.noting noting in
          let at = (subst (λ ps. AreWithin (furthest_of c.args.reader.now) ps) front (loop.within within)).0 in
          let more = now.lines (loop.tells ∙ told) (loop.steady ∙ steady) before (omega (arith, at, loop.further)) in
          omega (arith, more, loop.lines told steady before within, ap length front);
      content = λ told. now.content (loop.tells ∙ told) ∙ loop.content told;
      bytes = λ told steady.
          let look = subst (λ s. IsLook s.bytes c.in-Some.place.now c.in-Ok.count c.look.new.byte) (loop.content told)
          (now.byte (loop.tells ∙ told) (loop.steady ∙ steady)) in
          let all = grown (armored_content c.args.reader.now).bytes c.args.places.now c.looks.rest.now c.in-Some.tail.now c.in-Some.place.now
          c.in-Ok.count
          c.looks.bytes.items c.look.new.byte look c.if-count-eq0.false front (loop.bytes told steady) in
          all ∙ ap (λ xs. map Some xs ++ map (slice_get (armored_content c.args.reader.now).bytes) c.in-Some.tail.now)
          (sym c.in_ok-extend_from_slice.ensures.items);
      outside = λ one. loop.outside (subst (IsOneOutside (armored_content c.args.reader.now).bytes) (sym front) (inr one));
      narrows = λ e why. loop.narrows e (now.narrows e why);
    }

pub returns-in-Err-clause-why : goal.returns-in-Err-clause-why
returns-in-Err-clause-why g c = elim c.in-Err.ensures.why [
  | inl outside ↦ inr (inl outside)
  | inr why ↦ inr (inr (inl (c.looks.invariant.narrows c.in-Err.error why)))
]

pub returns-then-count-eq0-clause-why : goal.returns-then-count-eq0-clause-why
returns-then-count-eq0-clause-why g c = inr (inr (inr (
  refl,
  λ told steady.
      let loop = c.looks.invariant in
      let reader = c.args.reader.now in
      let look = subst (λ s. IsLook s.bytes c.in-Some.place.now c.in-Ok.count c.look.new.byte) (loop.content told)
      (c.in-Ok.ensures.byte (loop.tells ∙ told) (loop.steady ∙ steady)) in
      loop.outside (behind (armored_content reader).bytes c.looks.rest.now c.in-Some.tail.now c.in-Some.place.now c.in-Ok.count c.look.new.byte
      look c.if-count-eq0.true
      c.in-Some.ensures.cases.0),
)))

pub returns-clause-bytes : goal.returns-clause-bytes
returns-clause-bytes g c = λ told steady.
    ended (armored_content c.args.reader.now).bytes c.args.places.now c.looks.rest.now c.looks.bytes.items c.in_default.ensures.cases
    (c.looks.invariant.bytes told steady)

pub returns-in-Err-clause-cause : goal.returns-in-Err-clause-cause
returns-in-Err-clause-cause g c = λ told steady well memory quiet.
    let loop = c.looks.invariant in
    let now = c.in-Err.ensures in
    let sound = ap (λ s. s.ends_well) (loop.content told) ∙ well in
    let none = now.cause (loop.tells ∙ told) (loop.steady ∙ steady) sound memory (quiet_from loop.faults now.faults quiet) in
    let bytes = (armored_content c.args.reader.now).bytes in
    loop.outside (subst (IsOneOutside bytes) (sym c.in-Some.ensures.cases.0)
    (inl (subst (λ s. slice_get s.bytes c.in-Some.place.now ≡ None) (loop.content told) none)))

pub returns-then-count-eq0-clause-cause : goal.returns-then-count-eq0-clause-cause
returns-then-count-eq0-clause-cause g c = λ told steady well memory quiet.
    let loop = c.looks.invariant in
    let reader = c.args.reader.now in
    let look = subst (λ s. IsLook s.bytes c.in-Some.place.now c.in-Ok.count c.look.new.byte) (loop.content told)
    (c.in-Ok.ensures.byte (loop.tells ∙ told) (loop.steady ∙ steady)) in
    loop.outside (behind (armored_content reader).bytes c.looks.rest.now c.in-Some.tail.now c.in-Some.place.now c.in-Ok.count c.look.new.byte look
    c.if-count-eq0.true
    c.in-Some.ensures.cases.0)
