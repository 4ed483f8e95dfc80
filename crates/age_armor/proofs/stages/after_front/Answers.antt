use Rattle.std.proofs.Common.{◌≡◌, ◌≢◌, ◌++◌, ◌∙◌, ap, length, take, drop, arith, inl, inr, sym, refl, true, false, nat_eq, rules}
use Rattle.std.specs.Prelude.{slice_index}
use Rattle.std.specs.List.{starts_with}
use Rattle.std.proofs.lemmas.Grind.{common_steps}
use Rattle.std.proofs.lemmas.List.{take_at}
use Rattle.age_v1.specs.Armor.{begin_marker}
use Rattle.age_armor.proofs.Refusing.{end-asked, kept-as, kept-error, kept-refused, kept-still}
use Rattle.age_armor.proofs.Staging.{finds_form, detects_binary, detects_lf, detects_crlf, detects_bad, detects_bad_next, advances_none, one_of, stops_end}
use Rattle.age_armor.proofs.stages.after_front.Goals as goal

pub returns-then-not-starts_with-clause-bytes : goal.returns-then-not-starts_with-clause-bytes
returns-then-not-starts_with-clause-bytes g c = λ told all d some.
    let front = c.args.front.now in
    let size : length front ≡ 35 = c.told-front in
    let other : starts_with nat_eq front begin_marker ≡ false = sym c.starts_with.ensures.value ∙ c.if-not-starts_with.true in
    let after : c.copy_from_slice.new.self ≡ front = c.copy_from_slice.ensures.after in
    let taken : take 35 (c.copy_from_slice.new.self ++ drop 35 c.args.bytes.now) ≡ front =
    take_at c.copy_from_slice.new.self (drop 35 c.args.bytes.now) 35 (ap length after ∙ size) ∙ after in
    rw taken (detects_binary front all (g.R.Read.rest c.args.source.now.inner) size d some other)

pub returns-then-last-eq10-clause-bytes : goal.returns-then-last-eq10-clause-bytes
returns-then-last-eq10-clause-bytes g c = λ told all d some.
    let front = c.args.front.now in
    let marker : starts_with nat_eq front begin_marker ≡ true = sym c.starts_with.ensures.value ∙ c.if-not-starts_with.false in
    let last : slice_index front 34 ≡ 10 = grind (arith, common_steps) in
    advances_none _ _ _ refl (detects_lf front all (g.R.Read.rest c.args.source.now.inner) c.told-front d some marker last)

pub returns-then-last-ne13-clause-cause : goal.returns-then-last-ne13-clause-cause
returns-then-last-ne13-clause-cause g c = λ told all d some other quiet.
    let front = c.args.front.now in
    let marker : starts_with nat_eq front begin_marker ≡ true = sym c.starts_with.ensures.value ∙ c.if-not-starts_with.false in
    let no_lf : slice_index front 34 ≢ 10 = grind (arith, common_steps) in
    let no_cr : slice_index front 34 ≢ 13 = grind (arith, common_steps) in
    stops_end _ _ (detects_bad front all (g.R.Read.rest c.args.source.now.inner) c.told-front d some marker no_lf no_cr)

pub returns-then-last-ne13-clause-why : goal.returns-then-last-ne13-clause-why
returns-then-last-ne13-clause-why g c = λ told all d some.
    let front = c.args.front.now in
    let marker : starts_with nat_eq front begin_marker ≡ true = sym c.starts_with.ensures.value ∙ c.if-not-starts_with.false in
    let no_lf : slice_index front 34 ≢ 10 = grind (arith, common_steps) in
    let no_cr : slice_index front 34 ≢ 13 = grind (arith, common_steps) in
    inr (inl (detects_bad front all (g.R.Read.rest c.args.source.now.inner) c.told-front d some marker no_lf no_cr))

pub returns-in-Ok-false-clause-why : goal.returns-in-Ok-false-clause-why
returns-in-Ok-false-clause-why g c = λ told all d some.
    let size : length c.take_front.new.front ≡ 1 = search rules in
    absurd (omega (arith, size, (c.in-Ok-false.ensures.few told c.in-Ok-false.field-0-test).few, some))

pub returns-in-Err-clause-why : goal.returns-in-Err-clause-why
returns-in-Err-clause-why g c = λ told all d some. end-asked g.R.Read c.args.source.now.inner _ c.in-Err.e c.in-Err.ensures.why

pub returns-then-next-ne10-clause-cause : goal.returns-then-next-ne10-clause-cause
returns-then-next-ne10-clause-cause g c = λ told all d some other quiet.
    let front = c.args.front.now in
    let marker : starts_with nat_eq front begin_marker ≡ true = sym c.starts_with.ensures.value ∙ c.if-not-starts_with.false in
    let no_lf : slice_index front 34 ≢ 10 = grind (arith, common_steps) in
    let next = c.take_front.new.front in
    let single = one_of next (search rules) in
    let took = rw single at (c.in-Ok-true.ensures.bytes told c.in-Ok-true.field-0-test) in
    let bad : slice_index next 0 ≢ 10 = grind (arith, common_steps) in
    stops_end _ _ (detects_bad_next front all (g.R.Read.rest c.args.source.now.inner) (g.R.Read.rest c.take_front.new.self.inner) (slice_index next 0)
    c.told-front d some marker no_lf took bad)

pub returns-then-next-ne10-clause-why : goal.returns-then-next-ne10-clause-why
returns-then-next-ne10-clause-why g c = λ told all d some.
    let front = c.args.front.now in
    let marker : starts_with nat_eq front begin_marker ≡ true = sym c.starts_with.ensures.value ∙ c.if-not-starts_with.false in
    let no_lf : slice_index front 34 ≢ 10 = grind (arith, common_steps) in
    let next = c.take_front.new.front in
    let single = one_of next (search rules) in
    let took = rw single at (c.in-Ok-true.ensures.bytes told c.in-Ok-true.field-0-test) in
    let bad : slice_index next 0 ≢ 10 = grind (arith, common_steps) in
    inr (inl (detects_bad_next front all (g.R.Read.rest c.args.source.now.inner) (g.R.Read.rest c.take_front.new.self.inner) (slice_index next 0)
    c.told-front d some marker no_lf took bad))

pub returns-clause-bytes : goal.returns-clause-bytes
returns-clause-bytes g c = λ told all d some.
    let front = c.args.front.now in
    let marker : starts_with nat_eq front begin_marker ≡ true = sym c.starts_with.ensures.value ∙ c.if-not-starts_with.false in
    let cr : slice_index front 34 ≡ 13 = grind (arith, common_steps) in
    let next = c.take_front.new.front in
    let single = one_of next (search rules) in
    let took = rw single at (c.in-Ok-true.ensures.bytes told c.in-Ok-true.field-0-test) in
    let lf : slice_index next 0 ≡ 10 = grind (arith, common_steps) in
    advances_none _ _ _ refl (detects_crlf front all (g.R.Read.rest c.args.source.now.inner) (g.R.Read.rest c.take_front.new.self.inner)
    c.told-front d some marker cr (rw lf at took))

pub returns-then-not-starts_with-clause-form : goal.returns-then-not-starts_with-clause-form
returns-then-not-starts_with-clause-form g c = λ told all d some.
    let other : starts_with nat_eq c.args.front.now begin_marker ≡ false = sym c.starts_with.ensures.value ∙ c.if-not-starts_with.true in
    finds_form c.args.front.now all (g.R.Read.rest c.args.source.now.inner) false c.told-front d some other

pub returns-then-last-eq10-clause-form : goal.returns-then-last-eq10-clause-form
returns-then-last-eq10-clause-form g c = λ told all d some.
    let marker : starts_with nat_eq c.args.front.now begin_marker ≡ true = sym c.starts_with.ensures.value ∙ c.if-not-starts_with.false in
    finds_form c.args.front.now all (g.R.Read.rest c.args.source.now.inner) true c.told-front d some marker

pub returns-clause-form : goal.returns-clause-form
returns-clause-form g c = λ told all d some.
    let marker : starts_with nat_eq c.args.front.now begin_marker ≡ true = sym c.starts_with.ensures.value ∙ c.if-not-starts_with.false in
    finds_form c.args.front.now all (g.R.Read.rest c.args.source.now.inner) true c.told-front d some marker

pub returns-in-Err-clause-kept : goal.returns-in-Err-clause-kept
returns-in-Err-clause-kept g c = kept-error _ _ _ _ _ c.in-Err.e c.in-Err.ensures.kept

pub returns-in-Ok-false-clause-kept : goal.returns-in-Ok-false-clause-kept
returns-in-Ok-false-clause-kept g c = kept-refused _ _ _ _ _ _ c.in-Ok-false.ensures.kept (λ is. is) tt

pub returns-then-next-ne10-clause-kept : goal.returns-then-next-ne10-clause-kept
returns-then-next-ne10-clause-kept g c = kept-refused _ _ _ _ _ _ c.in-Ok-true.ensures.kept (λ is. is) tt

pub returns-clause-kept : goal.returns-clause-kept
returns-clause-kept g c = kept-as _ _ _ _ _ c.in-Ok-true.ensures.kept

pub returns-then-not-starts_with-clause-kept : goal.returns-then-not-starts_with-clause-kept
returns-then-not-starts_with-clause-kept g c = kept-still g.R.Read _ c.args.source.now.inner c.args.source.now.taken c.requires

pub returns-then-last-eq10-clause-kept : goal.returns-then-last-eq10-clause-kept
returns-then-last-eq10-clause-kept g c = kept-still g.R.Read _ c.args.source.now.inner c.args.source.now.taken c.requires
