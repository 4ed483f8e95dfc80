use Rattle.std.proofs.Common.{◌≡◌, ◌++◌, [], sym, ◌∙◌, refl, subst}
use Rattle.std.proofs.lemmas.List.{append-nil}
use Rattle.age_base64.specs.Lines.{line}
use Rattle.age_v1.specs.Header.{version_line}
use Rattle.age_format.specs.Reading.{IsInBody, IsBodyAndTail}
use Rattle.age_format.proofs.States.{opens_body, bad_first}
use Rattle.age_format.proofs.state.judge_first.Goals as goal

pub returns-in-Some : goal.returns-in-Some
returns-in-Some c = λ text h lacks.
    let next = c.args.next.now in
    let z = c.in-Some.stanza in
    let s = (rw c.in-Some.is at c.in_ok-stanza.ensures) in
    let r = opens_body c.args.legacy text next [] z [] refl (h.read ∙ sym (append-nil (line version_line))) s.0 s.1 s.2 lacks
    (λ more ss m k. (ss, refl, (h.goes more ss m k).1)) in
    let e : [] ≡ c.new.result.items = sym c.new.ensures.items in
    record {
      read = subst (λ d. IsInBody c.args.legacy z (text ++ line next) d) e r.0;
      goes = λ more ss m k. subst (λ d. IsBodyAndTail c.args.legacy z more d ss m) e (r.1 more ss m k);
    }

pub returns-in-None : goal.returns-in-None
returns-in-None c = λ text h lacks. bad_first c.args.legacy text c.args.next.now h.read lacks h.goes (rw c.in-None.is at c.in_ok-stanza.ensures)
