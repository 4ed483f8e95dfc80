use Rattle.std.proofs.Common.{rules, ◌≡◌, ◌++◌, ◌∷◌, ℕ, List, [], sym, ◌∙◌, ap, subst}
use Rattle.age_base64.specs.Lines.{line}
use Rattle.age_v1.specs.HeaderTexts.{grown}
use Rattle.age_v1.specs.Stanza.{StanzaValue}
use Rattle.age_format.specs.Reading.{IsInBody, IsBodyAndTail, IsTail}
use Rattle.age_format.proofs.States.{goes_on_in_body, closes_body, bad_body, too_long, IsAfterBody}
use Rattle.age_format.proofs.state.judge_body.Goals as goal

pub returns-in_default : goal.returns-in_default
returns-in_default c = λ text h lacks none.
    bad_body c.args.legacy text c.args.next.now c.args.stanza c.args.done.items h.read lacks none h.goes
    (λ b each small told. (rw c.in_default.is at c.in_ok-bytes.ensures.found) b each told)

pub returns-then-len-gt48 : goal.returns-then-len-gt48
returns-then-len-gt48 c = λ text h lacks none.
    let found = (rw c.in-Some.is at c.in_ok-bytes.ensures.found) in
    bad_body c.args.legacy text c.args.next.now c.args.stanza c.args.done.items h.read lacks none h.goes
    (too_long c.in-Some.bytes.items c.args.next.now found.0 found.1 (search rules))

pub returns-then-len-eq48 : goal.returns-then-len-eq48
returns-then-len-eq48 c = λ text h lacks none.
    let found = (rw c.in-Some.is at c.in_ok-bytes.ensures.found) in
    let s = c.args.stanza in
    let d = c.args.done.items in
    let r = goes_on_in_body c.args.legacy text c.args.next.now c.in-Some.bytes.items s d h.read lacks none h.goes found.0 found.1 (search rules) in
    let e : grown s c.in-Some.bytes.items ≡ c.extend_body.new.self = ap (grown s) (sym c.as_slice.ensures.value) ∙ sym c.in_ok-extend_body.ensures in
    record {
      read = subst (λ z. IsInBody c.args.legacy z (text ++ line c.args.next.now) d) e r.0;
      goes = λ more ss m k. subst (λ z. IsBodyAndTail c.args.legacy z more d ss m) e (r.1 more ss m k);
    }

pub returns : goal.returns
returns c = λ text h lacks none.
    let found = (rw c.in-Some.is at c.in_ok-bytes.ensures.found) in
    let s = c.args.stanza in
    let d = c.args.done.items in
    let r = closes_body c.args.legacy text c.args.next.now c.in-Some.bytes.items s d h.read lacks none h.goes found.0 found.1 (search rules) in
    let e : grown s c.in-Some.bytes.items ≡ c.extend_body.new.self = ap (grown s) (sym c.as_slice.ensures.value) ∙ sym c.in_ok-extend_body.ensures in
    let p : d ++ grown s c.in-Some.bytes.items ∷ [] ≡ c.push.new.self.items = ap (λ z. d ++ z ∷ []) e ∙ sym c.in_ok-push.ensures.items in
    let t : List ℕ = text ++ line c.args.next.now in
    record {
      read = subst (λ x. IsAfterBody c.args.legacy t x) p r.0;
      goes = λ more ss m k. subst (λ x. (others : List StanzaValue) × (ss ≡ x ++ others) × IsTail c.args.legacy more others m) p (r.1 more ss m k);
    }
