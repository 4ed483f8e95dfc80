use Rattle.std.proofs.Common.{rules, ◌++◌, ◌∷◌, inr, [], sym, ◌∙◌, ap, subst, take}
use Rattle.std.proofs.lemmas.List.{take_rest}
use Rattle.age_v1.specs.HeaderTexts.{IsHeaderText}
use Rattle.age_v1.specs.HeaderVerdict.{IsUnknownVersion, IsBadFront}
use Rattle.age_format.specs.Progress.{ReaderValue}
use Rattle.age_format.proofs.Pushing.{last_line, progress_line}
use Rattle.age_format.proofs.bytewise.HeaderReader.end_line.Goals as goal

pub invariant_of-result : goal.invariant_of-result
invariant_of-result c =
    let t = c.self.inside.text.items in
    let start = c.self.inside.start in
    let h = c.self.invariant in
    let j = (rw (c.in-Allowed.is, c.deref.ensures.value, take_rest t start) at c.in_ok-judged.ensures) (take start t) h.at h.lacks in
    progress_line c.self.inside.legacy c.in-Allowed.state t c.push.new.self.items start c.len-start.result h.undecided c.in_ok-push.ensures.items
    (search rules) j

pub returns-in-Bad : goal.returns-in-Bad
returns-in-Bad c =
    let t = c.self.inside.text.items in
    let start = c.self.inside.start in
    let h = c.self.invariant in
    let j = (rw (c.in-Bad.is, c.deref.ensures.value, take_rest t start) at c.in_ok-judged.ensures) (take start t) h.at h.lacks in
    subst (λ (r : ReaderValue). IsBadFront r.legacy (r.text ++ 10 ∷ [])) c.self.view_is
    (subst (IsBadFront c.self.inside.legacy) (sym (last_line t start)) (inr (inr j)))

pub returns-in-UnknownVersion : goal.returns-in-UnknownVersion
returns-in-UnknownVersion c =
    let t = c.self.inside.text.items in
    let start = c.self.inside.start in
    let h = c.self.invariant in
    let j = (rw (c.in-UnknownVersion.is, c.deref.ensures.value, take_rest t start) at c.in_ok-judged.ensures) (take start t) h.at h.lacks in
    subst (λ (r : ReaderValue). IsUnknownVersion (r.text ++ 10 ∷ [])) c.self.view_is (subst IsUnknownVersion (sym (last_line t start)) j)

pub returns-in-Header : goal.returns-in-Header
returns-in-Header c =
    let t = c.self.inside.text.items in
    let start = c.self.inside.start in
    let h = c.self.invariant in
    let j = (rw (c.in-Header.is, c.deref.ensures.value, take_rest t start) at c.in_ok-judged.ensures) (take start t) h.at h.lacks in
    let ss = c.in-Header.stanzas.items in
    let k = subst (λ x. IsHeaderText c.self.inside.legacy x ss c.in-Header.mac) (sym (last_line t start)) j in (
      c.in_ok-push.ensures.items ∙ ap (λ (r : ReaderValue). r.text ++ 10 ∷ []) c.self.view_is,
      subst (λ (r : ReaderValue). IsHeaderText r.legacy (r.text ++ 10 ∷ []) ss c.in-Header.mac) c.self.view_is k,
    )
