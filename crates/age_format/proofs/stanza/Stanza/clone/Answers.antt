use Rattle.std.proofs.Common.{sym, ◌∙◌, subst, string_bytes}
use Rattle.std.specs.List.{each_same}
use Rattle.age_v1.specs.Stanza.{IsStanza}
use Rattle.age_format.proofs.Equality.{copied, same_parts}
use Rattle.age_format.proofs.stanza.Stanza.clone.Goals as goal

pub invariant_of-result : goal.invariant_of-result
invariant_of-result c =
    subst IsStanza
    (sym (same_parts _ _ _ _ _ _ c.in_ok-tag.ensures.cases (copied (λ a. string_bytes a) _ _ c.in_ok-args.ensures.cases.0)
    (each_same _ _ c.in_ok-body.ensures.cases.0)))
    c.self.invariant

pub returns : goal.returns
returns c =
    same_parts _ _ _ _ _ _ c.in_ok-tag.ensures.cases (copied (λ a. string_bytes a) _ _ c.in_ok-args.ensures.cases.0)
    (each_same _ _ c.in_ok-body.ensures.cases.0)
    ∙ c.self.view_is
