use Rattle.std.specs.Prelude.{codes}
use Rattle.std.proofs.Common.{◌≡◌, sym, ◌∙◌, subst, true, false}
use Rattle.age_v1.specs.Stanza.{IsString}
use Rattle.std.proofs.lemmas.List.{append_cancel_left}
use Rattle.age_v1.specs.HeaderTexts.{magic}
use Rattle.age_format.proofs.States.{bad_version}
use Rattle.age_format.proofs.state.judge_version.Goals as goal

pub returns-in_default : goal.returns-in_default
returns-in_default c = λ text h lacks.
    bad_version c.args.legacy text c.args.next.now h.read lacks (λ e. c.in_default.ensures (codes "v1") e)
    (λ v string other e. c.in_default.ensures v e)

pub returns-else-is_string_of_bytes : goal.returns-else-is_string_of_bytes
returns-else-is_string_of_bytes c = λ text h lacks.
    bad_version c.args.legacy text c.args.next.now h.read lacks
    (λ e. let same : c.in-Some.version.now ≡ codes "v1" =
    append_cancel_left magic c.in-Some.version.now (codes "v1") (sym c.in-Some.ensures ∙ e) in
    let k : false ≡ true = (rw (same, c.as_slice.ensures) at c.if-eq.ensures) in cc)
    (λ v string other e. let same : c.in-Some.version.now ≡ v = append_cancel_left magic c.in-Some.version.now v (sym c.in-Some.ensures ∙ e) in
    let k : false ≡ true = sym c.if-is_string_of_bytes.false ∙ c.is_string_of_bytes.ensures.exactly.1 (subst IsString (sym same) string) in cc)
