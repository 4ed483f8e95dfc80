use Rattle.std.proofs.Common.{◌≡◌, ◌∙◌, sym, ap, subst, false, [], ◌∷◌, arith}
use Rattle.std.specs.Prelude.{nat_eq}
use Rattle.std.specs.List.{starts_with}
use Rattle.age_keys.proofs.Factors.{IsFactorOf, no_factor, parsed_factor}
use Rattle.age_keys.proofs.scrypt.stretching.factor_of.Goals as goal

pub returns-then-starts_with : goal.returns-then-starts_with
returns-then-starts_with c =
    no_factor 43 c.args.text.now (omega arith)
    (ap (λ text. starts_with nat_eq text (43 ∷ [])) (sym c.as_bytes.ensures.value) ∙ sym c.if-starts_with.ensures.value)

pub returns-then-starts_with-2 : goal.returns-then-starts_with-2
returns-then-starts_with-2 c =
    no_factor 48 c.args.text.now (omega arith)
    (ap (λ text. starts_with nat_eq text (48 ∷ [])) (sym c.as_bytes-2.ensures.value) ∙ sym c.if-starts_with-2.ensures.value)

pub returns : goal.returns
returns c =
    let plus : starts_with nat_eq c.args.text.now (43 ∷ []) ≡ false =
    ap (λ text. starts_with nat_eq text (43 ∷ [])) (sym c.as_bytes.ensures.value) ∙ sym c.if-starts_with.ensures.value in
    let zero : starts_with nat_eq c.args.text.now (48 ∷ []) ≡ false =
    ap (λ text. starts_with nat_eq text (48 ∷ [])) (sym c.as_bytes-2.ensures.value) ∙ sym c.if-starts_with-2.ensures.value in
    subst (IsFactorOf c.args.text.now) (sym c.ok.ensures.value) (parsed_factor c.args.text.now c.parse.result c.parse.ensures.value.0 plus zero)
