use Rattle.std.proofs.Common.{rules, ◌∙◌, ap, refl, subst, inl, inr, Ok, Err}
use Rattle.age_v1.specs.Header.{covered_text}
use Rattle.age_v1.specs.HeaderMac.{header_mac}
use Rattle.age_protocol.specs.Migrating.{Rewrites}
use Rattle.age_error.specs.declared.decrypt.DecryptError.TheVariants as decrypt
use Rattle.age_error.specs.DecryptErrors.{decrypt_refusal}
use Rattle.age_protocol.proofs.Reasons.{refused_as}
use Rattle.age_protocol.proofs.migrate.rewritten.Goals as goal

pub returns-in_err-file_key : goal.returns-in_err-file_key
returns-in_err-file_key g c =
    let (answer, first, is) = (rw c.stanzas.ensures.stanzas at c.in_err-file_key.ensures) in (
      answer,
      first,
      subst (λ k. Rewrites k c.args.header c.from_residual.result) is
          (refused_as (λ r. Rewrites (Err (decrypt_refusal c.in_err-file_key.field-0.0)) c.args.header r) _ c.in_err-file_key.field-0.0
          c.from_residual.ensures.1 refl),
    )

pub returns-then-not-verify_mac : goal.returns-then-not-verify_mac
returns-then-not-verify_mac g c =
    let (answer, first, is) = (rw c.stanzas.ensures.stanzas at c.in_ok-file_key.ensures) in (
      answer,
      first,
      subst (λ k. Rewrites k c.args.header (Err decrypt.InvalidMac)) is (inl ((λ right. search rules), refl)),
    )

pub returns-in_err-rewritten : goal.returns-in_err-rewritten
returns-in_err-rewritten g c =
    let (answer, first, is) = (rw c.stanzas.ensures.stanzas at c.in_ok-file_key.ensures) in (
      answer,
      first,
      subst (λ k. Rewrites k c.args.header c.from_residual-in_err-rewritten.result) is
          (refused_as (λ r. Rewrites (Ok c.in_ok-file_key.file_key) c.args.header r) _ decrypt.OutOfMemory c.from_residual-in_err-rewritten.ensures.1
          (inr (search rules, refl))),
    )

pub returns : goal.returns
returns g c =
    let (answer, first, is) = (rw c.stanzas.ensures.stanzas at c.in_ok-file_key.ensures) in
    let key = c.in_ok-file_key.file_key in
    let new = c.in_ok-rewritten.ensures in (
      answer,
      first,
      subst (λ k. Rewrites k c.args.header (Ok c.in_ok-rewritten.rewritten)) is (inr (
        search rules,
        (new.stanzas ∙ c.into_stanzas.ensures.stanzas, new.mac ∙ ap (λ s. header_mac key (covered_text s)) c.into_stanzas.ensures.stanzas),
      )),
    )
