use Rattle.std.proofs.Common.{sym, subst}
use Rattle.std.proofs.lemmas.Bool.{false≢true}
use Rattle.std.specs.Str.{IsUtf8}
use Rattle.age_error.specs.EncryptErrors.{encrypt_refusal}
use Rattle.age_v1.specs.Armor.{armor}
use Rattle.age_protocol.specs.WholeFiles.{Encrypts}
use Rattle.age_protocol.proofs.WholeFiles.{seen_refusal, text-encrypted}
use Rattle.age_protocol.proofs.simple.encrypt_and_armor.Goals as goal

pub returns-in_err-text : goal.returns-in_err-text
returns-in_err-text g c =
    let (outcome, prepared, refused) = c.in_err-text.ensures in (
      outcome,
      prepared,
      subst (λ answer. Encrypts g.S.Suite.seal_of armor c.args.plaintext.now outcome answer)
          (sym (seen_refusal _ (λ e. encrypt_refusal e) c.from_residual.result c.in_err-text.field-0.0 c.from_residual.ensures.1)) refused,
    )

pub unreachable-requires : goal.unreachable-requires
unreachable-requires g c =
    let (outcome, prepared, encrypted) = c.in_ok-text.ensures in
    let (text, is) = text-encrypted g.S.Suite.seal_of armor c.args.plaintext.now c.in_ok-text.text.items outcome encrypted in
    false≢true (c.in-Err.ensures.succeeds (subst (λ bytes. IsUtf8 bytes) (sym is) (c.armor_is_text.ensures text)))
