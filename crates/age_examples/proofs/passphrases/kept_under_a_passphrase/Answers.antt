use Rattle.std.proofs.Common.{◌∙◌, ℕ, List, subst, sym}
use Rattle.age.specs.Bytes.{AreBytes}
use Rattle.age.specs.Armor.{Carries}
use Rattle.age.specs.File.{file_text}
use Rattle.age.specs.ErrorLemmas.{of_error}
use Rattle.age_examples.proofs.passphrases.kept_under_a_passphrase.Goals as goal

pub returns-clause-plaintext : goal.returns-clause-plaintext
returns-clause-plaintext g c = λ meant apart.
    let whole = c.in_ok-file.ensures.made in
    let prepared = c.in_ok-encryptor.encryptor in
    let text = file_text g.S.Suite.seal_of prepared.file_key prepared.stanzas prepared.nonce c.args.plain.now in
    let typed : AreBytes c.args.passphrase = subst AreBytes (c.as_bytes.ensures.value ∙ c.expose_secret.ensures) c.known_bytes.ensures in
    let for = c.passphrase_files.ensures.opens _ c.args.identity.now c.args.draw.now _ c.in_ok-encryptor.encryptor c.args.plain.now _
    typed c.requires.some c.requires.most meant c.in_ok-encryptor.ensures whole.is_file whole.bytes whole.within
    (apart _ c.in_ok-encryptor.ensures whole.is_file) in
    c.in-Ok.ensures.honest _ c.args.plain.now (subst (λ (l : List ℕ). Carries l text) (sym c.deref.ensures.value) whole.carries) for

pub returns-in-Err-clause-refused : goal.returns-in-Err-clause-refused
returns-in-Err-clause-refused g c = λ meant apart.
    let whole = c.in_ok-file.ensures.made in
    let prepared = c.in_ok-encryptor.encryptor in
    let text = file_text g.S.Suite.seal_of prepared.file_key prepared.stanzas prepared.nonce c.args.plain.now in
    let typed : AreBytes c.args.passphrase = subst AreBytes (c.as_bytes.ensures.value ∙ c.expose_secret.ensures) c.known_bytes.ensures in
    let for = c.passphrase_files.ensures.opens _ c.args.identity.now c.args.draw.now _ c.in_ok-encryptor.encryptor c.args.plain.now _
    typed c.requires.some c.requires.most meant c.in_ok-encryptor.ensures whole.is_file whole.bytes whole.within
    (apart _ c.in_ok-encryptor.ensures whole.is_file) in
    c.in-Err.ensures.honest _ c.args.plain.now (subst (λ (l : List ℕ). Carries l text) (sym c.deref.ensures.value) whole.carries) for

pub returns-in_err-encryptor-clause-refused : goal.returns-in_err-encryptor-clause-refused
returns-in_err-encryptor-clause-refused g c = λ meant apart. of_error _ _ _ c.from_residual.ensures.1 c.in_err-encryptor.ensures

pub returns-in_err-file-clause-refused : goal.returns-in_err-file-clause-refused
returns-in_err-file-clause-refused g c = λ meant apart. of_error _ _ _ c.from_residual-in_err-file.ensures.1 c.in_err-file.ensures.refused
