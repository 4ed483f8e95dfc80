use Rattle.std.specs.Prelude.{Ok, Err, refl}
use Rattle.std.proofs.Common.{◌∙◌}
use Rattle.age_error.specs.DecryptErrors.{decrypt_of_io}
use Rattle.age_identity.specs.IdentityFile.{entries_of}
use Rattle.age_encrypted.specs.EncryptedIdentity.{file_asked_by}
use Rattle.age_encrypted.proofs.Opened.{holds, holds_none, given_opens, given_refuses}
use Rattle.age_encrypted.proofs.encrypted_identity.Front.open_with.Goals as goal

pub returns-in_err-stream : goal.returns-in_err-stream
returns-in_err-stream g c =
    let e = c.in_err-stream.field-0.0 in
    given_refuses g.S.Suite g.R.Read _ g.C.Callbacks.gives_passphrase _
    (file_asked_by c.args.self c.args.callbacks.now) c.as_str.result.now c.in-Some.passphrase
    c.request_passphrase.new.self
    (c.as_str.ensures.value ∙ c.in_ok-description.ensures) c.in-Some.ensures c.identity_of-identity.result c.identity_of-identity.ensures
    (Err e) c.in_err-stream.ensures _ c.from_residual-in_err-stream.result e c.from_residual-in_err-stream.ensures.1 refl

pub returns-in_err-file : goal.returns-in_err-file
returns-in_err-file g c =
    let e = c.in_err-file.field-0.0 in
    given_refuses g.S.Suite g.R.Read _ g.C.Callbacks.gives_passphrase _
    (file_asked_by c.args.self c.args.callbacks.now) c.as_str.result.now c.in-Some.passphrase
    c.request_passphrase.new.self
    (c.as_str.ensures.value ∙ c.in_ok-description.ensures) c.in-Some.ensures c.identity_of-identity.result c.identity_of-identity.ensures
    (Ok c.in_ok-stream.stream) c.in_ok-stream.ensures _ c.from_residual-in_err-file.result (decrypt_of_io e) c.from_residual-in_err-file.ensures.1
    (holds_none g.S.Suite g.R.Read _ (λ file. entries_of file) c.in_ok-stream.stream e c.in_err-file.ensures.reads)

pub returns : goal.returns
returns g c =
    given_opens g.S.Suite g.R.Read _ g.C.Callbacks.gives_passphrase _
    (file_asked_by c.args.self c.args.callbacks.now) c.as_str.result.now c.in-Some.passphrase
    c.request_passphrase.new.self
    (c.as_str.ensures.value ∙ c.in_ok-description.ensures) c.in-Some.ensures c.identity_of-identity.result c.identity_of-identity.ensures
    (Ok c.in_ok-stream.stream) c.in_ok-stream.ensures (Ok (entries_of c.in_ok-file.file))
    (holds g.S.Suite g.R.Read _ (λ file. entries_of file) c.in_ok-stream.stream c.in_ok-file.file c.in_ok-file.ensures.reads)
