use Rattle.std.specs.Prelude.{Ok, refl}
use Rattle.age_stream.specs.contracts.reader.StreamReaderRead.TheImpl.{ghosts}
use Rattle.age_identity.specs.IdentityFile.{entries_of}
use Rattle.age_encrypted.specs.EncryptedIdentity.{protected_of}
use Rattle.age_encrypted.proofs.Opened.{opened_entries}
use Rattle.age_encrypted.proofs.encrypted_identity.EncryptedIdentity.decrypt.Goals as goal

pub returns-in-Ok-clause-entries : goal.returns-in-Ok-clause-entries
returns-in-Ok-clause-entries g c =
    rw (c.with_callbacks.ensures.entries, c.with_callbacks.ensures.callbacks)
    (opened_entries g.S.Suite g.R.Read (ghosts g.row.S g.row.R g.S.Suite g.S.Suite-dict g.R.Read g.R.Read-dict) (λ r. refl) (λ r. refl)
    g.C.Callbacks.gives_passphrase _ (protected_of c.args.self) (Ok (entries_of c.in-Ok.file)) c.open_with.new.callbacks c.in-Ok.ensures)
