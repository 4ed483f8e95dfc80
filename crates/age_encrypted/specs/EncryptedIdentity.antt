-- What a caller sees of an encrypted file of identities.
use Rattle.std.specs.Prelude.{ℕ, Option, Result, Ok, Err}
use Rattle.age_identity.specs.IdentityFile.{callbacks_of}
use Rattle.age_identity.specs.declared.identity.IdentityFile.{IdentityFile}
use Rattle.age_protocol.specs.Decryptor.{header_of, nonce_of, input_of}
use Rattle.age_protocol.specs.declared.decryptor.Decryptor.{Decryptor}
use Rattle.age_encrypted.specs.Protected.{Protected, most_of}
use Rattle.age_encrypted.specs.declared.encrypted_identity.EncryptedIdentity.{EncryptedIdentity}
use Rattle.age_encrypted.specs.declared.encrypted_identity.Front.{Front}
use Rattle.age_encrypted.specs.declared.encrypted_identity.NotOpened.{NotOpened}

-- the file whose front a decryptor has read, with who is asked for its passphrase
abbrev pub file_of : {S R C : Type 0} → Decryptor S R → C → ℕ → Option ℕ → Protected R C
file_of d callbacks target most = record {
  header = header_of d;
  nonce = nonce_of d;
  input = input_of d;
  callbacks = callbacks;
  target = target;
  most = most_of target most;
}

-- the file of a front, with who is asked for its passphrase
abbrev pub file_asked_by : {S R C : Type 0} → Front S R → C → Protected R C
file_asked_by front callbacks = file_of front.decryptor callbacks front.target front.max_work_factor

-- the file that it stands for
abbrev pub protected_of : {S R C : Type 0} → EncryptedIdentity S R C → Protected R C
protected_of e = file_asked_by e.front e.callbacks

-- those who were asked, whether the file opened or not
abbrev pub callbacks_left : {S C : Type 0} → Result (IdentityFile S C) (NotOpened C) → C
callbacks_left (Ok file) = callbacks_of file
callbacks_left (Err refused) = refused.callbacks
