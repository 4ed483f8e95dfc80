-- What a caller sees of a protected identity.
use Rattle.std.specs.Prelude.{◌≡◌, ℕ, List, Option, MatchOption, MatchResult, IsErrAnd, Result, Ok, Err, string_bytes}
use Rattle.std.specs.Option.{option_map}
use Rattle.age_error.specs.DecryptErrors.{decrypt_refusal}
use Rattle.age_error.specs.declared.decrypt.DecryptError.{DecryptError}
use Rattle.age_format.specs.HeaderV1.{IsScrypt}
use Rattle.age_identity.specs.IdentityFile.{entries_of}
use Rattle.age_protocol.specs.Decryptor.{header_of}
use Rattle.age_protocol.specs.declared.decryptor.Decryptor.{Decryptor}
use Rattle.age_encrypted.specs.EncryptedIdentity.{file_asked_by, file_of}
use Rattle.age_encrypted.specs.Protected.{opened_by_asking}
use Rattle.age_encrypted.specs.ProtectedIdentity.{State, Encrypted, Decrypted, Failed}
use Rattle.age_encrypted.specs.declared.identity.IdentityState.{IdentityState}
use Rattle.age_encrypted.specs.declared.identity.IdentityState.TheVariants as own
use Rattle.age_encrypted.specs.declared.identity.Identity.{Identity}

module _ {S R C : Type 0} where
  -- what became of a file, apart from where it lies in memory, with who is asked or was
  abbrev pub of_state : IdentityState S R → C → State R C
  of_state (own.Encrypted front) callbacks = Encrypted (file_asked_by front callbacks)
  of_state (own.Decrypted file) callbacks = Decrypted (opened_by_asking callbacks (entries_of file))
  of_state (own.Failed e) callbacks = Failed (decrypt_refusal e) callbacks

  -- what became of the file of an identity
  abbrev pub state_of : Identity S R C → State R C
  state_of identity = of_state identity.state identity.callbacks

  -- the file's name, if it has one
  abbrev pub filename_of : Identity S R C → Option (List ℕ)
  filename_of identity = option_map (λ text. string_bytes text) identity.filename

  -- What a decryptor that was made of the front of a file is as a protected identity: none where the file isn't one of a passphrase.
  abbrev pub IsMadeOf : Result (Decryptor S R) DecryptError → Option (List ℕ) → C → ℕ → Option ℕ → Result (Option (Identity S R C)) DecryptError
      → Type 0
  IsMadeOf (Err e) filename callbacks target most result = IsErrAnd result (λ own. own ≡ e)
  IsMadeOf (Ok d) filename callbacks target most result = MatchResult result
      (λ made. MatchOption made (IsScrypt (header_of d).stanzas → ⊥) (λ identity. IsScrypt (header_of d).stanzas
      × (state_of identity ≡ Encrypted (file_of d callbacks target most)) × (filename_of identity ≡ filename)))
      (λ _. ⊥)
