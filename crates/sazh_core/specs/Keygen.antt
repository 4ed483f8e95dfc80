-- The file of a key.
use Rattle.std.specs.Prelude.{◌≡◌, ◌⊎◌, ℕ, List, [], ◌∷◌, ◌++◌, codes, Option, Result, IsTrue, OnOk, IfErr}
use Rattle.age.specs.Bech32Written.{bech32_text}
use Rattle.age.specs.Copying.{AppendsFront}
use Rattle.age.specs.EncryptErrors.{OutOfMemory}
use Rattle.age.specs.FileErrors.{IfIo, IsEncryptError, EncryptsUnless}
use Rattle.age.specs.X25519.{identity_prefix, recipient_prefix}
use Rattle.age.specs.Members.{WriteMembers}
use Rattle.age.specs.Writing.{HandsOn}
use Rattle.sazh_core.specs.Random.{GaveRandom, GaveNone}
use Rattle.sazh_core.specs.Encrypting.{IfRandom, IfFile}
use Rattle.sazh_core.specs.declared.error.CommandError.{CommandError}

-- a line with the recipient of a secret, and one with the secret's text; each ends with LF
unfoldable pub key_file : (List ℕ → List ℕ) → List ℕ → List ℕ
key_file public_of secret =
    codes "# public key: " ++ bech32_text recipient_prefix (public_of secret) ++ 10 ∷ bech32_text identity_prefix secret ++ 10 ∷ []

-- What writing the file of a new key comes to.
pub record WritesKey {B W T : Type 0} (public_of : List ℕ → List ℕ) (gives : B → ℕ → Option (List ℕ) → B → Type 0) (write : WriteMembers W)
    (before after : B) (old new : W) (result : Result T CommandError) : Type 0 where
  -- A success says that the file of the next 32 random bytes was appended.
  pub key : IsTrue (write.tells old) → OnOk result
      ((secret : List ℕ) × GaveRandom gives before 32 after secret × write.appended old (key_file public_of secret) new)
  -- Whatever it answers, what was appended is a beginning of it.
  pub front : IsTrue (write.tells old) → (new ≡ old)
      ⊎ ((secret : List ℕ) × GaveRandom gives before 32 after secret × AppendsFront write.appended (key_file public_of secret) old new)
  -- Without random bytes, and where memory for the text is refused, nothing was written.
  pub random : IfErr result (IfRandom (λ e. GaveNone gives before 32 after e × (new ≡ old)))
  pub refused : IfErr result (IfFile (λ e. IsEncryptError e → new ≡ old))
  pub why : IfErr result (IfFile (EncryptsUnless (λ refusal. refusal ≡ OutOfMemory)))
  -- Any other refusal is one of the writer.
  pub io : IfErr result (IfFile (IfIo (HandsOn write.refuses old)))
