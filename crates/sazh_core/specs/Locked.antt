-- Files of identities that their passphrases don't open.
use Rattle.std.specs.Prelude.{◌≡◌, ◌⊎◌, ⊤, Bool, true, false, List, ◌∷◌, ◌++◌}
use Rattle.std.specs.List.{All}
use Rattle.age.specs.DecryptErrorVariants as decrypt
use Rattle.age.specs.DecryptErrors.{DecryptRefusal, KeyDecryptionFailed}
use Rattle.age.specs.EncryptErrors.{EncryptRefusal, EncryptedIdentities}
use Rattle.age.specs.EncryptedIdentities.{state_of}
use Rattle.age.specs.FileErrorVariants.{Decrypt}
use Rattle.age.specs.ProtectedIdentity.{State, Encrypted, Decrypted, Failed}
use Rattle.age.specs.Types.{FileError}
use Rattle.sazh_core.specs.declared.error.CommandError.{CommandError}
use Rattle.sazh_core.specs.declared.error.CommandError.TheVariants as command
use Rattle.sazh_core.specs.declared.holder.Holder.{Holder}
use Rattle.sazh_core.specs.declared.holder.Holder.TheVariants.{File}

-- the passphrase opens no file
abbrev pub is_wrong : DecryptRefusal → Bool
is_wrong KeyDecryptionFailed = true
is_wrong _ = false

-- so it is where the recipients of a file are refused
abbrev pub tells_wrong : EncryptRefusal → Bool
tells_wrong (EncryptedIdentities refusal) = is_wrong refusal
tells_wrong _ = false

-- nobody has a key
abbrev pub is_for_nobody : FileError → Bool
is_for_nobody (Decrypt decrypt.NoMatchingKeys) = true
is_for_nobody _ = false

-- Whether a file isn't opened by its passphrase. Of one that wasn't tried yet nothing is known.
abbrev pub IsShut : {R C : Type 0} → State R C → Bool → Type 0
IsShut (Encrypted _) locked = ⊤
IsShut (Decrypted _) locked = locked ≡ false
IsShut (Failed refusal _) locked = locked ≡ is_wrong refusal

module _ {S R C : Type 0} where
  -- whether who decrypts is such a file
  abbrev pub IsLocked : Holder S R C → Bool → Type 0
  IsLocked (File identity) locked = IsShut (state_of identity) locked
  IsLocked _ locked = locked ≡ false

  -- whether one of those who decrypt is such a file
  abbrev pub HasLocked : List (Holder S R C) → Bool → Type 0
  HasLocked holders true = (before : List (Holder S R C)) × (it : Holder S R C) × (others : List (Holder S R C))
      × (holders ≡ before ++ it ∷ others) × IsLocked it true
  HasLocked holders false = All (λ it. IsLocked it false) holders

  -- What is told of a refusal: it, but where nobody has a key, and one of those who were asked is such a file, that.
  abbrev pub NamesKeys : List (Holder S R C) → FileError → FileError → Type 0
  NamesKeys asked error told = ((told ≡ error) × (error ≡ Decrypt decrypt.NoMatchingKeys → HasLocked asked false))
      ⊎ ((error ≡ Decrypt decrypt.NoMatchingKeys) × (told ≡ Decrypt decrypt.KeyDecryptionFailed) × HasLocked asked true)

  -- the same of a command that draws random bytes too
  abbrev pub NamesCommand : List (Holder S R C) → CommandError → CommandError → Type 0
  NamesCommand asked error told = ((told ≡ error) × (error ≡ command.File (Decrypt decrypt.NoMatchingKeys) → HasLocked asked false))
      ⊎ ((error ≡ command.File (Decrypt decrypt.NoMatchingKeys)) × (told ≡ command.File (Decrypt decrypt.KeyDecryptionFailed)) × HasLocked asked true)
