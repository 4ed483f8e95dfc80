-- What comes of making a key, and of telling the recipients of identities.
use Rattle.std.specs.Prelude.{◌≡◌, ◌⊎◌, ℕ, List, Some, None, Result, MatchResult}
use Rattle.age.specs.Draw.{taken}
use Rattle.age.specs.EncryptErrors.{OutOfMemory, ShortRandom, encrypt_refusal}
use Rattle.age.specs.Members.{SuiteMembers, ReadMembers}
use Rattle.age.specs.Types.{EncryptError}
use Rattle.sazh_core.specs.Keygen.{key_file}
use Rattle.sazh_core.specs.OwnRecipients.{AreOfIdentities, RefusesOwnIdentities, recipients_text}
use Rattle.sazh_core.specs.declared.error.IdentitiesError.{IdentitiesError}

-- The text of the key whose secret are the first 32 of the random bytes; or there are fewer, or memory was refused.
abbrev pub MakesKey : (List ℕ → List ℕ) → List ℕ → Result (List ℕ) EncryptError → Type 0
MakesKey public_of given answer = MatchResult answer (λ text. (secret : List ℕ) × (taken 32 given ≡ Some secret) × (text ≡ key_file public_of secret))
    (λ e. (encrypt_refusal e ≡ OutOfMemory) ⊎ ((encrypt_refusal e ≡ ShortRandom) × (taken 32 given ≡ None)))

module _ {S T : Type 0} (text_read : ReadMembers T) (suite : SuiteMembers S) where
  -- A line of each recipient of the identities that a text names, in their order, or why there are none.
  abbrev pub TellsRecipients : List ℕ → Result (List ℕ) IdentitiesError → Type 0
  TellsRecipients text answer = MatchResult answer
      (λ told. (keys : List (List ℕ)) × AreOfIdentities suite.public_of text keys × (told ≡ recipients_text keys))
      (λ e. RefusesOwnIdentities text_read S text e)
