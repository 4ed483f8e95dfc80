-- The identities of a protected file, before and after it is opened. It is opened once, by the first use.
use Rattle.std.specs.Prelude.{◌≡◌, ◌⊎◌, ℕ, Bool, true, false, List, [], map, codes, Option, Some, None, Result, Ok, Err}
use Rattle.age_error.specs.DecryptErrors.{DecryptRefusal, HasText, OutOfMemory}
use Rattle.age_error.specs.EncryptErrors.{EncryptRefusal, EncryptedIdentities, OutOfMemory as no_memory}
use Rattle.age_suite.specs.declared.suite.Suite.{Ghosts as SuiteMembers}
use Rattle.age_io.specs.declared.traits.Read.{Ghosts as ReadMembers}
use Rattle.age_v1.specs.Stanza.{StanzaValue}
use Rattle.age_v1.specs.Identities.{UnwrapAnswer}
use Rattle.age_v1.specs.X25519.{UnwrapsBy}
use Rattle.age_stream.specs.declared.reader.StreamReader.{StreamReader}
use Rattle.age_identity.specs.Asking.{EntriesAnswer}
use Rattle.age_identity.specs.Entries.{Entry}
use Rattle.age_identity.specs.Converting.{native_secrets, plugin_names, RefusesRecipients}
use Rattle.age_encrypted.specs.Protected.{Protected, Opened, Opens, opened_by_asking}

-- A file that isn't opened yet, one that is, or why it isn't to be opened, and who was asked.
pub data State (R C : Type 0) : Type 0 where
  Encrypted : Protected R C → State R C
  Decrypted : Opened C → State R C
  Failed : DecryptRefusal → C → State R C

-- nothing was tried yet
abbrev pub is_encrypted : {R C : Type 0} → State R C → Bool
is_encrypted (Encrypted _) = true
is_encrypted (Decrypted _) = false
is_encrypted (Failed _ _) = false

-- what opening comes to is what stays, with those who were asked
abbrev pub state_after : {R C : Type 0} → Result (List Entry) DecryptRefusal → C → State R C
state_after (Ok entries) callbacks = Decrypted (opened_by_asking callbacks entries)
state_after (Err refusal) callbacks = Failed refusal callbacks

-- what a user is told in the use that opened the file, if no identity in it answered
abbrev pub no_key_matches : List ℕ
no_key_matches = codes "no key of the encrypted identity matches"

-- a refusal is repeated; where a copy of it takes memory, that may be refused
abbrev pub Repeats : {A : Type 0} → (DecryptRefusal → A) → A → DecryptRefusal → A → Type 0
Repeats error memory refusal repeated = (repeated ≡ error refusal) ⊎ (HasText refusal × (repeated ≡ memory))

-- what recipients the file has, once it was tried to open it
abbrev pub GivesRecipients : {R C : Type 0} → (List ℕ → List ℕ) → State R C → Result (List (List ℕ)) EncryptRefusal → Type 0
GivesRecipients public_of (Encrypted _) answer = ⊥
GivesRecipients public_of (Decrypted opened) (Ok recipients) =
    (plugin_names opened.entries ≡ []) × (recipients ≡ map (λ secret. public_of secret) (native_secrets opened.entries))
GivesRecipients public_of (Decrypted opened) (Err refusal) = RefusesRecipients opened.entries refusal
GivesRecipients public_of (Failed refusal callbacks) answer = Repeats (λ e. Err (EncryptedIdentities e)) (Err no_memory) refusal answer

-- a user is told that no identity answered, in the use that opened the file
abbrev pub Shows : {C : Type 0} → (C → List ℕ → C → Type 0) → Bool → UnwrapAnswer → C → C → Type 0
Shows displays true None before after = displays before no_key_matches after
Shows displays _ _ before after = after ≡ before

module _ {S R : Type 0} (suite : SuiteMembers S) {read : ReadMembers R} (stream_read : ReadMembers (StreamReader S R suite read))
    {C : Type 0} (gives : C → List ℕ → Option (List ℕ) → C → Type 0) (filename : Option (List ℕ)) where
  -- The first use opens the file, and those who were asked stay, whether it opened or not. One that was opened, or that failed, stays as it
  -- is, and so do they: nobody is asked again.
  abbrev pub OpensOnce : State R C → State R C → Type 0
  OpensOnce (Encrypted file) after = (outcome : Result (List Entry) DecryptRefusal) × (asked : C)
      × Opens suite stream_read gives filename file outcome asked × (after ≡ state_after outcome asked)
  OpensOnce (Decrypted opened) after = after ≡ Decrypted opened
  OpensOnce (Failed refusal callbacks) after = after ≡ Failed refusal callbacks

  module _ (displays : C → List ℕ → C → Type 0) where
    -- what the file answers once it was tried to open it
    abbrev pub AnswersOpened : Bool → State R C → List StanzaValue → UnwrapAnswer → State R C → Type 0
    AnswersOpened first (Encrypted _) stanzas answer after = ⊥
    AnswersOpened first (Decrypted opened) stanzas answer after =
        EntriesAnswer (UnwrapsBy suite.opened suite.shared_of suite.public_of) opened.entries stanzas answer
        × ((shown : C) × Shows displays first answer opened.callbacks shown × (after ≡ Decrypted (opened_by_asking shown opened.entries)))
    AnswersOpened first (Failed refusal callbacks) stanzas answer after =
        Repeats (λ e. Some (Err e)) (Some (Err OutOfMemory)) refusal answer × (after ≡ Failed refusal callbacks)

    -- What a use answers to stanzas: the file is opened unless it was, and then its identities are asked.
    abbrev pub Uses : State R C → List StanzaValue → UnwrapAnswer → State R C → Type 0
    Uses before stanzas answer after = (opened : State R C) × OpensOnce before opened
        × AnswersOpened (is_encrypted before) opened stanzas answer after
