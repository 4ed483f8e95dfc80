-- Files of a passphrase, and the identities that know it.
use Rattle.std.specs.Prelude.{◌≡◌, ◌⊎◌, ℕ, ◌^◌, ◌≤◌, true, false, List, [], ◌∷◌, None, Ok, Err, length}
use Rattle.age_error.specs.Bytes.{AreBytes, AreBytesOf}
use Rattle.age_error.specs.EncryptErrors.{EncryptRefusal, ShortRandom, WorkFactorRefused, OutOfMemory}
use Rattle.age_suite.specs.declared.suite.Suite.{Ghosts}
use Rattle.age_v1.specs.Stanza.{StanzaValue}
use Rattle.age_v1.specs.Recipients.{WrapAnswer}
use Rattle.age_v1.specs.Identities.{UnwrapAnswer, Steady, FirstOf, FirstAnswer, IsFileFor}
use Rattle.age_v1.specs.RecipientType.{no_nonce}
use Rattle.age_v1.specs.Scrypt.{PassphraseRecipient, PassphraseIdentity, stretch_salt, scrypt_stanza, WrapsUnder, UnwrapsUnder}
use Rattle.age_keys.specs.ScryptLaws.{IsMeantFor}
use Rattle.age_v1.specs.Payload.{LastIsNoMiddle, payload_key}
use Rattle.age_v1.specs.Encrypting.{Prepared, Prepares}
use Rattle.age_v1.specs.File.{IsFileOf}

module _ {S : Type 0} (suite : Ghosts S) where
  -- what a recipient of a passphrase answers
  abbrev pub WrapsPassphrase : PassphraseRecipient → List ℕ → List ℕ → WrapAnswer → List ℕ → Type 0
  WrapsPassphrase = WrapsUnder suite.seal_of suite.stretch_of suite.accepts

  -- what an identity of a passphrase answers: it goes stanza by stanza, and stays as it is
  abbrev pub UnwrapsPassphrase : PassphraseIdentity → List StanzaValue → UnwrapAnswer → PassphraseIdentity → Type 0
  UnwrapsPassphrase = FirstOf (Steady (UnwrapsUnder suite.opened suite.stretch_of suite.accepts))

  -- A file under a passphrase holds the recipient's stanza alone, of the file key and a salt, and the suite accepts the work factor.
  pub record HoldsPassphrase (recipient : PassphraseRecipient) (file : Prepared) : Type 0 where
    pub accepted : suite.accepts recipient.factor ≡ true
    pub salt : List ℕ
    pub bytes : AreBytesOf 16 salt
    pub alone : file.stanzas ≡ scrypt_stanza salt recipient.factor
        (suite.seal_of (suite.stretch_of recipient.passphrase (stretch_salt salt) recipient.factor) no_nonce file.file_key) ∷ []

  -- so it is, whatever was drawn
  abbrev pub PassphraseHolds : Type 0
  PassphraseHolds = (recipient : PassphraseRecipient) (draws left : List ℕ) (file : Prepared)
      → Prepares WrapsPassphrase (recipient ∷ []) None draws (Ok file) left → HoldsPassphrase recipient file

  -- Where there is none, random bytes ran out, the suite doesn't accept the work factor, or memory was refused.
  abbrev pub PassphraseRefuses : Type 0
  PassphraseRefuses = (recipient : PassphraseRecipient) (draws left : List ℕ) (refusal : EncryptRefusal)
      → Prepares WrapsPassphrase (recipient ∷ []) None draws (Err refusal) left
      → (refusal ≡ ShortRandom) ⊎ ((refusal ≡ WorkFactorRefused) × (suite.accepts recipient.factor ≡ false)) ⊎ (refusal ≡ OutOfMemory)

  -- A file that was prepared under a passphrase is one for each identity that has the passphrase and takes the work factor.
  abbrev pub PassphraseDecrypts : Type 0
  PassphraseDecrypts =
      (recipient : PassphraseRecipient) (identity : PassphraseIdentity) (draws left : List ℕ) (file : Prepared) (plain text : List ℕ)
      → AreBytes recipient.passphrase → 1 ≤ recipient.factor → recipient.factor ≤ 63 → IsMeantFor recipient identity
      → Prepares WrapsPassphrase (recipient ∷ []) None draws (Ok file) left
      → (is_file : IsFileOf suite.seal_of file.file_key file.stanzas plain text)
      → AreBytes plain → length plain ≤ 2 ^ 60 → LastIsNoMiddle suite.seal_of (payload_key file.file_key is_file.nonce) plain
      → IsFileFor suite.seal_of (FirstAnswer UnwrapsPassphrase (identity ∷ [])) plain text
