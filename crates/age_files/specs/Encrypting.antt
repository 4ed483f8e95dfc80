-- What comes of encrypting a slice with random bytes that are handed in.
use Rattle.std.specs.Prelude.{◌≡◌, ◌⊎◌, ℕ, ◌^◌, ◌<◌, List, [], ◌∷◌, length, Some, None, Result, Ok, Err, MatchResult}
use Rattle.std.specs.Str.{IsUtf8}
use Rattle.std.specs.Str.Lines.{lines}
use Rattle.age.specs.Armor.{text_of}
use Rattle.age.specs.Draw.{taken}
use Rattle.age.specs.EncryptErrors.{EncryptRefusal, OutOfMemory, encrypt_refusal}
use Rattle.age.specs.Encrypting.{Prepared, Prepares}
use Rattle.age.specs.ErrorVariants as io
use Rattle.age.specs.FileErrorVariants as file
use Rattle.age.specs.Payload.{Seal}
use Rattle.age.specs.Scrypt.{PassphraseRecipient}
use Rattle.age.specs.Types.{Format}
use Rattle.age.specs.WholeFiles.{IsWritten}
use Rattle.age.specs.Recipients.{WrapAnswer}
use Rattle.sazh_core.specs.Encrypting.{draws_for_keys, draws_for_passphrase, grease_stanza}
use Rattle.sazh_core.specs.Given.{Answers, WithGiven}
use Rattle.sazh_core.specs.Passphrase as passphrase
use Rattle.sazh_core.specs.Recipients as recipients
use Rattle.sazh_core.specs.declared.error.CommandError.{CommandError}
use Rattle.sazh_core.specs.declared.error.CommandError.TheVariants.{Random, File}
use Rattle.sazh_core.specs.declared.error.GivenError.{GivenError}
use Rattle.sazh_core.specs.declared.error.PassphraseError.{PassphraseError}
use Rattle.sazh_core.specs.declared.error.RandomError.TheVariants as random
use Rattle.sazh_core.specs.declared.error.RecipientsError.{RecipientsError}

module _ {T : Type 0} (wraps : T → List ℕ → List ℕ → WrapAnswer → List ℕ → Type 0) (keys : List T) (count : ℕ) (given : List ℕ) where
  -- With the first so many of the random bytes, taken in their order, a file to these comes to this.
  abbrev pub PreparesOf : Result Prepared EncryptRefusal → Type 0
  PreparesOf outcome = (draws : List ℕ) × (left : List ℕ) × (taken count given ≡ Some draws) × Prepares wraps keys (Some grease_stanza) draws
      outcome left

  -- Why there is no file: fewer random bytes were handed in, the recipients or the random bytes refuse, the plaintext is too long, or memory was
  -- refused.
  abbrev pub WhyNoFile : List ℕ → CommandError → Type 0
  WhyNoFile plain (Random random.NoRandom) = taken count given ≡ None
  WhyNoFile plain (Random random.OutOfMemory) = Unit {0}
  WhyNoFile plain (File (file.Encrypt e)) = (encrypt_refusal e ≡ OutOfMemory) ⊎ PreparesOf (Err (encrypt_refusal e))
  WhyNoFile plain (File (file.Io e)) = (e ≡ io.OutOfMemory) ⊎ ((e ≡ io.TooLong) × (2 ^ 60 < length plain))
  WhyNoFile plain (File (file.Decrypt e)) = ⊥

  -- What was answered is the file of the plaintext in this form, or there is a reason.
  abbrev pub EncryptsBytes : Seal → Format → List ℕ → Result (List ℕ) CommandError → Type 0
  EncryptsBytes seal_of format plain answer =
      MatchResult answer (λ text. (prepared : Prepared) × PreparesOf (Ok prepared) × IsWritten seal_of (text_of format) plain prepared text)
      (WhyNoFile plain)

-- To the recipients that a text names, in their order and to no other.
abbrev pub EncryptsTo : (List ℕ → List ℕ → List ℕ → WrapAnswer → List ℕ → Type 0) → Seal → List ℕ → List ℕ → Format → List ℕ
    → Result (List ℕ) (GivenError RecipientsError CommandError) → Type 0
EncryptsTo wraps seal_of text given format plain answer = WithGiven (λ e. recipients.RefusesRecipientBytes e text) (Unit {0})
    (λ (keys : List (List ℕ)). IsUtf8 text × recipients.AreRecipients (lines text) keys)
    (λ keys done. EncryptsBytes wraps keys (draws_for_keys (length keys)) given seal_of format plain done) (λ _ done told. Answers done told) answer

-- With the passphrase that a text gives, by the work factor 18.
abbrev pub EncryptsUnder : (PassphraseRecipient → List ℕ → List ℕ → WrapAnswer → List ℕ → Type 0) → Seal → List ℕ → List ℕ → Format → List ℕ
    → Result (List ℕ) (GivenError PassphraseError CommandError) → Type 0
EncryptsUnder wraps seal_of text given format plain answer = WithGiven (λ e. passphrase.RefusesPassphrase e text) (Unit {0})
    (λ (secret : List ℕ). secret ≡ passphrase.first_line text)
    (λ secret done. EncryptsBytes wraps (record { passphrase = secret; factor = 18 } ∷ []) draws_for_passphrase given seal_of format plain done)
    (λ _ done told. Answers done told) answer
