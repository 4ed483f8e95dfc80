-- What comes of decrypting a slice with a passphrase.
use Rattle.std.specs.Prelude.{◌≡◌, ℕ, List, [], ◌∷◌, Result}
use Rattle.age.specs.Members.{SuiteMembers, ReadMembers, WriteMembers}
use Rattle.age.specs.Scrypt.{PassphraseIdentity}
use Rattle.age.specs.Stanza.{StanzaValue}
use Rattle.age.specs.Types.{FileError}
use Rattle.age.specs.Identities.{UnwrapAnswer}
use Rattle.age_slices.specs.Decrypting.{DecryptsBytes}
use Rattle.sazh_core.specs.Given.{Answers, WithGiven}
use Rattle.sazh_core.specs.Passphrase.{RefusesPassphrase, first_line}
use Rattle.sazh_core.specs.declared.error.GivenError.{GivenError}
use Rattle.sazh_core.specs.declared.error.PassphraseError.{PassphraseError}

-- who knows a passphrase, meant for the work factor 18, who takes up to 22
abbrev pub knows : List ℕ → PassphraseIdentity
knows passphrase = record { passphrase = passphrase; target = 18; most = 22 }

module _ {S R W : Type 0} (unwraps : PassphraseIdentity → List StanzaValue → UnwrapAnswer → PassphraseIdentity → Type 0) (suite : SuiteMembers S)
    (read : ReadMembers R) (write : WriteMembers W) (items : W → List ℕ) where
  -- With the passphrase that a text gives.
  abbrev pub DecryptsUnder : List ℕ → List ℕ → Result (List ℕ) (GivenError PassphraseError FileError) → Type 0
  DecryptsUnder text file answer = WithGiven (λ e. RefusesPassphrase e text) (Unit {0}) (λ (secret : List ℕ). secret ≡ first_line text)
      (λ secret done. (asked : List PassphraseIdentity) × DecryptsBytes unwraps suite read write items (knows secret ∷ []) asked file done)
      (λ _ done told. Answers done told) answer
