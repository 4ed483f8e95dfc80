-- What the front of a file tells of its payload by a passphrase.
use Rattle.std.specs.Prelude.{◌≡◌, ℕ, List, [], ◌∷◌, Option, Result}
use Rattle.age.specs.Scrypt.{PassphraseIdentity}
use Rattle.age.specs.Stanza.{StanzaValue}
use Rattle.age.specs.Types.{DecryptError}
use Rattle.age.specs.Identities.{UnwrapAnswer}
use Rattle.age_files.specs.Decrypting.{knows}
use Rattle.age_slices.specs.Opening.{OpensHeader}
use Rattle.age_slices.specs.declared.opening.PayloadAt.{PayloadAt}
use Rattle.sazh_core.specs.Given.{Answers, WithGiven}
use Rattle.sazh_core.specs.Passphrase.{RefusesPassphrase, first_line}
use Rattle.sazh_core.specs.declared.error.GivenError.{GivenError}
use Rattle.sazh_core.specs.declared.error.PassphraseError.{PassphraseError}

-- With the passphrase that a text gives.
abbrev pub OpensHeaderUnder : (PassphraseIdentity → List StanzaValue → UnwrapAnswer → PassphraseIdentity → Type 0) → List ℕ → List ℕ
    → Result (Option PayloadAt) (GivenError PassphraseError DecryptError) → Type 0
OpensHeaderUnder unwraps text front answer = WithGiven (λ e. RefusesPassphrase e text) (Unit {0}) (λ (secret : List ℕ). secret ≡ first_line text)
    (λ secret done. (asked : List PassphraseIdentity) × OpensHeader unwraps (knows secret ∷ []) asked front done)
    (λ _ done told. Answers done told) answer
