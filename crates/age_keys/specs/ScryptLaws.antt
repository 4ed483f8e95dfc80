-- What a recipient of a passphrase wraps an identity of it unwraps, and what one of another passphrase answers.
use Rattle.std.specs.Prelude.{◌≡◌, ◌⊎◌, ◌≤◌, ℕ, Bool, true, List, Option, None, Some, Err, bytes_eq, codes, not}
use Rattle.age_error.specs.DecryptErrors.{DecryptionFailed, OutOfMemory}
use Rattle.age_v1.specs.Stanza.{StanzaValue}
use Rattle.age_v1.specs.Identities.{UnwrapAnswer}
use Rattle.age_v1.specs.RecipientType.{no_nonce}
use Rattle.age_v1.specs.Scrypt.{PassphraseRecipient, PassphraseIdentity, Stretching, HasStretching, stretch_salt, UnwrapsUnder}

-- a stanza of another type
abbrev pub has_other_tag : StanzaValue → Bool
has_other_tag stanza = not (bytes_eq stanza.tag (codes "scrypt"))

-- an identity has the passphrase of a recipient, and takes its work factor
pub record IsMeantFor (recipient : PassphraseRecipient) (identity : PassphraseIdentity) : Type 0 where
  pub same : identity.passphrase ≡ recipient.passphrase
  pub most : recipient.factor ≤ identity.most

module _ (opened : List ℕ → List ℕ → List ℕ → Option (List ℕ)) (stretch_of : List ℕ → List ℕ → ℕ → List ℕ) (accepts : ℕ → Bool) where
  -- to a stanza that has what the type asks, with a work factor that identity and suite take, and whose body doesn't open under the
  -- identity's passphrase, it answers `DecryptionFailed`, unless memory is refused
  abbrev pub RefusesUnopened : PassphraseIdentity → Type 0
  RefusesUnopened identity = (stanza : StanzaValue) (with_ : Stretching) → stanza.tag ≡ codes "scrypt" → HasStretching with_ stanza
      → with_.factor ≤ identity.most → accepts with_.factor ≡ true
      → opened (stretch_of identity.passphrase (stretch_salt with_.salt) with_.factor) no_nonce stanza.body ≡ None
      → (answer : UnwrapAnswer) → UnwrapsUnder opened stretch_of accepts identity stanza answer
      → (answer ≡ Some (Err DecryptionFailed)) ⊎ (answer ≡ Some (Err OutOfMemory))
