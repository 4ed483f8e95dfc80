-- What an X25519 recipient wraps its identity unwraps, and what an identity passes over.
use Rattle.std.specs.Prelude.{◌≡◌, ◌⊎◌, ℕ, Bool, List, [], ◌∷◌, Option, None, Some, Ok, Err, bytes_eq, codes, not}
use Rattle.age_error.specs.Bytes.{AreBytesOf}
use Rattle.age_error.specs.DecryptErrors.{OutOfMemory}
use Rattle.age_v1.specs.Stanza.{StanzaValue}
use Rattle.age_v1.specs.Recipients.{Wrapped}
use Rattle.age_v1.specs.Identities.{UnwrapAnswer}
use Rattle.age_v1.specs.X25519.{HasShare, WrapsFor, opened_with, UnwrapsBy}

-- a stanza of another type
abbrev pub has_other_tag : StanzaValue → Bool
has_other_tag stanza = not (bytes_eq stanza.tag (codes "X25519"))

module _ (opened : List ℕ → List ℕ → List ℕ → Option (List ℕ)) (shared_of : List ℕ → List ℕ → List ℕ) (public_of : List ℕ → List ℕ) where
  -- the identity of a secret passes over the stanza, unless memory is refused
  abbrev pub IsPassedOver : List ℕ → StanzaValue → Type 0
  IsPassedOver secret stanza = (answer : UnwrapAnswer) → UnwrapsBy opened shared_of public_of secret stanza answer
      → (answer ≡ None) ⊎ (answer ≡ Some (Err OutOfMemory))

  -- it does so where the stanza has what the type asks, and the secret doesn't open its body
  abbrev pub PassesUnopened : List ℕ → Type 0
  PassesUnopened secret = (stanza : StanzaValue) (share : List ℕ) → stanza.tag ≡ codes "X25519" → HasShare share stanza
      → opened_with opened shared_of public_of secret share stanza.body ≡ None → IsPassedOver secret stanza

module _ (seal_of : List ℕ → List ℕ → List ℕ → List ℕ) (opened : List ℕ → List ℕ → List ℕ → Option (List ℕ)) (shared_of : List ℕ → List ℕ → List ℕ)
    (public_of : List ℕ → List ℕ) where
  -- it is one stanza without labels, to which the identity answers the file key, unless memory is refused
  pub record IsFor (secret file_key : List ℕ) (wrapped : Wrapped) : Type 0 where
    pub stanza : StanzaValue
    pub one : wrapped.stanzas ≡ stanza ∷ []
    pub no_labels : wrapped.labels ≡ []
    pub unwraps : (answer : UnwrapAnswer) → UnwrapsBy opened shared_of public_of secret stanza answer
        → (answer ≡ Some (Ok file_key)) ⊎ (answer ≡ Some (Err OutOfMemory))

  -- so it is of whatever the recipient of a secret of 32 bytes wraps, whatever is drawn
  abbrev pub UnwrapsWhatItWraps : Type 0
  UnwrapsWhatItWraps = (secret file_key draws left : List ℕ) (wrapped : Wrapped) → AreBytesOf 32 secret
      → WrapsFor seal_of shared_of public_of (public_of secret) file_key draws (Ok wrapped) left → IsFor secret file_key wrapped
