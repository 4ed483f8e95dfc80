-- The X25519 recipient type (age-encryption.org/v1, section "The X25519 recipient type"). Under "standard" stands what it asks, in
-- our words. Keys, shares and shared secrets are lists of 32 bytes.
use Rattle.std.specs.Prelude.{Err, List, Ok, Option, Result, Some, [], bytes_eq, codes, if◌then◌else◌, length, option_map, replicate, ℕ, ◌++◌, ◌∷◌, ◌≡◌}
use Rattle.age_error.specs.Bytes.{AreBytesOf}
use Rattle.age_bech32.specs.Bech32.{IsBech32}
use Rattle.age_bech32.specs.Symbols.{lowered}
use Rattle.age_base64.specs.Base64.{columns}
use Rattle.age_error.specs.DecryptErrors.{InvalidHeader}
use Rattle.age_error.specs.EncryptErrors.{EncryptRefusal, ZeroSharedSecret}
use Rattle.age_suite.specs.Mac.{hkdf_of}
use Rattle.age_v1.specs.Encrypting.{After, Ends, WithDrawn}
use Rattle.age_v1.specs.Identities.{UnwrapAnswer}
use Rattle.age_v1.specs.RecipientType.{UnwrapsType, no_nonce}
use Rattle.age_v1.specs.Recipients.{WrapAnswer, Wrapped}
use Rattle.age_v1.specs.Stanza.{StanzaValue}

-- the key that a file key is sealed with
-- standard: HKDF-SHA-256 of the shared secret, with the share and then the recipient as salt and the name of the type as info
abbrev pub wrap_key : List ℕ → List ℕ → List ℕ → List ℕ
wrap_key share recipient shared = hkdf_of (share ++ recipient) (codes "age-encryption.org/v1/X25519") shared

-- the secret that everybody can share: both sides abort at it
-- standard: where the shared secret is all zeros, abort
abbrev pub no_secret : List ℕ
no_secret = replicate 32 0

-- the stanza of a share and of what stands under it
-- standard: the type X25519, one argument, the base64 of the share, and a body of 32 bytes
abbrev pub x25519_stanza : List ℕ → List ℕ → StanzaValue
x25519_stanza share body = record { tag = codes "X25519"; args = columns share ∷ []; body = body }

-- a stanza has what the type asks, with this share
pub record HasShare (share : List ℕ) (s : StanzaValue) : Type 0 where
  pub args : s.args ≡ columns share ∷ []
  pub bytes : AreBytesOf 32 share
  pub body : length s.body ≡ 32

module _ (seal_of : List ℕ → List ℕ → List ℕ → List ℕ) (shared_of : List ℕ → List ℕ → List ℕ) (public_of : List ℕ → List ℕ) where
  -- the file key wrapped for a recipient with an ephemeral secret: one stanza, and no labels
  -- standard: the share is the ephemeral secret's public value
  abbrev pub wrapped_with : List ℕ → List ℕ → List ℕ → Result Wrapped EncryptRefusal
  wrapped_with recipient file_key ephemeral =
      let share = public_of ephemeral in
      let shared = shared_of ephemeral recipient in
      if bytes_eq shared no_secret then Err ZeroSharedSecret
      else Ok (record { stanzas = x25519_stanza share (seal_of (wrap_key share recipient shared) no_nonce file_key) ∷ []; labels = [] })

  -- What is wrapped with an ephemeral secret, or why not: memory can be refused where it wraps. The file key and the secret are
  -- bytes, since nothing else is ever handed in or drawn.
  abbrev pub WrapsWithEphemeral : List ℕ → List ℕ → List ℕ → List ℕ → WrapAnswer → List ℕ → Type 0
  WrapsWithEphemeral recipient file_key ephemeral draws answer left =
      AreBytesOf 16 file_key × AreBytesOf 32 ephemeral
      × After (wrapped_with recipient file_key ephemeral) (λ wrapped. Ends (Ok wrapped)) draws answer left

  -- What a recipient answers: 32 bytes are drawn for the ephemeral secret.
  abbrev pub WrapsFor : List ℕ → List ℕ → List ℕ → WrapAnswer → List ℕ → Type 0
  WrapsFor recipient file_key = WithDrawn 32 (WrapsWithEphemeral recipient file_key)

module _ (opened : List ℕ → List ℕ → List ℕ → Option (List ℕ)) (shared_of : List ℕ → List ℕ → List ℕ) (public_of : List ℕ → List ℕ) where
  -- what the secret of an identity makes of a share and of what stands under it
  abbrev pub opened_with : List ℕ → List ℕ → List ℕ → UnwrapAnswer
  opened_with secret share body =
      let shared = shared_of secret share in
      if bytes_eq shared no_secret then Some (Err InvalidHeader)
      else option_map Ok (opened (wrap_key share (public_of secret) shared) no_nonce body)

  -- What an identity answers to a stanza.
  abbrev pub UnwrapsBy : List ℕ → StanzaValue → UnwrapAnswer → Type 0
  UnwrapsBy secret = UnwrapsType HasShare (opened_with secret) (codes "X25519")

-- standard: a recipient is Bech32 with the prefix `age`, in lower case
abbrev pub recipient_prefix : List ℕ
recipient_prefix = codes "age"

-- standard: an identity is Bech32 with the prefix `AGE-SECRET-KEY-`, in upper case
abbrev pub identity_prefix : List ℕ
identity_prefix = codes "AGE-SECRET-KEY-"

-- a text of a key with this prefix in either case
pub record IsKeyText (prefix text key : List ℕ) : Type 0 where
  pub written : List ℕ
  pub same : lowered written ≡ lowered prefix
  pub reads : IsBech32 text written key
  pub size : length key ≡ 32
