-- Stanzas of the scrypt recipient type: age-encryption.org/v1, section "The scrypt recipient type". Under "standard" stands what it asks,
-- in our words.
use Rattle.std.specs.Prelude.{Bool, Err, List, None, Ok, Option, Result, Some, [], codes, if◌then◌else◌, length, nat_le, ℕ, ◌&&◌, ◌++◌, ◌<◌, ◌^◌, ◌∷◌, ◌≡◌, ◌≤◌}
use Rattle.std.specs.Fmt.{decimal}
use Rattle.age_error.specs.Bytes.{AreBytesOf}
use Rattle.age_error.specs.EncryptErrors.{EncryptRefusal, WorkFactorRefused}
use Rattle.age_error.specs.DecryptErrors.{DecryptRefusal, DecryptionFailed, ExcessiveWork}
use Rattle.age_base64.specs.Base64.{columns}
use Rattle.age_v1.specs.Stanza.{StanzaValue}
use Rattle.age_v1.specs.Recipients.{WrapAnswer, Wrapped}
use Rattle.age_v1.specs.Identities.{UnwrapAnswer}
use Rattle.age_v1.specs.Encrypting.{After, Ends, WithDrawn}
use Rattle.age_v1.specs.RecipientType.{UnwrapsType, no_nonce}

-- one who encrypts with a passphrase: its bytes, and the work factor, a logarithm to base 2
pub record PassphraseRecipient : Type 0 where
  pub passphrase : List ℕ
  pub factor : ℕ

-- one who decrypts with it: the work factor that it is meant for, and the largest one that it takes
pub record PassphraseIdentity : Type 0 where
  pub passphrase : List ℕ
  pub target : ℕ
  pub most : ℕ

-- what a passphrase is stretched with, of the salt in a stanza
-- standard: the salt of scrypt is the name of the type and then the 16 bytes of the stanza
abbrev pub stretch_salt : List ℕ → List ℕ
stretch_salt salt = codes "age-encryption.org/v1/scrypt" ++ salt

-- the stanza of a salt, a work factor and of what stands under them
-- standard: the type scrypt, two arguments, the base64 of the salt and the work factor in decimal, and a body of 32 bytes
abbrev pub scrypt_stanza : List ℕ → ℕ → List ℕ → StanzaValue
scrypt_stanza salt factor body = record { tag = codes "scrypt"; args = columns salt ∷ decimal factor ∷ []; body = body }

-- the salt and the work factor of a stanza
pub record Stretching : Type 0 where
  pub salt : List ℕ
  pub factor : ℕ

-- a stanza has what the type asks, with this salt and this work factor
-- standard: the decimal of the work factor has no leading zero
pub record HasStretching (with_ : Stretching) (s : StanzaValue) : Type 0 where
  pub args : s.args ≡ columns with_.salt ∷ decimal with_.factor ∷ []
  pub bytes : AreBytesOf 16 with_.salt
  pub some : 1 ≤ with_.factor
  pub fits : with_.factor < 2 ^ 8
  pub body : length s.body ≡ 32

module _ (seal_of : List ℕ → List ℕ → List ℕ → List ℕ) (stretch_of : List ℕ → List ℕ → ℕ → List ℕ) (accepts : ℕ → Bool) where
  -- The file key wrapped under a passphrase with a salt: one stanza. The label is of no other recipient, so that none may have the file too.
  -- standard: the wrap key is the passphrase stretched with the salt
  abbrev pub wrapped_under : PassphraseRecipient → List ℕ → List ℕ → List ℕ → Result Wrapped EncryptRefusal
  wrapped_under recipient file_key salt label =
      if accepts recipient.factor then
      Ok (record {
        stanzas = scrypt_stanza salt recipient.factor
            (seal_of (stretch_of recipient.passphrase (stretch_salt salt) recipient.factor) no_nonce file_key) ∷ [];
        labels = columns label ∷ [];
      })
      else Err WorkFactorRefused

  -- What is wrapped with a salt and a label, or why not: memory can be refused where it wraps. All of them are bytes, since nothing else is
  -- ever handed in or drawn.
  abbrev pub WrapsWithSalt : PassphraseRecipient → List ℕ → List ℕ → List ℕ → List ℕ → WrapAnswer → List ℕ → Type 0
  WrapsWithSalt recipient file_key salt label draws answer left =
      AreBytesOf 16 file_key × AreBytesOf 16 salt × AreBytesOf 24 label
      × After (wrapped_under recipient file_key salt label) (λ wrapped. Ends (Ok wrapped)) draws answer left

  -- What a recipient answers: 16 bytes are drawn for the salt, and then 24 for the label.
  abbrev pub WrapsUnder : PassphraseRecipient → List ℕ → List ℕ → WrapAnswer → List ℕ → Type 0
  WrapsUnder recipient file_key = WithDrawn 16 (λ salt. WithDrawn 24 (λ label. WrapsWithSalt recipient file_key salt label))

-- what is found under a passphrase
abbrev pub found_under : Option (List ℕ) → Result (List ℕ) DecryptRefusal
found_under None = Err DecryptionFailed
found_under (Some file_key) = Ok file_key

module _ (opened : List ℕ → List ℕ → List ℕ → Option (List ℕ)) (stretch_of : List ℕ → List ℕ → ℕ → List ℕ) (accepts : ℕ → Bool) where
  -- What the passphrase of an identity makes of a salt, a work factor and of what stands under them: too large a factor, or one that the
  -- suite doesn't accept, is refused.
  -- standard: a bound on the work factor keeps strangers from making the reader work
  abbrev pub key_under : PassphraseIdentity → Stretching → List ℕ → Result (List ℕ) DecryptRefusal
  key_under identity with_ body =
      if nat_le with_.factor identity.most && accepts with_.factor then
      found_under (opened (stretch_of identity.passphrase (stretch_salt with_.salt) with_.factor) no_nonce body)
      else Err (ExcessiveWork with_.factor identity.target)

  -- what an identity answers to a stanza
  abbrev pub UnwrapsUnder : PassphraseIdentity → StanzaValue → UnwrapAnswer → Type 0
  UnwrapsUnder identity = UnwrapsType HasStretching (λ with_ body. Some (key_under identity with_ body)) (codes "scrypt")
