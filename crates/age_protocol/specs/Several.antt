-- Files for several recipients, and the identities that belong to one of them.
use Rattle.std.specs.Prelude.{◌≡◌, ◌⊎◌, ℕ, ◌^◌, ◌≤◌, Bool, true, false, List, [], ◌∷◌, ◌++◌, Option, None, Some, Ok, Err, All, IsTrue, length}
use Rattle.std.specs.List.{AllZip}
use Rattle.age_error.specs.Bytes.{AreBytes}
use Rattle.age_error.specs.DecryptErrors.{OutOfMemory}
use Rattle.age_v1.specs.Stanza.{StanzaValue}
use Rattle.age_v1.specs.Recipients.{WrapAnswer, Wrapped, has_scrypt}
use Rattle.age_v1.specs.Identities.{UnwrapAnswer, Unwraps, FirstAnswer, IsFileFor}
use Rattle.age_v1.specs.Belonging.{MayWrap, BelongsTo}
use Rattle.age_v1.specs.Payload.{Seal, LastIsNoMiddle, payload_key}
use Rattle.age_v1.specs.Encrypting.{Prepared, Prepares}
use Rattle.age_v1.specs.File.{IsFileOf}

-- the stanzas of several answers, in their order
abbrev pub stanzas_of : List Wrapped → List StanzaValue
stanzas_of [] = []
stanzas_of (answer ∷ answers) = answer.stanzas ++ stanzas_of answers

-- the grease, where there is one and no stanza is one of a passphrase
abbrev pub grease_beside : Bool → Option StanzaValue → List StanzaValue
grease_beside true grease = []
grease_beside false None = []
grease_beside false (Some grease) = grease ∷ []

-- A file is one for each identity that answers its file key to its stanzas, unless memory is refused.
abbrev pub OneDecrypts : {I : Type 0} → (I → List StanzaValue → UnwrapAnswer → I → Type 0) → Seal → Type 0
OneDecrypts {I} unwraps seal_of =
    (identity : I) (file_key : List ℕ) (stanzas : List StanzaValue) (plain text : List ℕ)
    → ((answer : UnwrapAnswer) (after : I) → Unwraps unwraps identity stanzas answer after
    → (answer ≡ Some (Ok file_key)) ⊎ (answer ≡ Some (Err OutOfMemory)))
    → (is_file : IsFileOf seal_of file_key stanzas plain text)
    → AreBytes plain → length plain ≤ 2 ^ 60 → LastIsNoMiddle seal_of (payload_key file_key is_file.nonce) plain
    → IsFileFor seal_of (FirstAnswer unwraps (identity ∷ [])) plain text

module _ {R : Type 0} (wraps : R → List ℕ → List ℕ → WrapAnswer → List ℕ → Type 0) where
  -- A file's stanzas are those that the recipients wrapped its file key in, in their order, and then the grease.
  pub record HoldsAnswers (recipients : List R) (grease : Option StanzaValue) (file : Prepared) : Type 0 where
    pub sixteen : length file.file_key ≡ 16
    pub answers : List Wrapped
    pub each : AllZip (MayWrap wraps file.file_key) recipients answers
    pub in_order : file.stanzas ≡ stanzas_of answers ++ grease_beside (has_scrypt (stanzas_of answers)) grease

  -- so it is, whatever was drawn
  abbrev pub HoldAnswers : Type 0
  HoldAnswers = (recipients : List R) (grease : Option StanzaValue) (draws left : List ℕ) (file : Prepared)
      → Prepares wraps recipients grease draws (Ok file) left → HoldsAnswers recipients grease file

  -- all stanzas that the recipient wraps a file key in are strange
  abbrev pub WrapsStrange : (StanzaValue → Bool) → R → Type 0
  WrapsStrange is_strange recipient =
      (file_key : List ℕ) (wrapped : Wrapped) → length file_key ≡ 16 → MayWrap wraps file_key recipient wrapped
      → All (λ s. IsTrue (is_strange s)) wrapped.stanzas

  module _ {I : Type 0} (unwraps : I → List StanzaValue → UnwrapAnswer → I → Type 0) where
    -- The identity belongs to one of several recipients, and what those before that one wrap is strange to it.
    pub record BelongsToOne (recipients : List R) (identity : I) : Type 0 where
      pub is_strange : StanzaValue → Bool
      pub front : List R
      pub recipient : R
      pub back : List R
      pub all : recipients ≡ front ++ recipient ∷ back
      pub strange : All (WrapsStrange is_strange) front
      pub belongs : BelongsTo wraps unwraps is_strange recipient identity

    -- A file for several recipients is one for each identity that belongs to one of them.
    abbrev pub AnyDecrypts : Seal → Type 0
    AnyDecrypts seal_of =
        (recipients : List R) (identity : I) (grease : Option StanzaValue) (draws left : List ℕ) (file : Prepared) (plain text : List ℕ)
        → BelongsToOne recipients identity → Prepares wraps recipients grease draws (Ok file) left
        → (is_file : IsFileOf seal_of file.file_key file.stanzas plain text)
        → AreBytes plain → length plain ≤ 2 ^ 60 → LastIsNoMiddle seal_of (payload_key file.file_key is_file.nonce) plain
        → IsFileFor seal_of (FirstAnswer unwraps (identity ∷ [])) plain text
