-- Recipients, and the identities that belong to them.
use Rattle.std.specs.Prelude.{◌≡◌, ◌⊎◌, ℕ, Bool, List, ◌++◌, Some, Ok, Err, All, IsTrue, length}
use Rattle.age_error.specs.DecryptErrors.{OutOfMemory}
use Rattle.age_v1.specs.Stanza.{StanzaValue}
use Rattle.age_v1.specs.Recipients.{WrapAnswer, Wrapped}
use Rattle.age_v1.specs.Identities.{UnwrapAnswer, Unwraps}

module _ {R : Type 0} (wraps : R → List ℕ → List ℕ → WrapAnswer → List ℕ → Type 0) where
  -- the recipient may wrap the file key so
  abbrev pub MayWrap : List ℕ → R → Wrapped → Type 0
  MayWrap file_key recipient wrapped = (draws : List ℕ) × (left : List ℕ) × wraps recipient file_key draws (Ok wrapped) left

  module _ {I : Type 0} (unwraps : I → List StanzaValue → UnwrapAnswer → I → Type 0) where
    -- An identity answers the file key that the recipient wrapped, unless memory is refused, whatever stands after the recipient's
    -- stanzas, and whatever stanzas with this property stand before them.
    abbrev pub AnswersBeside : (StanzaValue → Type 0) → R → I → Type 0
    AnswersBeside Strange recipient identity =
        (file_key : List ℕ) (wrapped : Wrapped) (before later : List StanzaValue) (answer : UnwrapAnswer) (after : I)
        → length file_key ≡ 16 → MayWrap file_key recipient wrapped → All Strange before
        → Unwraps unwraps identity (before ++ (wrapped.stanzas ++ later)) answer after
        → (answer ≡ Some (Ok file_key)) ⊎ (answer ≡ Some (Err OutOfMemory))

    -- An identity belongs to a recipient: it does so whatever strange stanzas stand before them.
    abbrev pub BelongsTo : (StanzaValue → Bool) → R → I → Type 0
    BelongsTo is_strange recipient identity = AnswersBeside (λ s. IsTrue (is_strange s)) recipient identity
