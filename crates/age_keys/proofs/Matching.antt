-- An X25519 identity belongs to its recipient.
use Rattle.std.specs.Prelude.{◌≡◌, ◌⊎◌, ℕ, List, [], Option, None, Some, Err, IsTrue, codes}
use Rattle.std.proofs.Common.{◌∙◌, inl, inr}
use Rattle.age_error.specs.Bytes.{AreBytesOf}
use Rattle.age_error.specs.DecryptErrors.{OutOfMemory}
use Rattle.age_suite.specs.Suite.{IsCipher, IsAgreement}
use Rattle.age_v1.specs.Stanza.{StanzaValue}
use Rattle.age_v1.specs.Recipients.{WrapAnswer}
use Rattle.age_v1.specs.Identities.{UnwrapAnswer, Steady, FirstOf}
use Rattle.age_v1.specs.Belonging.{AnswersBeside, BelongsTo}
use Rattle.age_v1.proofs.BelongingInTurn.{OpensFirst, beside, by_stanza}
use Rattle.age_v1.specs.X25519.{HasShare, WrapsFor, opened_with, UnwrapsBy}
use Rattle.age_keys.specs.X25519Laws.{has_other_tag, IsPassedOver, PassesUnopened}
use Rattle.age_keys.proofs.OwnTypes.{unchanged, passes_other as other_passed, answers_own}
use Rattle.age_keys.proofs.Unwrapped.{one_share, unwraps_what_it_wraps}

module _ (opened : List ℕ → List ℕ → List ℕ → Option (List ℕ)) (shared_of : List ℕ → List ℕ → List ℕ) (public_of : List ℕ → List ℕ) where
  abbrev Passes : List ℕ → StanzaValue → Type 0
  Passes = IsPassedOver opened shared_of public_of

  passes_other : (secret : List ℕ) (s : StanzaValue) → IsTrue (has_other_tag s) → Passes secret s
  passes_other secret s other answer asked =
      other_passed HasShare (opened_with opened shared_of public_of secret) (codes "X25519") s answer other asked

  nothing : (made answer : UnwrapAnswer) → made ≡ None → (answer ≡ made) ⊎ (answer ≡ Some (Err OutOfMemory))
      → (answer ≡ None) ⊎ (answer ≡ Some (Err OutOfMemory))
  nothing made answer none (inl is) = inl (is ∙ none)
  nothing made answer none (inr want) = inr want

  pub passes_unopened : (secret : List ℕ) → PassesUnopened opened shared_of public_of secret
  passes_unopened secret s share tag has shut answer asked =
      nothing (opened_with opened shared_of public_of secret share s.body) answer shut
      (answers_own HasShare (opened_with opened shared_of public_of secret) (codes "X25519") s share answer tag has
      (λ other of_other. one_share share other s has.bytes.bytes has.args of_other) asked)

  module _ (seal_of : List ℕ → List ℕ → List ℕ → List ℕ) (cipher : IsCipher seal_of opened) (agreement : IsAgreement shared_of public_of)
      (secret : List ℕ)
      (bytes : AreBytesOf 32 secret) where
    abbrev Wraps : List ℕ → List ℕ → List ℕ → WrapAnswer → List ℕ → Type 0
    Wraps = WrapsFor seal_of shared_of public_of

    abbrev Asks : List ℕ → StanzaValue → UnwrapAnswer → List ℕ → Type 0
    Asks = Steady (UnwrapsBy opened shared_of public_of)

    opens_first : OpensFirst Asks Wraps (public_of secret) secret
    opens_first file_key wrapped sixteen wraps_so =
        let (draws, left, made) = wraps_so in
        let is = unwraps_what_it_wraps seal_of opened shared_of public_of cipher agreement secret file_key draws left wrapped bytes made in
        (is.stanza, [], is.one, λ answer after asked. is.unwraps answer asked.0)

    pub beside_passed : AnswersBeside Wraps (FirstOf Asks) (Passes secret) (public_of secret) secret
    beside_passed =
        beside Asks Wraps (Passes secret) (public_of secret) secret
        (λ s answer after passes asked. unchanged secret after answer asked.1 (passes answer asked.0))
        opens_first

    pub belongs : BelongsTo Wraps (FirstOf Asks) has_other_tag (public_of secret) secret
    belongs =
        by_stanza Asks Wraps has_other_tag (public_of secret) secret
        (λ s answer after other asked. unchanged secret after answer asked.1 (passes_other secret s other answer asked.0)) opens_first
