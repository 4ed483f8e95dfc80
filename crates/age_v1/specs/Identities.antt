-- What identities come to: age-encryption.org/v1, section "Recipient types".
use Rattle.std.specs.Prelude.{Err, List, None, Ok, Option, Result, Some, [], length, ℕ, ◌++◌, ◌^◌, ◌∷◌, ◌≡◌, ◌≤◌, ◌⊎◌}
use Rattle.age_error.specs.Bytes.{AreBytes}
use Rattle.age_error.specs.DecryptErrors.{DecryptRefusal, NoMatchingKeys, OutOfMemory}
use Rattle.age_v1.specs.Armor.{Carries}
use Rattle.age_v1.specs.Stanza.{StanzaValue}
use Rattle.age_v1.specs.Payload.{LastIsNoMiddle, Seal, payload_key}
use Rattle.age_v1.specs.File.{IsFileOf}
use Rattle.std.specs.List.{AllZip}

-- nothing, the file key, or a refusal
abbrev pub UnwrapAnswer : Type 0
UnwrapAnswer = Option (Result (List ℕ) DecryptRefusal)

-- a first answer that isn't None is the answer, and nothing changes after it; after None the rest decides
abbrev pub UnlessAnswered : {S A : Type 0} → (S → Option A → S → Type 0) → Option A → S → Option A → S → Type 0
UnlessAnswered rest (Some a) between answer after = (answer ≡ Some a) × (after ≡ between)
UnlessAnswered rest None between answer after = rest between answer after

-- the answer of the first item whose answer isn't None; the items after it aren't asked
abbrev pub FirstOf : {S X A : Type 0} → (S → X → Option A → S → Type 0) → S → List X → Option A → S → Type 0
FirstOf asks before [] answer after = (answer ≡ None) × (after ≡ before)
FirstOf {S} {X} {A} asks before (x ∷ xs) answer after =
    (first : Option A) × (between : S) × asks before x first between × UnlessAnswered (λ s. FirstOf asks s xs) first between answer after

-- one that answers so, and doesn't change by being asked
abbrev pub Steady : {S X A : Type 0} → (S → X → Option A → Type 0) → S → X → Option A → S → Type 0
Steady asks before x answer after = asks before x answer × (after ≡ before)

-- how an identity may answer to several stanzas: as `unwraps` says of the whole list, or as it says of each stanza alone, where the first that gets
-- an answer decides
abbrev pub Unwraps : {S X A : Type 0} → (S → List X → Option A → S → Type 0) → S → List X → Option A → S → Type 0
Unwraps unwraps before stanzas answer after =
    unwraps before stanzas answer after ⊎ FirstOf (λ s x. unwraps s (x ∷ [])) before stanzas answer after

-- one of them gives the answer; those before it were asked and answered None; those after it are unchanged
pub record Decides {I A : Type 0} (asks : I → Option A → I → Type 0) (before : List I) (answer : A) (after : List I) : Type 0 where
  pub passed : List I
  pub passed_after : List I
  pub decider : I
  pub decider_after : I
  pub later : List I
  pub all_before : before ≡ passed ++ decider ∷ later
  pub all_after : after ≡ passed_after ++ decider_after ∷ later
  pub none : AllZip (λ identity then. asks identity None then) passed passed_after
  pub answers : asks decider (Some answer) decider_after

-- the first that answers decides; where none answers, all were asked
abbrev pub FirstThatAnswers : {I A : Type 0} → (I → Option A → I → Type 0) → List I → Option A → List I → Type 0
FirstThatAnswers asks before None after = AllZip (λ identity then. asks identity None then) before after
FirstThatAnswers asks before (Some answer) after = Decides asks before answer after

-- the file key or the refusal of the one that decides, if one does
abbrev pub decided : UnwrapAnswer → Result (List ℕ) DecryptRefusal
decided None = Err NoMatchingKeys
decided (Some answer) = answer

-- asked in turn for these stanzas, the identities go from the old states to the new ones, and the first that answers gives this answer
abbrev pub AnswersFirst : {I : Type 0} → (I → List StanzaValue → UnwrapAnswer → I → Type 0) → List I → List I → List StanzaValue → UnwrapAnswer
    → Type 0
AnswersFirst unwraps old new stanzas answer = FirstThatAnswers (λ identity own after. Unwraps unwraps identity stanzas own after) old answer new

-- and that answer is this file key
abbrev pub GivesFirst : {I : Type 0} → (I → List StanzaValue → UnwrapAnswer → I → Type 0) → List I → List I → List ℕ → List StanzaValue → Type 0
GivesFirst unwraps old new file_key stanzas = AnswersFirst unwraps old new stanzas (Some (Ok file_key))

-- asked in turn for these stanzas, the identities may come to this answer, that of the first one that answers
abbrev pub FirstAnswer : {I : Type 0} → (I → List StanzaValue → UnwrapAnswer → I → Type 0) → List I → List StanzaValue → UnwrapAnswer → Type 0
FirstAnswer {I} unwraps identities stanzas answer =
    (after : List I) × FirstThatAnswers (λ identity own then. Unwraps unwraps identity stanzas own then) identities answer after

-- The bytes are a file of the plaintext, and to its stanzas the identities can answer nothing but its file key, or want of memory. The plaintext has
-- at most 2^60 bytes, and its last chunk, where it is full, doesn't open as one in the middle too, which no law of a suite says.
pub record IsFileFor (seal_of : Seal) (answers : List StanzaValue → UnwrapAnswer → Type 0) (plain text : List ℕ) : Type 0 where
  pub file_key : List ℕ
  pub stanzas : List StanzaValue
  pub is_file : IsFileOf seal_of file_key stanzas plain text
  pub bytes : AreBytes plain
  pub within : length plain ≤ 2 ^ 60
  pub last : LastIsNoMiddle seal_of (payload_key file_key is_file.nonce) plain
  pub right : (answer : UnwrapAnswer) → answers stanzas answer → (answer ≡ Some (Ok file_key)) ⊎ (answer ≡ Some (Err OutOfMemory))

-- The bytes carry a file of the plaintext, under the file key that is given to the header's stanzas.
pub record CarriesFile (seal_of : Seal) (gives : List ℕ → List StanzaValue → Type 0) (text plain : List ℕ) : Type 0 where
  pub carried : List ℕ
  pub carries : Carries text carried
  pub file_key : List ℕ
  pub stanzas : List StanzaValue
  pub given : gives file_key stanzas
  pub bytes : AreBytes plain
  pub is_file : IsFileOf seal_of file_key stanzas plain carried

module _ {I : Type 0} (seal_of : Seal) (unwraps : I → List StanzaValue → UnwrapAnswer → I → Type 0) where
  -- The bytes carry a file of the plaintext, under the file key that the identity gives to the header's stanzas.
  abbrev pub Decrypts : I → List ℕ → List ℕ → I → Type 0
  Decrypts before text plain after = CarriesFile seal_of (λ file_key stanzas. Unwraps unwraps before stanzas (Some (Ok file_key)) after) text plain
