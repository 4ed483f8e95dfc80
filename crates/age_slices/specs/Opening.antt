-- What the front of a file tells of its payload.
use Rattle.std.specs.Prelude.{◌≡◌, ◌⊎◌, ℕ, ◌+◌, ◌<◌, List, length, Option, Some, None, Result, Ok, Err, MatchOption, MatchResult}
use Rattle.age.specs.Identities.{decided, AnswersFirst, FirstAnswer, UnwrapAnswer}
use Rattle.age.specs.DecryptErrors.{DecryptRefusal, InvalidHeader, OutOfMemory, UnknownFormat, decrypt_refusal}
use Rattle.age.specs.File.{BeginsAsFile, file_front}
use Rattle.age.specs.Payload.{payload_key}
use Rattle.age.specs.Header.{KeepsScryptRule, covered_text, header_text}
use Rattle.age.specs.HeaderV1.{HeaderValue}
use Rattle.age.specs.HeaderMac.{header_mac}
use Rattle.age.specs.Stanza.{StanzaValue}
use Rattle.age.specs.HeaderTexts.{canonical}
use Rattle.age.specs.Texts.{RefusesKey}
use Rattle.age.specs.Types.{DecryptError}
use Rattle.age.specs.HeaderVerdict.{Bad, Header, IsUndecided, IsVerdict, UnknownVersion}
use Rattle.age_slices.specs.Handing.{HandsOut, HandsOutAnswer}
use Rattle.age_slices.specs.declared.opening.PayloadAt.{PayloadAt}

-- a header stands at the front, and nothing is said of its MAC yet
abbrev pub HasHeader : HeaderValue → List ℕ → Type 0
HasHeader h front = IsVerdict canonical front (header_text h.stanzas h.mac) (Header h.stanzas h.mac)

-- The front ends before the header and the nonce do: it decides nothing yet, or fewer than 16 bytes follow the header.
abbrev pub IsTooShort : List ℕ → Type 0
IsTooShort front = IsUndecided canonical front
    ⊎ ((h : HeaderValue) × HasHeader h front × (length front < length (header_text h.stanzas h.mac) + 16))

-- Why no file begins so, whatever follows; or memory was refused.
abbrev pub IsNoFront : List ℕ → DecryptRefusal → Type 0
IsNoFront front InvalidHeader = ((head : List ℕ) × IsVerdict canonical front head Bad)
    ⊎ ((h : HeaderValue) × HasHeader h front × (KeepsScryptRule h.stanzas → ⊥))
IsNoFront front UnknownFormat = (head : List ℕ) × IsVerdict canonical front head UnknownVersion
IsNoFront front OutOfMemory = Unit {0}
IsNoFront front _ = ⊥

-- the front begins with this header and this nonce
abbrev pub BeginsWith : HeaderValue → List ℕ → List ℕ → Type 0
BeginsWith h nonce front = (more : List ℕ) × BeginsAsFile h.stanzas h.mac nonce more front

-- The front is one of a file under this file key, which the MAC is right under: so this is the key of its payload, which begins after the front's
-- nonce.
pub record IsPayloadAt (file_key : List ℕ) (stanzas : List StanzaValue) (front : List ℕ) (found : PayloadAt) : Type 0 where
  pub nonce : List ℕ
  pub more : List ℕ
  pub begins : BeginsAsFile stanzas (header_mac file_key (covered_text stanzas)) nonce more front
  pub key : found.key ≡ payload_key file_key nonce
  pub place : found.place ≡ length (file_front file_key stanzas nonce)

module _ {I : Type 0} (unwraps : I → List StanzaValue → UnwrapAnswer → I → Type 0) (identities asked : List I) (front : List ℕ) where
  -- The front begins as a file, and what the identities answer to its stanzas, or its MAC, is why nothing is told.
  pub record TellsNothing (e : DecryptRefusal) : Type 0 where
    pub h : HeaderValue
    pub nonce : List ℕ
    pub begins : BeginsWith h nonce front
    pub answer : UnwrapAnswer
    pub answers : AnswersFirst unwraps identities asked h.stanzas answer
    pub why : RefusesKey (decided answer) h e

  -- What is told under the file key that the first of the identities gives who answers.
  abbrev pub TellsPayload : PayloadAt → Type 0
  TellsPayload found = (file_key : List ℕ) × (stanzas : List StanzaValue) × AnswersFirst unwraps identities asked stanzas (Some (Ok file_key))
      × IsPayloadAt file_key stanzas front found

  -- What is told of a front that one of the identities has the file key of: the payload, unless memory is refused.
  abbrev pub IsHonest : Result (Option PayloadAt) DecryptError → Type 0
  IsHonest answer = (file_key : List ℕ) (stanzas : List StanzaValue) (nonce more : List ℕ)
      → BeginsAsFile stanzas (header_mac file_key (covered_text stanzas)) nonce more front
      → ((own : UnwrapAnswer) → FirstAnswer unwraps identities stanzas own → (own ≡ Some (Ok file_key)) ⊎ (own ≡ Some (Err OutOfMemory)))
      → MatchResult answer
      (λ found. found ≡ Some (record { key = payload_key file_key nonce; place = length (file_front file_key stanzas nonce) }))
      (λ e. decrypt_refusal e ≡ OutOfMemory)

  -- What the front of a file answers: its payload, or nothing where more of the file is needed. The identities are asked where a header with a nonce
  -- stands there, and else not.
  pub record OpensHeader (answer : Result (Option PayloadAt) DecryptError) : Type 0 where
    pub success : MatchResult answer (λ found. MatchOption found ((asked ≡ identities) × IsTooShort front) TellsPayload)
        (λ e. ((asked ≡ identities) × IsNoFront front (decrypt_refusal e)) ⊎ TellsNothing (decrypt_refusal e))
    pub honest : IsHonest answer

-- By the identities that something stands for, or that is refused.
abbrev pub OpensHeaderBy : {I : Type 0} → (I → List StanzaValue → UnwrapAnswer → I → Type 0) → (DecryptError → Type 0) → (List I → Type 0) → List ℕ
    → Result (Option PayloadAt) DecryptError → Type 0
OpensHeaderBy {I} unwraps Refuses StandFor front answer = ((e : DecryptError) × (answer ≡ Err e) × Refuses e)
    ⊎ ((identities : List I) × (asked : List I) × StandFor identities × OpensHeader unwraps identities asked front answer)

-- What a call leaves in the caller's memory: the key of the payload in a room, as other bytes are handed out, and the place beside it. Where more of
-- the file is needed the status is 2, and then, as after a refusal, the room stays as it was and the count and the place are 0.
abbrev pub HandsOutPayload : {E : Type 0} → (E → ℕ) → Result (Option PayloadAt) E → List ℕ → List ℕ → ℕ → ℕ → ℕ → Type 0
HandsOutPayload number (Ok (Some found)) old new written place status = HandsOut found.key old new written status × (place ≡ found.place)
HandsOutPayload number (Ok None) old new written place status = (status ≡ 2) × (new ≡ old) × (written ≡ 0) × (place ≡ 0)
HandsOutPayload number (Err e) old new written place status = HandsOutAnswer number (Err e) old new written status × (place ≡ 0)
