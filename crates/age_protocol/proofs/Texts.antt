-- What holds of a text that begins with a header, said in other words.
use Rattle.std.specs.Prelude.{ℕ, List}
use Rattle.age_error.specs.DecryptErrors.{DecryptRefusal}
use Rattle.age_io.specs.Stretch.{Stretch}
use Rattle.age_format.specs.HeaderV1.{HeaderValue}
use Rattle.age_v1.specs.Stanza.{StanzaValue}
use Rattle.age_v1.specs.Identities.{UnwrapAnswer}
use Rattle.age_v1.specs.Payload.{payload_key}
use Rattle.age_protocol.specs.Texts.{RefusesAnswered, UnderMac}

module _ (begins other : HeaderValue → List ℕ → Stretch → Type 0)
    (so : (h : HeaderValue) (nonce : List ℕ) (left : Stretch) → begins h nonce left → other h nonce left) where
  -- how the text begins, how the file key is given, and what holds of the payload
  pub under_mac : (gives by : List ℕ → List StanzaValue → Type 0) (Holds More : List ℕ → Stretch → Type 0)
      → ((key : List ℕ) (stanzas : List StanzaValue) → gives key stanzas → by key stanzas)
      → ((key : List ℕ) (sealed : Stretch) → Holds key sealed → More key sealed) → UnderMac begins gives Holds → UnderMac other by More
  under_mac gives by Holds More given_so wider (file_key, h, nonce, left, begun, given, right, holds) =
      (file_key, h, nonce, left, so h nonce left begun, given_so file_key h.stanzas given, right, wider (payload_key file_key nonce) left holds)

  -- how the text begins, and what is answered
  pub refuses_answered : (answers own : List StanzaValue → UnwrapAnswer → Type 0)
      → ((stanzas : List StanzaValue) (answer : UnwrapAnswer) → answers stanzas answer → own stanzas answer)
      → (refusal : DecryptRefusal) → RefusesAnswered begins answers refusal → RefusesAnswered other own refusal
  refuses_answered answers own answered refusal (h, nonce, left, answer, begun, told, why) =
      (h, nonce, left, answer, so h nonce left begun, answered h.stanzas answer told, why)
