-- How a text begins: with a file's header and nonce, or why it doesn't.
use Rattle.std.specs.Prelude.{Bool, Err, IsTrue, List, Ok, Result, ℕ, ◌<◌, ◌≡◌, ◌≢◌, ◌≤◌, ◌⊎◌}
use Rattle.age_error.specs.declared.io.Error.{Error}
use Rattle.age_io.specs.declared.traits.Read.{Ghosts}
use Rattle.age_v1.specs.DeliveredArmor.{stretch_of, text_delivers}
use Rattle.age_armor.specs.Refusing.{OrText}
use Rattle.age_error.specs.DecryptErrors.{DecryptRefusal, InvalidMac, IsDeviceRefusal, OutOfMemory}
use Rattle.age_error.specs.declared.io.Error.TheVariants as io
use Rattle.age_format.specs.HeaderV1.{HeaderValue}
use Rattle.age_io.specs.Stretch.{Stretch}
use Rattle.age_protocol.specs.Decrypting.{ReadsFront, WhyNoFront}
use Rattle.age_v1.specs.Header.{covered_text}
use Rattle.age_v1.specs.HeaderMac.{header_mac}
use Rattle.age_v1.specs.HeaderTexts.{canonical}
use Rattle.age_v1.specs.Identities.{UnwrapAnswer, decided}
use Rattle.age_v1.specs.Payload.{payload_key}
use Rattle.age_v1.specs.Stanza.{StanzaValue}

-- Why what a text delivers doesn't begin as a file, and the reader of the text when it was given up. A part of what it
-- delivers was read, up to this place, and this was left.
pub record RefusesText {R : Type 0} (tells : R → Bool) (rest : R → Stretch) (faults : R → ℕ) (old last : R) (e : DecryptRefusal) : Type 0 where
  pub no_fewer_faults : faults old ≤ faults last
  pub device : IsDeviceRefusal e → faults old < faults last
  pub left : Stretch
  pub place : ℕ
  -- of a reader that tells its bytes
  pub why : let text = stretch_of (text_delivers (rest old).bytes (rest old).ends_well) in IsTrue (tells old)
      → WhyNoFront canonical (faults old) (faults last) text left 0 place e

-- What a text delivers begins with this header and this nonce, and this is left after them.
pub record BeginsText {R : Type 0} (tells : R → Bool) (rest : R → Stretch) (old : R) (h : HeaderValue) (nonce : List ℕ)
    (left : Stretch) : Type 0 where
  pub place : ℕ
  -- of a reader that tells its bytes
  pub front : IsTrue (tells old) → ReadsFront (stretch_of (text_delivers (rest old).bytes (rest old).ends_well)) left 0 place h nonce

-- A header and a nonce stand at the front of a stretch, and this is left after them.
abbrev pub HasFront : Stretch → ℕ → HeaderValue → List ℕ → Stretch → Type 0
HasFront start start_place h nonce left = (place : ℕ) × ReadsFront start left start_place place h nonce

-- after the identity that decides has answered: its own refusal, or the header's
-- MAC is wrong under its file key, or it is right and memory was refused
abbrev pub RefusesKey : Result (List ℕ) DecryptRefusal → HeaderValue → DecryptRefusal → Type 0
RefusesKey (Err own) h refusal = refusal ≡ own
RefusesKey (Ok file_key) h refusal =
    ((h.mac ≢ header_mac file_key (covered_text h.stanzas)) × (refusal ≡ InvalidMac))
    ⊎ ((h.mac ≡ header_mac file_key (covered_text h.stanzas)) × (refusal ≡ OutOfMemory))

-- The text begins with a header and a nonce, and what is answered to its stanzas, its MAC or memory is why it is refused.
abbrev pub RefusesAnswered : (HeaderValue → List ℕ → Stretch → Type 0) → (List StanzaValue → UnwrapAnswer → Type 0) → DecryptRefusal → Type 0
RefusesAnswered begins answers refusal = (h : HeaderValue) × (nonce : List ℕ) × (left : Stretch) × (answer : UnwrapAnswer)
    × begins h nonce left × answers h.stanzas answer × RefusesKey (decided answer) h refusal

-- The text begins with a header whose MAC is right under the file key that is given to
-- its stanzas, and this holds of the payload's key and of what is left after the nonce.
abbrev pub UnderMac : (HeaderValue → List ℕ → Stretch → Type 0) → (List ℕ → List StanzaValue → Type 0) → (List ℕ → Stretch → Type 0) → Type 0
UnderMac begins gives Holds = (file_key : List ℕ) × (h : HeaderValue) × (nonce : List ℕ) × (left : Stretch)
    × begins h nonce left × gives file_key h.stanzas × (h.mac ≡ header_mac file_key (covered_text h.stanzas))
    × Holds (payload_key file_key nonce) left

-- Why reading a file's plaintext refuses that a text carries, apart from what is wrong with the payload: for want of memory, for a fault
-- of the text, or as the reader of the text does, whose interruptions are tried again.
abbrev pub RefusesPlain : {R : Type 0} → Ghosts R → R → Error → Type 0
RefusesPlain read input e = (e ≡ io.OutOfMemory) ⊎ OrText read input e

-- Why reading a file's header and nonce refuses that a text carries: what the text delivers ends well before they do, or as above.
abbrev pub RefusesHead : {R : Type 0} → Ghosts R → R → Error → Type 0
RefusesHead read input e = ((e ≡ io.UnexpectedEof)
    × (IsTrue (read.tells input) → IsTrue (stretch_of (text_delivers (read.rest input).bytes (read.rest input).ends_well)).ends_well))
    ⊎ OrText read input e
