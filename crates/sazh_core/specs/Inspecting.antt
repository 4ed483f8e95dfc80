-- What a file shows without a key.
use Rattle.std.specs.Prelude.{◌≡◌, ◌⊎◌, ◌↔◌, ℕ, ◌+◌, ◌*◌, ◌^◌, ◌<◌, ◌≤◌, IsTrue, List, ◌++◌, length, MatchOption, Option, Result, IfOk, IfErr}
use Rattle.age.specs.DecryptErrors.{decrypt_refusal}
use Rattle.age.specs.ErrorVariants as io
use Rattle.age.specs.Header.{KeepsScryptRule, header_text}
use Rattle.age.specs.HeaderV1.{HeaderValue, IsHeaderValue}
use Rattle.age.specs.Members.{ReadMembers}
use Rattle.age.specs.Reading.{TriedAgain}
use Rattle.age.specs.ReadingHeader.{RefusesHeader}
use Rattle.age.specs.HeaderTexts.{canonical}
use Rattle.age.specs.Stretch.{Stretch}
use Rattle.sazh_core.specs.Decrypting.{ReadsText}
use Rattle.sazh_core.specs.declared.error.InspectionError.{InspectionError}
use Rattle.sazh_core.specs.declared.error.InspectionError.TheVariants as error
use Rattle.sazh_core.specs.declared.inspecting.Inspection.{Inspection}
use Rattle.sazh_core.specs.declared.inspecting.Lengths.{Lengths}

-- The lengths of so many bytes that follow a header.
-- standard: section "Payload": a nonce of 16 bytes, then chunks of 64 KiB and a tag of 16 bytes each; the final chunk may be shorter, but isn't
-- empty unless the whole payload is
pub record HasLengths (bytes : ℕ) (lengths : Lengths) : Type 0 where
  pub nonce : bytes ≡ 16 + lengths.payload
  -- the number of the chunks before the last, and how many bytes the last one has
  pub before : ℕ
  pub last : ℕ
  pub counted : lengths.chunks ≡ before + 1
  pub whole : lengths.payload ≡ 65552 * before + last
  pub tag : 16 ≤ last
  pub most : last ≤ 65552
  pub some : 0 < before → 16 < last
  pub plaintext : lengths.payload ≡ lengths.plaintext + 16 * lengths.chunks

-- the lengths of so many bytes that follow a header, or that no file has so many there
abbrev pub AreLengths : ℕ → Option Lengths → Type 0
AreLengths bytes found = MatchOption found ((lengths : Lengths) → HasLengths bytes lengths → ⊥) (HasLengths bytes)

-- A header stands at the front of a stretch that ends well, and this is told of it and of what follows.
pub record IsInspected (text : Stretch) (inspection : Inspection) : Type 0 where
  pub rest : List ℕ
  pub header : IsHeaderValue inspection.header
  pub whole : text.bytes ≡ header_text inspection.header.stanzas inspection.header.mac ++ rest
  pub well : IsTrue text.ends_well
  pub header_length : inspection.header_length ≡ length (header_text inspection.header.stanzas inspection.header.mac)
  pub rest_length : inspection.rest_length ≡ length rest
  pub rule : IsTrue inspection.keeps_rule ↔ KeepsScryptRule inspection.header.stanzas
  pub lengths : AreLengths (length rest) inspection.lengths

module _ {T : Type 0} (read : ReadMembers T) where
  -- A header stands at the front, and so many bytes were read, up to and with all of it.
  pub record HasReadHeader (text : T) (count : ℕ) : Type 0 where
    pub header : HeaderValue
    pub is_header : IsHeaderValue header
    pub rest : List ℕ
    pub whole : (read.rest text).bytes ≡ header_text header.stanzas header.mac ++ rest
    pub within : length (header_text header.stanzas header.mac) ≤ count

  -- a header stands at the front, and 2^64 bytes or more follow it
  abbrev pub HasTooLongRest : T → ℕ → Type 0
  HasTooLongRest text count = (front : HasReadHeader text count) × (2 ^ 64 ≤ length front.rest)

  -- Why a text isn't inspected, and how many of its bytes were read.
  abbrev pub RefusesInspection : T → InspectionError → Type 0
  RefusesInspection text (error.Header count why) = IsTrue (read.tells text) → (last : T) × (read.place last ≡ count)
      × RefusesHeader canonical (read.faults text) (read.faults last) (read.rest text) (read.rest last) (read.place text) (read.place last)
      (decrypt_refusal why)
  RefusesInspection text (error.Rest count why) =
      ((why ≡ io.OutOfMemory) ⊎ ((why ≡ io.TooLong) × (IsTrue (read.tells text) → HasTooLongRest text count)) ⊎ TriedAgain read.refuses text why)
      × (IsTrue (read.tells text) → HasReadHeader text count)
  RefusesInspection text error.OutOfMemory = ⊥

  -- What is told of a text.
  pub record InspectsText (text : T) (result : Result Inspection InspectionError) : Type 0 where
    pub exact : IsTrue (read.tells text) → IfOk result (IsInspected (read.rest text))
    pub refused : IfErr result (RefusesInspection text)

-- What is told of the text of a file, bare or in armor: of what it carries.
abbrev pub Inspects : {R T : Type 0} → ReadMembers R → ReadMembers T → R → Result Inspection InspectionError → Type 0
Inspects {R} {T} read text_read input result = (IfErr result (λ e. e ≡ error.OutOfMemory) × IfOk result (λ _. ⊥))
    ⊎ ((text : T) × ReadsText read text_read input text × InspectsText text_read text result)
