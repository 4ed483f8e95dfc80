-- The laws of files.
use Rattle.std.specs.Prelude.{◌≡◌, ℕ, ◌^◌, ◌≤◌, ◌&&◌, List, [], ◌∷◌, length, IsTrue, Option, Ok}
use Rattle.age_error.specs.Bytes.{AreBytes}
use Rattle.age_error.specs.DecryptErrors.{DecryptRefusal, OutOfMemory}
use Rattle.age_suite.specs.declared.suite.Suite.{Ghosts as SuiteGhosts}
use Rattle.age_io.specs.declared.traits.Read.{Ghosts}
use Rattle.age_io.specs.Stretch.{Stretch}
use Rattle.age_io.specs.Reading.{IsQuiet}
use Rattle.age_v1.specs.Armor.{Carries}
use Rattle.age_v1.specs.HeaderTexts.{canonical}
use Rattle.age_v1.specs.Stanza.{StanzaValue}
use Rattle.age_v1.specs.Header.{covered_text}
use Rattle.age_format.specs.HeaderV1.{HeaderValue}
use Rattle.age_v1.specs.HeaderMac.{header_mac}
use Rattle.age_v1.specs.Identities.{UnwrapAnswer, FirstAnswer, IsFileFor, Decrypts}
use Rattle.age_v1.specs.Payload.{Seal, payload, LastIsNoMiddle, payload_key}
use Rattle.age_stream.specs.declared.reader.StreamReader.{StreamReader}
use Rattle.age_v1.specs.File.{BeginsAsFile, IsFileOf, file_text}
use Rattle.age_v1.specs.Recipients.{WrapAnswer}
use Rattle.age_v1.specs.Encrypting.{Prepared, Prepares}
use Rattle.age_protocol.specs.Decrypting.{ReadsFront, RefusesFront}
use Rattle.age_protocol.specs.OpeningFile.{OpensFile, StandsBefore}
use Rattle.age_protocol.specs.WholeFiles.{RefusesDecrypting}

-- The file of this plaintext that was prepared so: its last chunk, where it is full, doesn't open as one in the middle too. (The nonce of
-- `is_file` is that of `file`.) Of no real cipher this holds for all keys and plaintexts: who knows the key can make a plaintext for which
-- it doesn't. Under a fresh key it fails by chance alone, of a cipher with tags of 16 bytes once in 2^128 files whose last chunk is full.
abbrev pub EndsApart : Seal → List ℕ → Prepared → Type 0
EndsApart seal_of plain file =
    (is_file : IsFileOf seal_of file.file_key file.stanzas plain (file_text seal_of file.file_key file.stanzas file.nonce plain))
    → LastIsNoMiddle seal_of (payload_key file.file_key is_file.nonce) plain

-- so ends what these recipients are prepared for by these random bytes, of which those are left
abbrev pub PreparesApart : {R : Type 0} → (R → List ℕ → List ℕ → WrapAnswer → List ℕ → Type 0) → List R → Option StanzaValue → (draws left : List ℕ)
    → Seal → List ℕ → Type 0
PreparesApart wraps recipients grease draws left seal_of plain =
    (file : Prepared) → Prepares wraps recipients grease draws (Ok file) left → EndsApart seal_of plain file

-- what a decryptor reads from bytes that begin as a file: the header, the nonce, and no byte of what follows
abbrev pub ReadsBack : Type 0
ReadsBack = (start rest : Stretch) (start_place place : ℕ) (h : HeaderValue) (read : List ℕ) (stanzas : List StanzaValue) (mac nonce more : List ℕ)
    → ReadsFront start rest start_place place h read → BeginsAsFile stanzas mac nonce more start.bytes
    → (h.stanzas ≡ stanzas) × (h.mac ≡ mac) × (read ≡ nonce) × (rest.bytes ≡ more) × (rest.ends_well ≡ start.ends_well)

-- bytes that begin as a file are refused for want of memory or after a fault of the device alone
abbrev pub RefusesNoFile : {R : Type 0} → Ghosts R → Type 0
RefusesNoFile {R} read =
    (old new : R) (e : DecryptRefusal) (stanzas : List StanzaValue) (mac nonce more : List ℕ)
    → RefusesFront canonical read old new e → IsTrue (read.tells old) → IsQuiet (read.faults old) (read.faults new)
    → BeginsAsFile stanzas mac nonce more (read.rest old).bytes → e ≡ OutOfMemory

-- where a file is read, the header's MAC is right under its file key, and the payload of its plaintext is left
abbrev pub FileOpens : Seal → Type 0
FileOpens seal_of = (start rest : Stretch) (start_place place : ℕ) (h : HeaderValue) (nonce file_key : List ℕ) (stanzas : List StanzaValue)
    (plain : List ℕ)
    → ReadsFront start rest start_place place h nonce → (file : IsFileOf seal_of file_key stanzas plain start.bytes)
    → (h.stanzas ≡ stanzas) × (h.mac ≡ header_mac file_key (covered_text h.stanzas)) × (nonce ≡ file.nonce)
    × (rest.bytes ≡ payload seal_of (payload_key file_key nonce) plain) × (rest.ends_well ≡ start.ends_well)

-- and the reader that is given under that file key stands before the plaintext
abbrev pub FileIsContent : {S R : Type 0} → SuiteGhosts S → Ghosts R → Type 0
FileIsContent {S} {R} suite read = (start : Stretch) (start_place : ℕ) (h : HeaderValue) (nonce file_key : List ℕ) (stanzas : List StanzaValue)
    (plain : List ℕ) (input : R) (r : StreamReader S R suite read)
    → ReadsFront start (read.rest input) start_place (read.place input) h nonce → (file : IsFileOf suite.seal_of file_key stanzas plain start.bytes)
    → AreBytes plain → length plain ≤ 2 ^ 60 → LastIsNoMiddle suite.seal_of (payload_key file_key file.nonce) plain
    → IsTrue start.ends_well → IsTrue (read.tells input && read.steady input) → OpensFile file_key h nonce input r → StandsBefore plain r

-- the bytes of a file tell its stanzas
abbrev pub OneHeader : Seal → Type 0
OneHeader seal_of = (file_key other : List ℕ) (stanzas others : List StanzaValue) (first second bytes : List ℕ)
    → IsFileOf seal_of file_key stanzas first bytes → IsFileOf seal_of other others second bytes → stanzas ≡ others

-- and under one file key its plaintext
abbrev pub OnePlain : Seal → Type 0
OnePlain seal_of = (file_key : List ℕ) (stanzas others : List StanzaValue) (first second bytes : List ℕ) → AreBytes first → AreBytes second
    → IsFileOf seal_of file_key stanzas first bytes → IsFileOf seal_of file_key others second bytes → first ≡ second

-- a file is what it carries itself
abbrev pub CarriesItself : Seal → Type 0
CarriesItself seal_of = (file_key : List ℕ) (stanzas : List StanzaValue) (plain bytes : List ℕ) → AreBytes bytes
    → IsFileOf seal_of file_key stanzas plain bytes → Carries bytes bytes

module _ {I : Type 0} (seal_of : Seal) (unwraps : I → List StanzaValue → UnwrapAnswer → I → Type 0) where
  -- what carries a file for the identity is decrypted to nothing but its plaintext
  abbrev pub GivesBack : Type 0
  GivesBack = (before after : I) (text file plain given : List ℕ) → Carries text file
      → IsFileFor seal_of (FirstAnswer unwraps (before ∷ [])) plain file
      → Decrypts seal_of unwraps before text given after → given ≡ plain

  -- and refused for want of memory alone
  abbrev pub RefusesNone : Type 0
  RefusesNone = (before after : I) (text file plain : List ℕ) (refusal : DecryptRefusal) → Carries text file
      → IsFileFor seal_of (FirstAnswer unwraps (before ∷ [])) plain file
      → RefusesDecrypting seal_of unwraps before text after refusal → refusal ≡ OutOfMemory
