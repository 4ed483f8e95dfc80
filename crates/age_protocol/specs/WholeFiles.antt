-- What the calls on whole files answer.
use Rattle.std.specs.Prelude.{Err, IsTrue, List, MatchResult, Ok, Result, length, true, ℕ, ◌<◌, ◌^◌, ◌≡◌, ◌≢◌, ◌≤◌, ◌⊎◌}
use Rattle.age_error.specs.Bytes.{AreBytes}
use Rattle.age_error.specs.Refusals.{IsDevice}
use Rattle.age_error.specs.DecryptErrors.{DecryptRefusal, IfIoRefusal, InvalidMac, IsDeviceRefusal, OutOfMemory, decrypt_of_io, decrypt_refusal}
use Rattle.age_error.specs.EncryptErrors.{EncryptRefusal, encrypt_of_io, encrypt_refusal}
use Rattle.age_error.specs.declared.io.Error.{Error}
use Rattle.age_io.specs.Reading.{IsQuiet, TriedAgain}
use Rattle.age_io.specs.Stretch.{Stretch, whole}
use Rattle.age_io.specs.declared.traits.Read.{Ghosts as ReadGhosts}
use Rattle.age_io.specs.declared.traits.Write.{Ghosts as WriteGhosts}
use Rattle.age_v1.specs.Armor.{Carries}
use Rattle.age_v1.specs.DeliveredArmor.{Refused, stretch_of, text_delivers}
use Rattle.age_v1.specs.HeaderTexts.{canonical}
use Rattle.age_v1.specs.Stanza.{StanzaValue}
use Rattle.age_format.specs.HeaderV1.{HeaderValue}
use Rattle.age_v1.specs.HeaderMac.{header_mac}
use Rattle.age_v1.specs.Identities.{UnwrapAnswer, Unwraps, decided}
use Rattle.age_v1.specs.Header.{covered_text}
use Rattle.age_stream.specs.Keeping.{Stops}
use Rattle.age_stream.specs.Sending.{RefusesChunk}
use Rattle.age_v1.specs.Payload.{LastIsNoMiddle, Seal, payload, payload_key}
use Rattle.age_protocol.specs.Decrypting.{ReadsFront, WhyNoFront}
use Rattle.age_v1.specs.Encrypting.{Prepared}
use Rattle.age_v1.specs.File.{IsFileOf, file_text}
use Rattle.age_error.specs.declared.io.Error.TheVariants as io

-- ---- encryption

-- Why a plaintext of this many bytes isn't written as a file, where nothing keeps it from being read: it has more than 2^60
-- bytes, memory was refused, or the writer refuses, whatever it is given and with its interruptions tried again.
abbrev pub RefusesFile : {W : Type 0} → (W → ℕ → Error → Type 0) → W → ℕ → Error → Type 0
RefusesFile refuses writer size e = ((e ≡ io.TooLong) × (2 ^ 60 < size)) ⊎ RefusesChunk refuses writer e

-- Why a plaintext isn't written that has some bytes, and this many of them where that is told.
abbrev pub RefusesSomeFile : {W : Type 0} → (W → ℕ → Error → Type 0) → W → Type 0 → ℕ → Error → Type 0
RefusesSomeFile refuses writer told size e = ((some : ℕ) × RefusesFile refuses writer some e) × (told → RefusesFile refuses writer size e)

-- Why what a reader still has isn't written as a file.
pub record RefusesWriting {R W : Type 0} (read : ReadGhosts R) (write : WriteGhosts W) (old new : R) (before after : W) (e : Error) : Type 0 where
  -- of every reader: it refuses, or its plaintext isn't written
  pub named : TriedAgain read.refuses old e ⊎ RefusesSomeFile write.refuses before (IsTrue (read.tells old)) (length (read.rest old).bytes) e
  -- where it has no fault
  pub why : IsTrue (read.tells old) → IsTrue (read.rest old).ends_well → IsQuiet (read.faults old) (read.faults new)
      → RefusesFile write.refuses before (length (read.rest old).bytes) e
  -- where both tell their bytes, an error of a device is one that the reader or the writer counts
  pub device : IsTrue (read.tells old) → IsTrue (write.tells before) → IsDevice e
      → (read.faults old < read.faults new) ⊎ (write.faults before < write.faults after)

-- A refusal while a plaintext of this many bytes is written to memory: want of memory, or `TooLong` past 2^60 bytes.
pub record RefusesOutput (size : ℕ) (refusal : EncryptRefusal) : Type 0 where
  pub error : Error
  pub is : refusal ≡ encrypt_refusal (encrypt_of_io error)
  pub why : (error ≡ io.OutOfMemory) ⊎ ((error ≡ io.TooLong) × (2 ^ 60 < size))

-- What was written is the file of the plaintext, in this form, which carries it. By the definition that decryptors are
-- proved by it is a file.
pub record IsWritten (seal_of : Seal) (form : List ℕ → List ℕ) (plain : List ℕ) (file : Prepared) (written : List ℕ) : Type 0 where
  pub within : length plain ≤ 2 ^ 60
  pub text : written ≡ form (file_text seal_of file.file_key file.stanzas file.nonce plain)
  pub carries : Carries written (file_text seal_of file.file_key file.stanzas file.nonce plain)
  pub is_file : IsFileOf seal_of file.file_key file.stanzas plain (file_text seal_of file.file_key file.stanzas file.nonce plain)

-- What an encryption answers once the recipient has: the recipient's refusal, or the file that its answer makes.
abbrev pub Encrypts : Seal → (List ℕ → List ℕ) → List ℕ → Result Prepared EncryptRefusal → Result (List ℕ) EncryptRefusal → Type 0
Encrypts seal_of form plain (Err refusal) answer = answer ≡ Err refusal
Encrypts seal_of form plain (Ok file) answer = MatchResult answer (IsWritten seal_of form plain file) (RefusesOutput (length plain))

-- ---- decryption

-- What is read of a file, bare or armored: the bytes that it carries and a clean end, or the bytes before its first fault.
abbrev pub read_of : List ℕ → Stretch
read_of file = stretch_of (text_delivers file true)

-- Why a text isn't read to a clean end: for want of memory, or for the fault in which it ends.
abbrev pub RefusesReading : List ℕ → Error → Type 0
RefusesReading text e = (e ≡ io.OutOfMemory) ⊎ ((text_delivers text true).ending ≡ Refused e)

-- Why no header with a nonce was read from the front of a file.
pub record LacksFront (file : List ℕ) (refusal : DecryptRefusal) : Type 0 where
  pub left : Stretch
  pub place : ℕ
  pub why : WhyNoFront canonical 0 0 (read_of file) left 0 place refusal
  -- where a read was refused, what the file carries ends well before they do, or its text has a fault
  pub named : IfIoRefusal (λ e. ((e ≡ io.UnexpectedEof) × IsTrue (read_of file).ends_well) ⊎ RefusesReading file e) refusal
  pub no_device : IsDeviceRefusal refusal → ⊥

-- What is left of a file after the nonce is no payload of a plaintext under this key, or memory was refused.
pub record LacksPayload (seal_of : Seal) (file : List ℕ) (key : List ℕ) (left : Stretch) (refusal : DecryptRefusal) : Type 0 where
  pub error : Error
  pub is : refusal ≡ decrypt_refusal (decrypt_of_io error)
  pub no_device : IsDevice error → ⊥
  -- the file's text has this fault, or the definition names this of what is left
  pub named : RefusesReading file error ⊎ Stops seal_of key left (Unit {0}) error
  pub bad : error ≢ io.OutOfMemory → (plain : List ℕ) → AreBytes plain → length plain ≤ 2 ^ 60
      → LastIsNoMiddle seal_of key plain → left ≢ whole (payload seal_of key plain)

-- Of the file key, or the refusal, that the identity's answer comes to: a refusal is the answer. With a file key the header's
-- MAC is wrong under it, or else the payload is refused.
abbrev pub RefusesRest : Seal → List ℕ → Result (List ℕ) DecryptRefusal → HeaderValue → List ℕ → Stretch → DecryptRefusal → Type 0
RefusesRest seal_of file (Err own) h nonce left refusal = refusal ≡ own
RefusesRest seal_of file (Ok file_key) h nonce left refusal =
    ((h.mac ≢ header_mac file_key (covered_text h.stanzas)) × (refusal ≡ InvalidMac))
    ⊎ ((h.mac ≡ header_mac file_key (covered_text h.stanzas)) × LacksPayload seal_of file (payload_key file_key nonce) left refusal)

module _ {I : Type 0} (seal_of : Seal) (unwraps : I → List StanzaValue → UnwrapAnswer → I → Type 0) where
  -- The header and the nonce were read from the front of the file, and the identity was asked.
  pub record RefusesAsked (before : I) (file : List ℕ) (after : I) (refusal : DecryptRefusal) : Type 0 where
    pub h : HeaderValue
    pub nonce : List ℕ
    pub left : Stretch
    pub place : ℕ
    pub front : ReadsFront (read_of file) left 0 place h nonce
    pub answer : UnwrapAnswer
    pub asked : Unwraps unwraps before h.stanzas answer after
    pub why : RefusesRest seal_of file (decided answer) h nonce left refusal

  -- Why a file isn't decrypted. The identity is asked only where a header with a nonce was read.
  abbrev pub RefusesDecrypting : I → List ℕ → I → DecryptRefusal → Type 0
  RefusesDecrypting before file after refusal =
      ((after ≡ before) × ((refusal ≡ OutOfMemory) ⊎ LacksFront file refusal))
      ⊎ RefusesAsked before file after refusal
