-- What decrypting from a reader to a writer comes to: of a whole file, and of a part of its plaintext.
use Rattle.std.specs.Prelude.{IfErr, IsTrue, List, OnOk, Result, ℕ, ◌&&◌, ◌≡◌, ◌⊎◌}
use Rattle.age_error.specs.DecryptErrors.{DecryptRefusal, IfIoRefusal, OutOfMemory}
use Rattle.age_suite.specs.declared.suite.Suite.{Ghosts as SuiteGhosts}
use Rattle.age_io.specs.declared.traits.Read.{Ghosts as ReadGhosts}
use Rattle.age_io.specs.declared.traits.Write.{Ghosts as WriteGhosts}
use Rattle.age_io.specs.Stretch.{Stretch}
use Rattle.age_io.specs.Reading.{IsQuiet, TriedAgain}
use Rattle.age_io.specs.Cursor.{IsOutside}
use Rattle.age_error.specs.declared.io.Error.TheVariants.{Failed as failed, OutOfMemory as out_of_memory}
use Rattle.age_io.specs.Writing.{HandsOn}
use Rattle.age_io.specs.Copying.{AppendsFront}
use Rattle.age_v1.specs.Armor.{Carries}
use Rattle.age_format.specs.HeaderV1.{HeaderValue}
use Rattle.age_v1.specs.Stanza.{StanzaValue}
use Rattle.age_v1.specs.Identities.{UnwrapAnswer}
use Rattle.age_v1.specs.Claims.{AppendsPlaintext}
use Rattle.age_v1.specs.DeliveredPayload.{payload_delivers}
use Rattle.age_stream.specs.Keeping.{IsPayloadRefusal, Stops}
use Rattle.age_protocol.specs.Texts.{RefusesHead, RefusesPlain, BeginsText, RefusesAnswered, RefusesText, UnderMac}
use Rattle.age_error.specs.FileErrors.{DecryptsUnless, IfIo, IsDecryptError}
use Rattle.age_protocol.specs.WholeFiles.{LacksFront, RefusesReading}
use Rattle.age_protocol.specs.Parts.{AppendsOf, AppendsPart, IsPartAt, RefusesPart, StandsAt}
use Rattle.age_error.specs.declared.file.FileError.{FileError}

-- Why no file is opened in a text that was read to its end: no header with a nonce begins
-- it, or one does, and what the identities answer to its stanzas, its MAC or memory is why.
abbrev pub RefusesOpening : List ℕ → (HeaderValue → List ℕ → Stretch → Type 0) → (List StanzaValue → UnwrapAnswer → Type 0) → DecryptRefusal → Type 0
RefusesOpening text begins answers refusal = LacksFront text refusal ⊎ RefusesAnswered begins answers refusal

-- A whole file. The identities are said by three things: the file key that they give to a header's stanzas (`gives`), what they
-- answer to these (`answers`), and which bytes are a file of which plaintext for them (`IsFor`).
pub record DecryptsAll {S R W T : Type 0} (suite : SuiteGhosts S) (read : ReadGhosts R) (write : WriteGhosts W)
    (gives : List ℕ → List StanzaValue → Type 0) (answers : List StanzaValue → UnwrapAnswer → Type 0) (IsFor : List ℕ → List ℕ → Type 0)
    (input : R) (old new : W) (result : Result T FileError) : Type 0 where
  -- A success says that the input carried a file of exactly what was appended, under the file key that was given.
  pub file : IsTrue (read.tells input && read.steady input) → IsTrue (write.tells old) → OnOk result
      (AppendsPlaintext suite.seal_of gives write.appended (read.rest input) old new)
  -- After a refusal of the header or of the identities nothing was appended.
  pub refused : IfErr result (λ e. IsDecryptError e → new ≡ old)
  -- The cause of such a refusal.
  pub why : IfErr result (λ e. DecryptsUnless (λ refusal.
      (((last : R) × RefusesText read.tells read.rest read.faults input last refusal) × IfIoRefusal (RefusesHead read input) refusal)
      ⊎ RefusesAnswered (BeginsText read.tells read.rest input) answers refusal) e)
  -- The cause of a refusal of the reader or the writer: memory, the writer, the text, or, under a right MAC, the payload.
  pub io : IfErr result (IfIo (λ e. RefusesPlain read input e ⊎ HandsOn write.refuses old e
      ⊎ UnderMac (BeginsText read.tells read.rest input) gives
      (λ key left. Stops suite.seal_of key left (IsTrue (read.tells input && read.steady input)) e)))
  -- Whatever it answers, nothing was appended before the MAC was found to be right, and then a beginning of what the good
  -- chunks open to.
  pub front : IsTrue (read.tells input && read.steady input) → IsTrue (write.tells old) → (new ≡ old)
      ⊎ UnderMac (BeginsText read.tells read.rest input) gives
      (λ key left. AppendsFront write.appended (payload_delivers suite.opened key 0 left).bytes old new)
  -- A file for the identities is opened unless memory is refused, and written out unless memory is or the writer refuses, where the
  -- device never fails; and whatever happens, what is appended is a beginning of its plaintext.
  pub honest : IsTrue (read.tells input && read.steady input) → IsTrue (read.rest input).ends_well → ((r : R) → read.faults r ≡ 0)
      → (file plain : List ℕ) → Carries (read.rest input).bytes file → IsFor plain file
      → IfErr result (DecryptsUnless (λ refusal. refusal ≡ OutOfMemory))
  pub written : IsTrue (read.tells input && read.steady input) → IsTrue (read.rest input).ends_well → ((r : R) → read.faults r ≡ 0)
      → (file plain : List ℕ) → Carries (read.rest input).bytes file → IsFor plain file
      → IfErr result (IfIo (λ e. (e ≡ out_of_memory) ⊎ HandsOn write.refuses old e))
  pub plaintext : IsTrue (read.tells input && read.steady input) → IsTrue (read.rest input).ends_well → IsTrue (write.tells old)
      → (file plain : List ℕ) → Carries (read.rest input).bytes file → IsFor plain file
      → AppendsFront write.appended plain old new

-- So many bytes of its plaintext from a place on. The identities are said in the same way.
pub record DecryptsPart {S R W T : Type 0} (suite : SuiteGhosts S) (read : ReadGhosts R) (write : WriteGhosts W)
    (gives : List ℕ → List StanzaValue → Type 0) (answers : List StanzaValue → UnwrapAnswer → Type 0) (IsFor : List ℕ → List ℕ → Type 0)
    (place count : ℕ) (input last : R) (old new : W) (result : Result T FileError) : Type 0 where
  -- Of a file for the identities they are appended.
  pub cursor : IsTrue (read.tells input) → IsTrue (write.tells old) → IsTrue (read.rest input).ends_well
      → (file plain : List ℕ) → Carries (read.rest input).bytes file → IsFor plain file
      → AppendsPart write.appended write.refuses (IsQuiet (read.faults input) (read.faults last)) place count plain old new result
  -- On any input: whatever it answers, nothing was appended before the MAC was found to be right, and then what stands in the
  -- plaintext from the place on; and where it succeeds no byte of it is missing.
  pub standing : IsTrue (read.tells input) → IsTrue (write.tells old) → (new ≡ old)
      ⊎ AppendsOf (BeginsText read.tells read.rest input) gives write.appended count (StandsAt suite.seal_of place) old new
  pub given : IsTrue (read.tells input) → IsTrue (write.tells old) → OnOk result
      (AppendsOf (BeginsText read.tells read.rest input) gives write.appended count (IsPartAt suite.seal_of place count) old new)
  -- The cause of a refusal of the header or of the identities, where the text is told, which was read to its end by then.
  pub why : IsTrue (read.tells input) → IfErr result
      (DecryptsUnless (RefusesOpening (read.rest input).bytes (BeginsText read.tells read.rest input) answers))
  -- The cause of a refusal of the reader or the writer: memory, the writer, the reader, the target, or what is wrong with the text or the
  -- payload that was read, whatever that was.
  pub io : IfErr result (IfIo (λ e. (e ≡ out_of_memory) ⊎ TriedAgain read.refuses input e ⊎ HandsOn write.refuses old e
      ⊎ IsOutside e ⊎ (e ≡ failed) ⊎ ((text : List ℕ) × RefusesReading text e) ⊎ IsPayloadRefusal e))
  -- Where the text is told, a fault of it is the one in which it ends, and what the payload is refused for is said
  -- only under a right MAC, and of this payload: `PastEnd` where it ends before the place, by its own length.
  pub cause : IsTrue (read.tells input) → IsTrue (write.tells old) → IfErr result (IfIo (λ e. (e ≡ out_of_memory) ⊎ TriedAgain read.refuses input e
      ⊎ HandsOn write.refuses old e ⊎ RefusesReading (read.rest input).bytes e
      ⊎ AppendsOf (BeginsText read.tells read.rest input) gives write.appended count (RefusesPart suite.seal_of (λ f. f ≡ failed) place e) old new))
  -- After a refusal of the header or of the identities nothing was appended.
  pub refused : IfErr result (λ e. IsDecryptError e → new ≡ old)
