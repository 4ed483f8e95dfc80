-- What a command comes to that decrypts, and flushes where that succeeded.
use Rattle.std.specs.Prelude.{◌≡◌, ◌⊎◌, ◌&&◌, ℕ, List, [], Result, Ok, Err, IsTrue, IsErrAnd, OnOk, IfErr}
use Rattle.std.specs.Result.{result_map_both}
use Rattle.age.specs.Types.{Error, DecryptError, FileError, StreamReader}
use Rattle.age.specs.ErrorVariants.{OutOfMemory, PastEnd}
use Rattle.age.specs.FileErrorVariants.{Decrypt, Io}
use Rattle.age.specs.Members.{SuiteMembers, ReadMembers, WriteMembers}
use Rattle.age.specs.Stanza.{StanzaValue}
use Rattle.age.specs.Identities.{UnwrapAnswer, AnswersFirst, GivesFirst, FirstAnswer, IsFileFor}
use Rattle.age.specs.Claims.{AppendsPlaintext}
use Rattle.age.specs.Reading.{TriedAgain}
use Rattle.age.specs.Writing.{Flushes, Retried}
use Rattle.age.specs.DecryptingStreams.{DecryptsAll, DecryptsPart}
use Rattle.age.specs.Parts.{AppendsPart, EndsBefore, IsPartAt, StandsAt}
use Rattle.age.specs.Armor.{Carries}
use Rattle.age.specs.Copying.{AppendsSome, CopyRefuses}
use Rattle.age.specs.Cursor.{IsOutside, IsSeekRefusal, OrTooLong}
use Rattle.age.specs.DeliveredArmor.{text_delivers, stretch_of}
use Rattle.age.specs.FileErrors.{DecryptsUnless, IfIo, IsDecryptError}
use Rattle.age.specs.Migrating.{Migrates, MigratesFiles}
use Rattle.age.specs.Opened.{IsNotOpened, IsOpened}
use Rattle.age.specs.Payload.{Seal}
use Rattle.age.specs.StreamReader.{key_of, payload_of}
use Rattle.age.specs.Stretch.{Stretch, whole}

module _ {W T : Type 0} (write : WriteMembers W) where
  -- The writer was flushed, whose interruptions are tried again, and its refusal is the answer.
  abbrev pub IsFlushed : W → W → Result T FileError → Type 0
  IsFlushed old new result = (flushed : Result T Error)
      × Flushes write.tells write.faults (Retried write.refuses) write.appended old new flushed
      × (result ≡ result_map_both (λ done. done) Io flushed)

  -- A call left the writer so and answered this: a refusal is the answer, and after a success the writer is flushed.
  abbrev pub ThenFlushed : Result T FileError → W → W → Result T FileError → Type 0
  ThenFlushed (Err e) between new result = (result ≡ Err e) × (new ≡ between)
  ThenFlushed (Ok done) between new result = IsFlushed between new result

module _ {I S R W T : Type 0} (unwraps : I → List StanzaValue → UnwrapAnswer → I → Type 0) (suite : SuiteMembers S) (read : ReadMembers R)
    (write : WriteMembers W)
    (identities asked : List I) where
  -- A whole file was decrypted by the first of the identities that answers, and then the writer was flushed.
  abbrev pub DecryptsThenFlushes : R → W → W → Result T FileError → Type 0
  DecryptsThenFlushes input old new result = (between : W) × (done : Result T FileError)
      × DecryptsAll suite read write (GivesFirst unwraps identities asked) (AnswersFirst unwraps identities asked)
      (IsFileFor suite.seal_of (FirstAnswer unwraps identities)) input old between done
      × ThenFlushed write done between new result

  -- A success says that the input carried a file of exactly what was appended, under the file key of that identity: over a steady reader that
  -- tells its bytes, and a writer that always does.
  abbrev pub GivesFile : R → W → W → Result T FileError → Type 0
  GivesFile input old new result = IsTrue (read.tells input && read.steady input) → ((w : W) → IsTrue (write.tells w)) → OnOk result
      (AppendsPlaintext suite.seal_of (GivesFirst unwraps identities asked) write.appended (read.rest input) old new)

  -- So many bytes of the plaintext from a place on were decrypted by the first of the identities that answers, and then the writer was flushed.
  abbrev pub DecryptsSome : ℕ → ℕ → R → R → W → W → Result T FileError → Type 0
  DecryptsSome place count input last old new result = (between : W) × (done : Result T FileError)
      × DecryptsPart suite read write (GivesFirst unwraps identities asked) (AnswersFirst unwraps identities asked)
      (IsFileFor suite.seal_of (FirstAnswer unwraps identities)) place count input last old between done
      × ThenFlushed write done between new result

-- One that reads what a text carries, bare or in armor, from where its reader stands, and of which nothing was read yet.
pub record ReadsText {R T : Type 0} (read : ReadMembers R) (text_read : ReadMembers T) (input : R) (text : T) : Type 0 where
  pub tells : text_read.tells text ≡ read.tells input
  pub steady : text_read.steady text ≡ read.steady input
  pub faults : text_read.faults text ≡ read.faults input
  pub place : text_read.place text ≡ 0
  pub rest : text_read.rest text ≡ stretch_of (text_delivers (read.rest input).bytes (read.rest input).ends_well)
  pub honest : (bytes : List ℕ) → IsTrue (read.rest input).ends_well → Carries (read.rest input).bytes bytes → text_read.rest text ≡ whole bytes

module _ {I R T W : Type 0} (unwraps : I → List StanzaValue → UnwrapAnswer → I → Type 0) where
  -- The file that a text carries was opened by the first of the identities that answers, and of its payload some bytes were appended.
  abbrev pub AppendsOpened : {S : Type 0} → SuiteMembers S → ReadMembers R → ReadMembers T → WriteMembers W → List I → List I → ℕ
      → (List ℕ → Stretch → List ℕ → Type 0) → R → W → W → Type 0
  AppendsOpened {S} suite read text_read write identities asked count Holds input old new = (text : T) × ReadsText read text_read input text
      × (stream : StreamReader S T suite text_read) × IsOpened unwraps identities asked text stream
      × AppendsSome write.appended count (Holds (key_of stream) (payload_of stream)) old new

  -- So many bytes of a file's plaintext from a place on, of a file in which is sought.
  pub record SeeksPart {S V : Type 0} (suite : SuiteMembers S) (read : ReadMembers R) (text_read : ReadMembers T) (write : WriteMembers W)
      (stream_read : ReadMembers (StreamReader S T suite text_read)) (below : Error → Type 0)
      (identities asked : List I) (place count : ℕ) (input : R) (old new : W) (result : Result V FileError) : Type 0 where
    -- Of a file for the identities they are appended.
    pub cursor : IsTrue (read.tells input && read.steady input) → IsTrue (write.tells old) → IsTrue (read.rest input).ends_well
        → (file plain : List ℕ) → Carries (read.rest input).bytes file → IsFileFor suite.seal_of (FirstAnswer unwraps identities) plain file
        → AppendsPart write.appended write.refuses ((r : R) → read.faults r ≡ 0) place count plain old new result
    -- Of any file what is appended stands in the plaintext from the place on; and where it succeeds no byte of it is missing.
    pub standing : IsTrue (read.tells input && read.steady input) → IsTrue (write.tells old)
        → (new ≡ old) ⊎ AppendsOpened suite read text_read write identities asked count (StandsAt suite.seal_of place) input old new
    pub given : IsTrue (read.tells input && read.steady input) → IsTrue (write.tells old)
        → OnOk result (AppendsOpened suite read text_read write identities asked count (IsPartAt suite.seal_of place count) input old new)
    -- After a refusal of the header or of the identities nothing was appended. Its cause.
    pub refused : IfErr result (λ e. IsDecryptError e → new ≡ old)
    pub why : IfErr result (DecryptsUnless (λ refusal. (text : T) × ReadsText read text_read input text
        × IsNotOpened unwraps text_read identities asked text refusal))
    -- The cause of an error of the reader or the writer: memory, or, once the
    -- file was opened, a seek or a read of its plaintext refused, or the writer.
    pub io : IfErr result (IfIo (λ e. (e ≡ OutOfMemory) ⊎ ((text : T) × ReadsText read text_read input text
        × (stream : StreamReader S T suite text_read) × IsOpened unwraps identities asked text stream
        × CopyRefuses (λ e. IsSeekRefusal (OrTooLong below) e ⊎ TriedAgain stream_read.refuses stream e) (Retried write.refuses old count) e)))
    -- That the place is outside is said where the payload ends before it, by its own length, or as the stream's own reads or the writer say it.
    pub outside : IsTrue (read.tells input && read.steady input) → IsTrue (write.tells old) → IfErr result (IfIo (λ e. IsOutside e → (text : T)
        × ReadsText read text_read input text × (stream : StreamReader S T suite text_read) × IsOpened unwraps identities asked text stream
        × (TriedAgain stream_read.refuses stream e ⊎ Retried write.refuses old count e
        ⊎ ((e ≡ PastEnd) × AppendsSome write.appended count (λ out. (out ≡ []) × EndsBefore place (payload_of stream)) old new))))

  -- So many bytes were appended so, and then the writer was flushed.
  abbrev pub GivesPart : {S V : Type 0} (suite : SuiteMembers S) (read : ReadMembers R) (text_read : ReadMembers T) → WriteMembers W
      → ReadMembers (StreamReader S T suite text_read) → (Error → Type 0) → List I → List I → ℕ → ℕ → R → W → W → Result V FileError → Type 0
  GivesPart {S} {V} suite read text_read write stream_read below identities asked place count input old new result =
      (between : W) × (done : Result V FileError)
      × SeeksPart suite read text_read write stream_read below identities asked place count input old between done
      × ThenFlushed write done between new result

  -- A file that a text carries was rewritten as one of the standard, and then the writer was flushed; or memory for reading armor was refused.
  abbrev pub Migrated : {V : Type 0} → Seal → ReadMembers R → ReadMembers T → WriteMembers W → List I → List I → R → W → W → Result V FileError
      → Type 0
  Migrated {V} seal_of read text_read write identities asked input old new result =
      (IsErrAnd result (λ e. e ≡ Io OutOfMemory) × (new ≡ old) × (asked ≡ identities))
      ⊎ ((text : T) × (last : T) × (between : W) × (done : Result V DecryptError) × ReadsText read text_read input text
      × Migrates unwraps text_read write identities asked text last old between done
      × MigratesFiles seal_of unwraps text_read write identities text last old between done
      × ThenFlushed write (result_map_both (λ v. v) Decrypt done) between new result)
