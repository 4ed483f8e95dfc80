-- One kind of identities as another.
use Rattle.std.specs.Prelude.{◌≡◌, ◌⊎◌, ◌&&◌, ℕ, IsTrue, List, Result}
use Rattle.std.proofs.Common.{inl, inr}
use Rattle.std.proofs.lemmas.Result.{on_ok_weaker, IfErr-weaker}
use Rattle.age_error.specs.DecryptErrors.{DecryptRefusal, IfIoRefusal}
use Rattle.age_suite.specs.declared.suite.Suite.{Ghosts as SuiteGhosts}
use Rattle.age_io.specs.declared.traits.Read.{Ghosts as ReadGhosts}
use Rattle.age_io.specs.declared.traits.Write.{Ghosts as WriteGhosts}
use Rattle.age_io.specs.Stretch.{Stretch}
use Rattle.age_format.specs.HeaderV1.{HeaderValue}
use Rattle.age_v1.specs.Stanza.{StanzaValue}
use Rattle.age_v1.specs.Identities.{UnwrapAnswer}
use Rattle.age_v1.specs.Claims.{AppendsPlaintext}
use Rattle.age_protocol.specs.Texts.{RefusesText, BeginsText, RefusesAnswered, UnderMac, RefusesHead, RefusesPlain}
use Rattle.age_protocol.specs.DecryptingStreams.{DecryptsAll, DecryptsPart}
use Rattle.age_error.specs.declared.file.FileError.{FileError}
use Rattle.age_error.specs.declared.file.FileError.TheVariants.{Io, Encrypt, Decrypt}
use Rattle.age_protocol.specs.WholeFiles.{LacksFront}
use Rattle.age_error.specs.FileErrors.{IfIo}
use Rattle.age_v1.specs.DeliveredPayload.{payload_delivers}
use Rattle.age_stream.specs.Keeping.{Stops}
use Rattle.age_v1.specs.Payload.{Seal}
use Rattle.age_io.specs.Copying.{AppendsFront}
use Rattle.age_io.specs.Writing.{HandsOn}
use Rattle.age_error.specs.declared.io.Error.{Error}
use Rattle.age_protocol.specs.Parts.{StandsAt, IsPartAt, RefusesPart}
use Rattle.age_error.specs.declared.io.Error.TheVariants.{Failed as failed}
use Rattle.age_protocol.proofs.Texts.{under_mac, refuses_answered}
use Rattle.age_protocol.proofs.Standing.{begun, begun-or}
use Rattle.age_protocol.proofs.Decrypted.{by_cause, decrypts_weaker}

-- the same cause of a refusal
same_cause : (Text : DecryptRefusal → Type 0) (begins : HeaderValue → List ℕ → Stretch → Type 0)
    (answers own : List StanzaValue → UnwrapAnswer → Type 0)
    → ((stanzas : List StanzaValue) (answer : UnwrapAnswer) → answers stanzas answer → own stanzas answer) → (refusal : DecryptRefusal)
    → Text refusal ⊎ RefusesAnswered begins answers refusal → Text refusal ⊎ RefusesAnswered begins own refusal
same_cause Text begins answers own answered refusal (inl text) = inl text
same_cause Text begins answers own answered refusal (inr asked) =
    inr (refuses_answered begins begins (λ h nonce left begun. begun) answers own answered refusal asked)

-- what holds of the reader's or the writer's error
pub io_weaker : (Holds More : Error → Type 0) → ((e : Error) → Holds e → More e) → (e : FileError) → IfIo Holds e → IfIo More e
io_weaker Holds More wider (Io e) h = wider e h
io_weaker Holds More wider (Encrypt e) h = tt
io_weaker Holds More wider (Decrypt e) h = tt

-- the same reason of a refusal, told of other identities
same_reason : {R W : Type 0} (read : ReadGhosts R) (refuses : W → ℕ → Error → Type 0) (input : R) (old : W)
    (begins : HeaderValue → List ℕ → Stretch → Type 0)
    (gives by : List ℕ → List StanzaValue → Type 0) → ((key : List ℕ) (stanzas : List StanzaValue) → gives key stanzas → by key stanzas)
    → (Says : List ℕ → Stretch → Type 0) (e : Error)
    → RefusesPlain read input e ⊎ HandsOn refuses old e ⊎ UnderMac begins gives Says
    → RefusesPlain read input e ⊎ HandsOn refuses old e ⊎ UnderMac begins by Says
same_reason read refuses input old begins gives by given Says e (inl plain) = inl plain
same_reason read refuses input old begins gives by given Says e (inr (inl writer)) = inr (inl writer)
same_reason read refuses input old begins gives by given Says e (inr (inr payload)) =
    inr (inr (under_mac begins begins (λ h nonce left begun. begun) gives by Says Says given (λ key sealed says. says) payload))

-- the same file, told of other identities
appends_plaintext_as : {W : Type 0} (seal_of : Seal) (gives by : List ℕ → List StanzaValue → Type 0)
    → ((key : List ℕ) (stanzas : List StanzaValue) → gives key stanzas → by key stanzas)
    → (appended : W → List ℕ → W → Type 0) (input : Stretch) (old new : W)
    → AppendsPlaintext seal_of gives appended input old new → AppendsPlaintext seal_of by appended input old new
appends_plaintext_as seal_of gives by given appended input old new done = record {
  plain = done.plain;
  ended = done.ended;
  file = record {
    carried = done.file.carried;
    carries = done.file.carries;
    file_key = done.file.file_key;
    stanzas = done.file.stanzas;
    given = given done.file.file_key done.file.stanzas done.file.given;
    bytes = done.file.bytes;
    is_file = done.file.is_file;
  };
  out = done.out;
}

-- what is given, what is answered, and which files are theirs may be said in another way
pub decrypts_all_as : {S R W T : Type 0} (suite : SuiteGhosts S) (read : ReadGhosts R) (write : WriteGhosts W)
    (gives by : List ℕ → List StanzaValue → Type 0) (answers own : List StanzaValue → UnwrapAnswer → Type 0) (IsFor IsOwn : List ℕ → List ℕ → Type 0)
    (input : R) (old new : W) (result : Result T FileError)
    → ((key : List ℕ) (stanzas : List StanzaValue) → gives key stanzas → by key stanzas)
    → ((stanzas : List StanzaValue) (answer : UnwrapAnswer) → answers stanzas answer → own stanzas answer)
    → ((plain file : List ℕ) → IsOwn plain file → IsFor plain file)
    → DecryptsAll suite read write gives answers IsFor input old new result → DecryptsAll suite read write by own IsOwn input old new result
decrypts_all_as {S} {R} {W} {T} suite read write gives by answers own IsFor IsOwn input old new result given answered for all = record {
  file = λ reader_told writer_told.
      on_ok_weaker result (appends_plaintext_as suite.seal_of gives by given write.appended (read.rest input) old new)
      (all.file reader_told writer_told);
  refused = all.refused;
  why =
      IfErr-weaker result _ _
      (decrypts_weaker _ _ (same_cause (λ refusal. ((last : R) × RefusesText read.tells read.rest read.faults input last refusal)
      × IfIoRefusal (RefusesHead read input) refusal)
      (BeginsText read.tells read.rest input) answers own answered))
      all.why;
  front = λ reader_told writer_told.
      by_cause inl
      (λ opened.
      let begins = BeginsText read.tells read.rest input in
      let Appends = λ (key : List ℕ) (left : Stretch). AppendsFront write.appended (payload_delivers suite.opened key 0 left).bytes old new in
      inr (under_mac begins begins (λ h nonce left begun. begun) gives by Appends Appends given (λ key left appended. appended) opened))
      (all.front reader_told writer_told);
  io =
      IfErr-weaker result _ _
      (io_weaker _ _ (λ e why. same_reason read write.refuses input old (BeginsText read.tells read.rest input) gives by given
      (λ key left. Stops suite.seal_of key left (IsTrue (read.tells input && read.steady input)) e) e why))
      all.io;
  written = λ told well never file plain carries own_file. all.written told well never file plain carries (for plain file own_file);
  honest = λ told well never file plain carries own_file. all.honest told well never file plain carries (for plain file own_file);
  plaintext = λ told well writer_told file plain carries own_file. all.plaintext told well writer_told file plain carries (for plain file own_file);
}

pub decrypts_part_as : {S R W T : Type 0} (suite : SuiteGhosts S) (read : ReadGhosts R) (write : WriteGhosts W)
    (gives by : List ℕ → List StanzaValue → Type 0) (answers own : List StanzaValue → UnwrapAnswer → Type 0) (IsFor IsOwn : List ℕ → List ℕ → Type 0)
    (place count : ℕ) (input last : R) (old new : W) (result : Result T FileError)
    → ((key : List ℕ) (stanzas : List StanzaValue) → gives key stanzas → by key stanzas)
    → ((stanzas : List StanzaValue) (answer : UnwrapAnswer) → answers stanzas answer → own stanzas answer)
    → ((plain file : List ℕ) → IsOwn plain file → IsFor plain file)
    → DecryptsPart suite read write gives answers IsFor place count input last old new result
    → DecryptsPart suite read write by own IsOwn place count input last old new result
decrypts_part_as suite read write gives by answers own IsFor IsOwn place count input last old new result given_so answered for part = record {
  cursor = λ reader_told writer_told well file plain carries own_file. part.cursor reader_told writer_told well file plain carries
      (for plain file own_file);
  standing = λ reader_told writer_told.
      begun-or (BeginsText read.tells read.rest input) (BeginsText read.tells read.rest input) gives by write.appended count
      (StandsAt suite.seal_of place) old new
      (λ h nonce left begins. begins) given_so (part.standing reader_told writer_told);
  given = λ reader_told writer_told.
      on_ok_weaker result
      (begun (BeginsText read.tells read.rest input) (BeginsText read.tells read.rest input) gives by write.appended count
      (IsPartAt suite.seal_of place count) old new
      (λ h nonce left begins. begins) given_so)
      (part.given reader_told writer_told);
  io = part.io;
  why = λ reader_told.
      IfErr-weaker result _ _
      (decrypts_weaker _ _ (same_cause (LacksFront (read.rest input).bytes) (BeginsText read.tells read.rest input) answers own answered))
      (part.why reader_told);
  cause = λ reader_told writer_told.
      IfErr-weaker result _ _
      (io_weaker _ _ (λ e why. elim why [
        | inl memory ↦ inl memory
        | inr other ↦ elim other [
          | inl tried ↦ inr (inl tried)
          | inr more ↦ elim more [
            | inl writes ↦ inr (inr (inl writes))
            | inr rest ↦ elim rest [
              | inl reading ↦ inr (inr (inr (inl reading)))
              | inr payload ↦ inr (inr (inr (inr (begun (BeginsText read.tells read.rest input)
                  (BeginsText read.tells read.rest input) gives by write.appended count
                  (RefusesPart suite.seal_of (λ f. f ≡ failed) place e) old new (λ h nonce left begins. begins) given_so payload))))
            ]
          ]
        ]
      ]))
      (part.cause reader_told writer_told);
  refused = part.refused;
}
