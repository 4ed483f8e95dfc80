-- What opening the file of a text comes to, whatever the text is.
use Rattle.std.specs.Prelude.{◌≡◌, ◌⊎◌, ◌&&◌, ℕ, IsTrue, List, Some, Ok}
use Rattle.age_error.specs.DecryptErrors.{DecryptRefusal}
use Rattle.age_error.specs.declared.io.Error.{Error}
use Rattle.age_suite.specs.declared.suite.Suite.{Ghosts as SuiteMembers}
use Rattle.age_io.specs.declared.traits.Read.{Ghosts as ReadMembers}
use Rattle.age_io.specs.declared.operations.Answer.{Answer}
use Rattle.age_io.specs.declared.operations.Op.{Op}
use Rattle.age_io.specs.Cursor.{OrTooLong}
use Rattle.age_io.specs.Reading.{AddsNoReason, StandsIn, TriedAgain}
use Rattle.age_io.specs.Replies.{CameOfAll}
use Rattle.age_io.specs.Keeping.{SameReader}
use Rattle.age_armor.specs.Refusing.{OrText}
use Rattle.age_v1.specs.DeliveredArmor.{text_delivers, stretch_of}
use Rattle.age_format.specs.HeaderV1.{HeaderValue}
use Rattle.age_v1.specs.HeaderTexts.{canonical}
use Rattle.age_v1.specs.Stanza.{StanzaValue}
use Rattle.age_v1.specs.Identities.{UnwrapAnswer, Unwraps, FirstThatAnswers, decided}
use Rattle.age_stream.specs.Reader.{content_of, faults_of, place_of, plain_rest_of, refuses_of, steady_of, tells_of}
use Rattle.age_stream.specs.Sealed.{ReadsPayload}
use Rattle.age_stream.specs.Seeking.{SeeksPayload}
use Rattle.age_stream.specs.declared.reader.StreamReader.{StreamReader}
use Rattle.age_protocol.specs.Decrypting.{ReadsFront, RefusesFront}
use Rattle.age_protocol.specs.OpeningFile.{OpensFile}
use Rattle.age_protocol.specs.Texts.{RefusesKey}

module _ {I T : Type 0} (unwraps : I → List StanzaValue → UnwrapAnswer → I → Type 0)
    (read : ReadMembers T) where
  -- A header and a nonce were read from the front of the text, no byte more, and the first identity that answers to its stanzas
  -- answers this.
  pub record Asks (old new : List I) (text : T) (h : HeaderValue) (nonce : List ℕ) (input : T) (answer : UnwrapAnswer) : Type 0 where
    pub same : SameReader read text input
    pub narrows : AddsNoReason (TriedAgain read.refuses) text input
    pub front : IsTrue (read.tells text) → ReadsFront (read.rest text) (read.rest input) (read.place text) (read.place input) h nonce
    pub first : FirstThatAnswers (λ identity own next. Unwraps unwraps identity h.stanzas own next) old answer new

  -- No file begins the text, and no identity was asked; or the identities, the MAC or the reader's memory are why.
  abbrev pub IsNotOpened : List I → List I → T → DecryptRefusal → Type 0
  IsNotOpened old new text e = ((new ≡ old) × ((last : T) × RefusesFront canonical read text last e))
      ⊎ ((h : HeaderValue) × (nonce : List ℕ) × (input : T) × (answer : UnwrapAnswer)
      × Asks old new text h nonce input answer × RefusesKey (decided answer) h e)

-- The first identity that answers gave the file key, under which the MAC is right, and this is the reader of the payload.
pub record IsOpened {I S T : Type 0} {suite : SuiteMembers S} {read : ReadMembers T} (unwraps : I → List StanzaValue → UnwrapAnswer → I → Type 0)
    (old new : List I) (text : T) (stream : StreamReader S T suite read) : Type 0 where
  pub h : HeaderValue
  pub nonce : List ℕ
  pub input : T
  pub file_key : List ℕ
  pub asks : Asks unwraps read old new text h nonce input (Some (Ok file_key))
  pub opens : OpensFile file_key h nonce input stream

-- A new reader of the text, bare or in armor, that a reader gives from where it stands: nothing of it was read yet, and this holds of it.
pub record OfText {R A : Type 0} (read : ReadMembers R) (text_read : ReadMembers A) (reader : R) (Holds : A → Type 0) : Type 0 where
  pub text : A
  pub tells : text_read.tells text ≡ read.tells reader
  pub steady : text_read.steady text ≡ read.steady reader
  pub faults : text_read.faults text ≡ read.faults reader
  pub place : text_read.place text ≡ 0
  pub rest : text_read.rest text ≡ stretch_of (text_delivers (read.rest reader).bytes (read.rest reader).ends_well)
  pub stands : IsTrue (read.tells reader && read.steady reader) → StandsIn (text_read.content text) (text_read.place text) (text_read.rest text)
  pub named : (e : Error) → text_read.refuses text e → OrText read reader e
  pub holds : Holds text

module _ {I S T : Type 0} (suite : SuiteMembers S) (read : ReadMembers T) (unwraps : I → List StanzaValue → UnwrapAnswer → I → Type 0)
    (old new : List I) (text : T) where
  -- the file of the text was opened
  abbrev pub WasOpened : Type 0
  WasOpened = (stream : StreamReader S T suite read) × IsOpened unwraps old new text stream

  -- The file of the text was opened, and these answers came of the reads and seeks in turn on its plaintext.
  pub record AnswersInTurn (seek_refuses : Error → Type 0) (ops : List Op) (answers : List Answer) : Type 0 where
    pub stream : StreamReader S T suite read
    pub opened : IsOpened unwraps old new text stream
    pub last : StreamReader S T suite read
    pub came : CameOfAll tells_of steady_of content_of place_of plain_rest_of faults_of refuses_of ReadsPayload (OrTooLong seek_refuses)
        (SeeksPayload seek_refuses)
        ops answers stream last
