-- What a file comes to whose key was found, or refused, under a passphrase.
use Rattle.std.specs.Prelude.{◌≡◌, ℕ, List, Result, Ok, Err}
use Rattle.std.proofs.Common.{◌∙◌, ap, inl, inr}
use Rattle.age_error.specs.DecryptErrors.{DecryptRefusal, decrypt_refusal}
use Rattle.age_error.specs.declared.decrypt.DecryptError.{DecryptError}
use Rattle.age_suite.specs.declared.suite.Suite.{Ghosts as SuiteMembers}
use Rattle.age_io.specs.declared.traits.Read.{Ghosts as ReadMembers}
use Rattle.age_format.specs.HeaderV1.{HeaderValue}
use Rattle.age_v1.specs.Stanza.{StanzaValue}
use Rattle.age_v1.specs.Identities.{UnwrapAnswer, FirstOf, Steady, Unwraps, decided}
use Rattle.age_v1.proofs.AskedInTurn.{either_way}
use Rattle.age_stream.specs.declared.reader.StreamReader.{StreamReader}
use Rattle.age_protocol.specs.OpeningFile.{AnswersReader}
use Rattle.age_encrypted.specs.Protected.{own_refusal, of_passphrase}

module _ {S R : Type 0} (suite : SuiteMembers S) (read : ReadMembers R) (h : HeaderValue) (nonce : List ℕ) (input : R) where
  -- what is opened is opened as it was
  opens_so : (key : Result (List ℕ) DecryptRefusal) (stream : StreamReader S R suite read)
      → AnswersReader {suite = suite} {read = read} key h nonce input (Ok stream)
      → AnswersReader {suite = suite} {read = read} (of_passphrase key) h nonce input (Ok stream)
  opens_so (Ok key) stream opens = opens
  opens_so (Err refusal) stream none = none

  -- and what is refused has the refusal of its own
  refuses_so : (key : Result (List ℕ) DecryptRefusal) (e named : DecryptError) → decrypt_refusal named ≡ own_refusal (decrypt_refusal e)
      → AnswersReader {suite = suite} {read = read} key h nonce input (Err e)
      → AnswersReader {suite = suite} {read = read} (of_passphrase key) h nonce input (Err named)
  refuses_so (Ok key) e named is (inl (wrong, own)) = inl (wrong, is ∙ ap own_refusal own)
  refuses_so (Ok key) e named is (inr (right, own)) = inr (right, is ∙ ap own_refusal own)
  refuses_so (Err refusal) e named is own = is ∙ ap own_refusal own

  module _ {I : Type 0} (asks : I → StanzaValue → UnwrapAnswer → Type 0) (identity : I) where
    -- What a decryptor of this front answers to an identity that doesn't change, with the refusals as they are, and as they are named.
    abbrev pub Answers : Result (StreamReader S R suite read) DecryptError → Type 0
    Answers result = (answer : UnwrapAnswer) × (after : I) × Unwraps (FirstOf (Steady asks)) identity h.stanzas answer after
        × AnswersReader (decided answer) h nonce input result

    abbrev pub AnswersNamed : Result (StreamReader S R suite read) DecryptError → Type 0
    AnswersNamed result = (answer : UnwrapAnswer) × FirstOf (Steady asks) identity h.stanzas answer identity
        × AnswersReader (of_passphrase (decided answer)) h nonce input result

    pub stream_named : (stream : StreamReader S R suite read) → Answers (Ok stream) → AnswersNamed (Ok stream)
    stream_named stream (answer, after, asked, opens) =
        (answer, either_way asks identity h.stanzas answer after asked, opens_so (decided answer) stream opens)

    pub refusal_named : (e named : DecryptError) → decrypt_refusal named ≡ own_refusal (decrypt_refusal e) → Answers (Err e)
        → AnswersNamed (Err named)
    refusal_named e named is (answer, after, asked, refused) =
        (answer, either_way asks identity h.stanzas answer after asked, refuses_so (decided answer) e named is refused)
