-- Files opened by the identities that they are for.
use Rattle.std.specs.Prelude.{◌≡◌, ◌⊎◌, ℕ, ◌&&◌, IsTrue, List, Result, Some, Ok, Err, IfOk, IfErr, MatchResult}
use Rattle.std.proofs.lemmas.Result.{IfErr-weaker}
use Rattle.std.proofs.Common.{◌∙◌, sym, inl, inr, arith}
use Rattle.age_error.specs.DecryptErrors.{DecryptRefusal, OutOfMemory, decrypt_refusal}
use Rattle.age_error.specs.declared.decrypt.DecryptError.{DecryptError}
use Rattle.age_suite.specs.declared.suite.Suite.{Ghosts as SuiteMembers}
use Rattle.age_io.specs.declared.traits.Read.{Ghosts as ReadMembers}
use Rattle.age_io.specs.Reading.{IsQuiet}
use Rattle.age_v1.specs.Stanza.{StanzaValue}
use Rattle.age_format.specs.HeaderV1.{HeaderValue}
use Rattle.age_v1.specs.HeaderMac.{header_mac}
use Rattle.age_v1.specs.Identities.{UnwrapAnswer, decided, FirstAnswer, IsFileFor}
use Rattle.age_v1.specs.Header.{covered_text}
use Rattle.age_stream.specs.ReadingLemmas.{and-left}
use Rattle.age_stream.specs.declared.reader.StreamReader.{StreamReader}
use Rattle.age_protocol.specs.OpeningFile.{AnswersReader, StandsBefore}
use Rattle.age_protocol.proofs.Decrypted.{both_told, refused_key}
use Rattle.age_protocol.proofs.Opened.{decided_key}
use Rattle.age_protocol.specs.Laws.{RefusesNoFile, FileOpens, FileIsContent}
use Rattle.age_protocol.specs.Opened.{Asks, IsOpened, IsNotOpened}
use Rattle.age_protocol.specs.Texts.{RefusesKey}
use Rattle.age_protocol.proofs.Accepted.{begins}

-- a device that never fails
pub never_fails : {T : Type 0} (faults : T → ℕ) (a b : T) → ((t : T) → faults t ≡ 0) → IsQuiet (faults a) (faults b)
never_fails faults a b none = record { same = none b ∙ sym (none a); below = omega (arith, none b) }

module _ {I S T : Type 0} {suite : SuiteMembers S} {read : ReadMembers T} (unwraps : I → List StanzaValue → UnwrapAnswer → I → Type 0)
    (old new : List I) (text : T) (h : HeaderValue) (nonce : List ℕ) (input : T) where
  -- what comes of it once the identities were asked
  pub asked : (answer : UnwrapAnswer) (result : Result (StreamReader S T suite read) DecryptError)
      → Asks unwraps read old new text h nonce input answer
      → AnswersReader (decided answer) h nonce input result → IfOk result (λ stream. IsOpened unwraps old new text stream)
  asked answer (Ok stream) asks d =
      let (key, is, opens) = decided_key answer h nonce input stream d in
      record { h = h; nonce = nonce; input = input; file_key = key; asks = rw is at asks; opens = opens }
  asked answer (Err e) asks d = tt

  -- and where no reader is given it is refused
  pub not_asked : (answer : UnwrapAnswer) (result : Result (StreamReader S T suite read) DecryptError)
      → Asks unwraps read old new text h nonce input answer → AnswersReader (decided answer) h nonce input result
      → IfErr result (λ e. IsNotOpened unwraps read old new text (decrypt_refusal e))
  not_asked answer result asks d = IfErr-weaker result _ _ (λ e why. inr (h, nonce, input, answer, asks, why)) (refused_key _ _ _ _ _ d)

module _ {I S T : Type 0} (suite : SuiteMembers S) (read : ReadMembers T) (unwraps : I → List StanzaValue → UnwrapAnswer → I → Type 0)
    (accepted : RefusesNoFile read) (opens : FileOpens suite.seal_of) (is_content : FileIsContent suite read) (old new : List I) (text : T)
    (told : IsTrue (read.tells text && read.steady text)) (well : IsTrue (read.rest text).ends_well) (plain : List ℕ)
    (for : IsFileFor suite.seal_of (FirstAnswer unwraps old) plain (read.rest text).bytes) where
  right_key : (h : HeaderValue) (e : DecryptRefusal) (answer : UnwrapAnswer) → h.mac ≡ header_mac for.file_key (covered_text h.stanzas)
      → RefusesKey (decided answer) h e
      → (answer ≡ Some (Ok for.file_key)) ⊎ (answer ≡ Some (Err OutOfMemory)) → e ≡ OutOfMemory
  right_key h e answer right why (inl is) = elim (rw is at why) [
    | inl wrong ↦ absurd (wrong.0 right)
    | inr memory ↦ memory.1
  ]
  right_key h e answer right why (inr is) = rw is at why

  same_key : (file_key : List ℕ) → Path UnwrapAnswer (Some (Ok file_key)) (Some (Ok for.file_key))
      ⊎ Path UnwrapAnswer (Some (Ok file_key)) (Some (Err OutOfMemory))
      → file_key ≡ for.file_key
  same_key file_key (inl is) = cc
  same_key file_key (inr is) = absurd (Prim.cc)

  -- a file for the identities is opened before its plaintext, or refused for want of memory
  pub stands_or_want : (result : Result (StreamReader S T suite read) DecryptError) → IfOk result (λ stream. IsOpened unwraps old new text stream)
      → IfErr result (λ e. IsNotOpened unwraps read old new text (decrypt_refusal e))
      → MatchResult result (λ stream. StandsBefore plain stream) (λ e. ((t : T) → read.faults t ≡ 0) → decrypt_refusal e ≡ OutOfMemory)
  stands_or_want (Ok stream) is none =
      let asks = is.asks in
      let front = asks.front (and-left _ _ told) in
      let (stanzas_are, right, nonce_is, left, end) =
      opens (read.rest text) (read.rest is.input) (read.place text)
      (read.place is.input) is.h is.nonce for.file_key for.stanzas plain front for.is_file in
      let key = same_key is.file_key (for.right (Some (Ok is.file_key)) (new, rw stanzas_are at asks.first)) in
      is_content (read.rest text) (read.place text) is.h is.nonce for.file_key for.stanzas plain is.input stream front for.is_file for.bytes
      for.within for.last well
      (both_told _ _ _ _ asks.same.tells asks.same.steady told) (rw key at is.opens)
  stands_or_want (Err e) none (inl (same, (last, refuses))) = λ still.
      accepted text last (decrypt_refusal e) _ _ _ _ refuses (and-left _ _ told) (never_fails read.faults text last still)
      (begins suite.seal_of for.file_key for.stanzas plain (read.rest text).bytes for.is_file)
  stands_or_want (Err e) none (inr (h, nonce, input, answer, asks, why)) = λ still.
      let front = asks.front (and-left _ _ told) in
      let (stanzas_are, right, nonce_is, left, end) =
      opens (read.rest text) (read.rest input) (read.place text) (read.place input) h nonce for.file_key for.stanzas plain front for.is_file in
      right_key h (decrypt_refusal e) answer right why (for.right answer (new, rw stanzas_are at asks.first))
