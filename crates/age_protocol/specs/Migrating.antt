-- Files from before the standard, in whose headers stanzas may have the legacy form, and what they are rewritten as.
use Rattle.std.specs.Prelude.{◌≡◌, ◌≢◌, ◌⊎◌, ℕ, ◌<◌, List, ◌++◌, IsTrue, Some, Result, Ok, Err, IfOk, OnOk, IfErr, IsErrAnd, MatchResult}
use Rattle.age_error.specs.Bytes.{AreBytesOf}
use Rattle.age_error.specs.DecryptErrors.{DecryptRefusal, InvalidMac, OutOfMemory, decrypt_refusal, decrypt_of_io, IsInterruptedRefusal}
use Rattle.age_error.specs.declared.decrypt.DecryptError.{DecryptError}
use Rattle.age_error.specs.declared.io.Error.{Error}
use Rattle.age_error.specs.declared.io.Error.TheVariants as io
use Rattle.age_error.specs.Refusals.{IsDevice}
use Rattle.age_io.specs.declared.traits.Read.{Ghosts as ReadGhosts}
use Rattle.age_io.specs.declared.traits.Write.{Ghosts as WriteGhosts}
use Rattle.age_io.specs.Stretch.{Stretch}
use Rattle.age_io.specs.Keeping.{SameReader}
use Rattle.age_io.specs.Reading.{AddsNoReason, TriedAgain, IsQuiet, Delivers}
use Rattle.age_io.specs.Writing.{HandsOn}
use Rattle.age_io.specs.Copying.{AppendsFront}
use Rattle.age_v1.specs.HeaderTexts.{or_legacy, IsHeaderText, covered}
use Rattle.age_v1.specs.Stanza.{StanzaValue}
use Rattle.age_v1.specs.Header.{KeepsScryptRule, covered_text}
use Rattle.age_format.specs.HeaderV1.{HeaderValue}
use Rattle.age_v1.specs.HeaderMac.{header_mac}
use Rattle.age_format.specs.OldHeader.{OldHeaderValue}
use Rattle.age_v1.specs.Identities.{UnwrapAnswer, Unwraps, FirstThatAnswers, decided, FirstAnswer}
use Rattle.age_v1.specs.Payload.{Seal, payload, payload_key}
use Rattle.age_protocol.specs.Decrypting.{TookHeaderAndNonce, RefusesFront}
use Rattle.age_v1.specs.File.{IsFileOf, file_front, file_text}
use Rattle.age_protocol.specs.declared.migrate.OldFront.{OldFront}

-- The bytes are an old file of this plaintext under this file key: a header of these stanzas, in which they may have the legacy
-- form, which keeps the rule on passphrases and whose MAC is right for its text as it is, a nonce, and the plaintext's payload.
pub record IsOldFileOf (seal_of : Seal) (file_key : List ℕ) (stanzas : List StanzaValue) (plain bytes : List ℕ) : Type 0 where
  pub text : List ℕ
  pub mac : List ℕ
  pub nonce : List ℕ
  pub header : IsHeaderText or_legacy text stanzas mac
  pub rule : KeepsScryptRule stanzas
  pub right : mac ≡ header_mac file_key (covered text)
  pub sixteen : AreBytesOf 16 nonce
  pub whole : bytes ≡ text ++ (nonce ++ payload seal_of (payload_key file_key nonce) plain)

-- Such a header and a nonce were taken from the front of the rest, and where a stanza is one of a passphrase it is the only one.
pub record ReadsOldFront (old new : Stretch) (old_place new_place : ℕ) (h : OldHeaderValue) (nonce : List ℕ) : Type 0 where
  pub text : List ℕ
  pub took : TookHeaderAndNonce or_legacy old new old_place new_place text h.stanzas h.mac nonce
  pub told : h.covered ≡ covered text
  pub rule : KeepsScryptRule h.stanzas

-- What reading them from a reader answers.
pub record ReadsOldFrontOf {R : Type 0} (read : ReadGhosts R) (old new : R) (result : Result OldFront DecryptError) : Type 0 where
  pub keeps : IfOk result (λ f. SameReader read old new)
  pub narrows : OnOk result (AddsNoReason (TriedAgain read.refuses) old new)
  pub sixteen : IfOk result (λ f. AreBytesOf 16 f.nonce)
  pub front : IsTrue (read.tells old) → IfOk result (λ f.
      ReadsOldFront (read.rest old) (read.rest new) (read.place old) (read.place new) f.header f.nonce)
  pub patient : IfErr result (λ e. IsInterruptedRefusal (decrypt_refusal e) → ⊥)
  pub refused : IfErr result (λ e. RefusesFront or_legacy read old new (decrypt_refusal e))

-- The header of the same stanzas, with its own MAC under the file key.
abbrev pub IsRewritten : List ℕ → OldHeaderValue → HeaderValue → Type 0
IsRewritten file_key old new = (new.stanzas ≡ old.stanzas) × (new.mac ≡ header_mac file_key (covered_text old.stanzas))

-- Of the file key, or the refusal, by the identity that decides: a refusal is the answer. With a file key the answer is
-- `InvalidMac` exactly where the old header's MAC is wrong under it, else the header, unless memory was refused.
abbrev pub Rewrites : Result (List ℕ) DecryptRefusal → OldHeaderValue → Result HeaderValue DecryptError → Type 0
Rewrites (Err refusal) h result = IsErrAnd result (λ e. decrypt_refusal e ≡ refusal)
Rewrites (Ok file_key) h result =
    ((h.mac ≢ header_mac file_key h.covered) × IsErrAnd result (λ e. decrypt_refusal e ≡ InvalidMac))
    ⊎ ((h.mac ≡ header_mac file_key h.covered)
    × MatchResult result (λ new. IsRewritten file_key h new) (λ e. decrypt_refusal e ≡ OutOfMemory))

-- the same, of the refusal alone
abbrev pub RefusesOld : Result (List ℕ) DecryptRefusal → OldHeaderValue → DecryptRefusal → Type 0
RefusesOld (Err own) h refusal = refusal ≡ own
RefusesOld (Ok file_key) h refusal =
    ((h.mac ≢ header_mac file_key h.covered) × (refusal ≡ InvalidMac)) ⊎ ((h.mac ≡ header_mac file_key h.covered) × (refusal ≡ OutOfMemory))

module _ {I R : Type 0} (unwraps : I → List StanzaValue → UnwrapAnswer → I → Type 0) (read : ReadGhosts R) where
  -- An old header and a nonce were read from the front of the input, and the first identity that answers to its stanzas answers this.
  pub record AsksOld (old new : List I) (input : R) (h : OldHeaderValue) (nonce : List ℕ) (after : R) (answer : UnwrapAnswer) : Type 0 where
    pub same : SameReader read input after
    pub narrows : AddsNoReason (TriedAgain read.refuses) input after
    pub front : IsTrue (read.tells input) → ReadsOldFront (read.rest input) (read.rest after) (read.place input) (read.place after) h nonce
    pub first : FirstThatAnswers (λ identity own next. Unwraps unwraps identity h.stanzas own next) old answer new

  -- It answers a file key under which the MAC is right, and this holds of the file that is to be written, without its payload, and of
  -- what is left of the input.
  abbrev pub UnderOldMac : List I → List I → R → (List ℕ → R → Type 0) → Type 0
  UnderOldMac old new input Holds = (h : OldHeaderValue) × (nonce : List ℕ) × (after : R) × (file_key : List ℕ)
      × AsksOld old new input h nonce after (Some (Ok file_key)) × (h.mac ≡ header_mac file_key h.covered)
      × Holds (file_front file_key h.stanzas nonce) after

-- Why it ends after the MAC was found to be right: for want of memory, as the reader or the writer refuses, or since the input has more
-- pieces than are counted, to which no reader comes that tells its bytes.
pub record StopsAfterMac {R W : Type 0} (read : ReadGhosts R) (write : WriteGhosts W) (input last : R) (old new : W)
    (refusal : DecryptRefusal) : Type 0 where
  pub error : Error
  pub is : refusal ≡ decrypt_refusal (decrypt_of_io error)
  pub device : IsDevice error → (read.faults input < read.faults last) ⊎ (write.faults old < write.faults new)
  pub why : (error ≡ io.OutOfMemory) ⊎ TriedAgain read.refuses input error ⊎ HandsOn write.refuses old error
      ⊎ ((error ≡ io.TooLong) × (IsTrue (read.tells input) → ⊥))
  -- an input that ends well isn't why without a fault
  pub quiet : IsTrue (read.tells input) → IsTrue (read.rest input).ends_well → IsQuiet (read.faults input) (read.faults last)
      → (error ≡ io.OutOfMemory) ⊎ HandsOn write.refuses old error

-- What `migrate` does.
pub record Migrates {I R W T : Type 0} (unwraps : I → List StanzaValue → UnwrapAnswer → I → Type 0) (read : ReadGhosts R) (write : WriteGhosts W)
    (before after : List I) (input last : R) (old new : W) (result : Result T DecryptError) : Type 0 where
  -- A success says that the input began with an old header whose MAC is right and a nonce, and ended well; the header of the same
  -- stanzas with its own MAC, the nonce and all that was left were appended, and the input was taken to its end.
  pub done : IsTrue (read.tells input) → IsTrue (write.tells old) → OnOk result (UnderOldMac unwraps read before after input
      (λ front rest. IsTrue (read.rest rest).ends_well × Delivers (read.rest rest).bytes (read.rest rest) (read.rest last)
      × write.appended old (front ++ (read.rest rest).bytes) new))
  -- Whatever it answers, nothing was appended before the MAC was found to be right, and then a beginning of these.
  pub front : IsTrue (read.tells input) → IsTrue (write.tells old) → (new ≡ old)
      ⊎ UnderOldMac unwraps read before after input (λ front rest. AppendsFront write.appended (front ++ (read.rest rest).bytes) old new)
  -- A refusal: no old header with a nonce begins the input, and no identity was asked; or what the identities answer, the MAC or
  -- memory is why; after both nothing was appended. Or it ends after that.
  pub refused : IfErr result (λ e. let refusal = decrypt_refusal e in
      ((after ≡ before) × (new ≡ old) × RefusesFront or_legacy read input last refusal)
      ⊎ ((new ≡ old) × ((h : OldHeaderValue) × (nonce : List ℕ) × (answer : UnwrapAnswer)
      × AsksOld unwraps read before after input h nonce last answer × RefusesOld (decided answer) h refusal))
      ⊎ UnderOldMac unwraps read before after input (λ front rest. StopsAfterMac read write input last old new refusal))

-- Of an old file the file of the same plaintext was appended, or after a refusal a beginning of it.
pub record AppendsMigrated {W T : Type 0} (seal_of : Seal) (write : WriteGhosts W) (file_key : List ℕ) (stanzas : List StanzaValue)
    (nonce plain : List ℕ)
    (old new : W) (result : Result T DecryptError) : Type 0 where
  pub is_file : IsFileOf seal_of file_key stanzas plain (file_text seal_of file_key stanzas nonce plain)
  pub all : OnOk result (write.appended old (file_text seal_of file_key stanzas nonce plain) new)
  pub front : AppendsFront write.appended (file_text seal_of file_key stanzas nonce plain) old new

-- So it is of an input that is an old file for the identities. Where the reader has no fault it is refused for want of memory or by the
-- writer alone.
abbrev pub MigratesFiles : {I R W T : Type 0} → Seal → (I → List StanzaValue → UnwrapAnswer → I → Type 0) → ReadGhosts R → WriteGhosts W
    → List I → R → R → W → W → Result T DecryptError → Type 0
MigratesFiles seal_of unwraps read write before input last old new result =
    IsTrue (read.tells input) → IsTrue (read.rest input).ends_well → IsTrue (write.tells old)
    → (file_key : List ℕ) (stanzas : List StanzaValue) (plain : List ℕ) (is : IsOldFileOf seal_of file_key stanzas plain (read.rest input).bytes)
    → ((answer : UnwrapAnswer) → FirstAnswer unwraps before stanzas answer → (answer ≡ Some (Ok file_key)) ⊎ (answer ≡ Some (Err OutOfMemory)))
    → AppendsMigrated seal_of write file_key stanzas is.nonce plain old new result
    × (IsQuiet (read.faults input) (read.faults last)
    → IfErr result (λ e. (error : Error) × (decrypt_refusal e ≡ decrypt_refusal (decrypt_of_io error))
    × ((error ≡ io.OutOfMemory) ⊎ HandsOn write.refuses old error)))
