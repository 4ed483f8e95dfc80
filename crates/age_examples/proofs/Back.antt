-- Why a plaintext isn't written as a file in memory, and for whom a file that was written is one.
use Rattle.std.specs.Prelude.{◌≡◌, ◌⊎◌, ℕ, ◌+◌, ◌^◌, ◌≤◌, ◌<◌, List, length, Result, Some, Ok, Err, IfErr}
use Rattle.std.proofs.Common.{subst, inl, inr, add-zero}
use Rattle.age.specs.Bytes.{AreBytes}
use Rattle.age.specs.DecryptErrors as decrypt
use Rattle.age.specs.EncryptErrors.{EncryptRefusal}
use Rattle.age.specs.Encrypting.{Prepared, Prepares}
use Rattle.age.specs.ErrorVariants.{Device, OutOfMemory, TooLong}
use Rattle.age.specs.ErrorKindVariants.{Interrupted}
use Rattle.age.specs.File.{IsFileOf, file_text}
use Rattle.age.specs.FileErrors.{DecryptsUnless, EncryptsUnless, IfIo}
use Rattle.age.specs.FileErrorVariants as file
use Rattle.age.specs.Identities.{FirstAnswer, IsFileFor, UnwrapAnswer}
use Rattle.age.specs.Payload.{Seal}
use Rattle.age.specs.Recipients.{WrapAnswer}
use Rattle.age.specs.Stanza.{StanzaValue}
use Rattle.age.specs.StreamWriting.{Refused, WasMade}
use Rattle.age.specs.StreamWritingLemmas.{Refused-made, Refused-patient}
use Rattle.age.specs.Types.{Error, FileError, StreamWriter}
use Rattle.age.specs.WholeFiles.{RefusesFile}
use Rattle.age.specs.Writing.{HandsOn, Narrows, OrMemory, Retried}
use Rattle.age.specs.WritingLemmas.{retried-plain}
use Rattle.age.specs.FileLaws.{PreparesApart}
use Rattle.age_examples.specs.Keys.{AlwaysGiveKeysBack, IsNotWritten, RefusesUnless}

-- a writer that refuses for want of memory alone, as a list does
abbrev ForWant : {W : Type 0} → W → ℕ → Error → Type 0
ForWant w n e = e ≡ OutOfMemory

want-retried : {W : Type 0} (w : W) (n : ℕ) (e : Error) → Retried ForWant w n e → e ≡ OutOfMemory
want-retried w n e (inl plain) = plain.1
want-retried w n e (inr worn) = absurd (Prim.cc)

-- does so also where it is tried again, whichever it is
pub want-handed : (e : Error) → OrMemory {S = ℕ} (Retried {S = ℕ} (λ (w : ℕ) (m : ℕ) (it : Error). it ≡ OutOfMemory)) 0 0 e → e ≡ OutOfMemory
want-handed e (inl memory) = memory
want-handed e (inr h) = want-retried {W = ℕ} 0 0 e h

module _ {S W : Type 0} (key : List ℕ) (inner : W) (writer : StreamWriter S W) (made : WasMade key inner writer) (n : ℕ) where
  -- a new writer of a payload over it isn't given so many bytes
  pub unwritten : (e : Error) → Retried (Refused (λ (w : W) (m : ℕ) (it : Error). it ≡ OutOfMemory)) writer n e
      → (e ≡ OutOfMemory) ⊎ ((e ≡ TooLong) × (2 ^ 60 < n))
  unwritten e h =
      elim (Refused-made ForWant key inner writer n e made
      (retried-plain (Refused ForWant) writer n e (λ is. Refused-patient ForWant writer n (Device Interrupted) is tt) h)) [
        | inl long ↦ inr long
        | inr chunk ↦ inl (elim chunk [ inl memory ↦ memory | inr handed ↦ want-retried inner handed.0 e handed.1 ])
      ]

  -- or isn't finished after them
  pub unfinished : (later : StreamWriter S W) → Narrows (Retried (Refused (λ (w : W) (m : ℕ) (it : Error). it ≡ OutOfMemory))) writer n later
      → (e : Error) → Refused (λ (w : W) (m : ℕ) (it : Error). it ≡ OutOfMemory) later 0 e → (e ≡ OutOfMemory) ⊎ ((e ≡ TooLong) × (2 ^ 60 < n))
  unfinished later narrows e h =
      let first : Retried (Refused ForWant) writer (n + 0) e = narrows 0 e (inl (Refused-patient ForWant later 0 e h, h)) in
      unwritten e (subst (λ k. Retried (Refused ForWant) writer k e) (add-zero n) first)

-- A file that was prepared for recipients is one for the identities that always give its file key.
pub file-for-them : {R I : Type 0} (wraps : R → List ℕ → List ℕ → WrapAnswer → List ℕ → Type 0)
    (unwraps : I → List StanzaValue → UnwrapAnswer → I → Type 0)
    (seal_of : Seal) (recipients : List R) (grease : StanzaValue) (identities : List I)
    (draws left : List ℕ) → AlwaysGiveKeysBack wraps unwraps recipients grease draws left identities
    → (prepared : Prepared) (plain other : List ℕ) → PreparesApart wraps recipients (Some grease) draws left seal_of plain
    → Prepares wraps recipients (Some grease) draws (Ok prepared) left
    → IsFileOf seal_of prepared.file_key prepared.stanzas plain (file_text seal_of prepared.file_key prepared.stanzas prepared.nonce plain)
    → AreBytes plain → length plain ≤ 2 ^ 60 → file_text seal_of prepared.file_key prepared.stanzas prepared.nonce plain ≡ other
    → IsFileFor seal_of (FirstAnswer unwraps identities) plain other
file-for-them wraps unwraps seal_of recipients grease identities draws left always prepared plain other apart prepares is_file bytes within is =
    subst (λ (l : List ℕ). IsFileFor seal_of (FirstAnswer unwraps identities) plain l) is (record {
      file_key = prepared.file_key;
      stanzas = prepared.stanzas;
      is_file = is_file;
      bytes = bytes;
      within = within;
      last = apart prepared prepares is_file;
      right = λ answer asked. always prepared answer prepares asked;
    })

-- a list isn't given so many bytes, or a writer that it is handed on to isn't
pub handed-to : {L W : Type 0} (list : L) (refuses : W → ℕ → Error → Type 0) (writer : W) (size : ℕ) (e : Error)
    → RefusesFile (λ (l : L) (n : ℕ) (it : Error). it ≡ OutOfMemory) list size e → RefusesFile refuses writer size e
handed-to list refuses writer size e (inl long) = inl long
handed-to list refuses writer size e (inr (inl memory)) = inr (inl memory)
handed-to list refuses writer size e (inr (inr handed)) = inr (inl (want-retried list handed.0 e handed.1))

-- a list isn't given a plaintext of so many bytes
pub unlisted : {L : Type 0} (list : L) (size : ℕ) (plain : List ℕ) (e : Error) → size ≡ length plain
    → RefusesFile (λ (l : L) (n : ℕ) (it : Error). it ≡ OutOfMemory) list size e → IsNotWritten plain e
unlisted list size plain e is (inl long) = inr (long.0, subst (λ n. 2 ^ 60 < n) is long.1)
unlisted list size plain e is (inr (inl memory)) = inl memory
unlisted list size plain e is (inr (inr handed)) = inl (want-retried list handed.0 e handed.1)

-- why encrypting is refused, where what keeps it from being written comes to this
pub unencrypted : (Unprepared : EncryptRefusal → Type 0) (Known : Type 0) (Why Unwritten : Error → Type 0) (e : FileError)
    → EncryptsUnless Unprepared e → IfIo (λ it. Known × Why it) e → ((it : Error) → Why it → Unwritten it) → RefusesUnless Unprepared Unwritten e
unencrypted Unprepared Known Why Unwritten (file.Encrypt e) why io then_so = why
unencrypted Unprepared Known Why Unwritten (file.Io e) why io then_so = then_so e io.1
unencrypted Unprepared Known Why Unwritten (file.Decrypt e) why io then_so = absurd why

-- why decrypting a file for the identities is
pub undecrypted : {T W : Type 0} (Unprepared : EncryptRefusal → Type 0) (refuses : W → ℕ → Error → Type 0) (writer : W) (size : ℕ)
    (result : Result T FileError)
    → IfErr result (DecryptsUnless (λ refusal. refusal ≡ decrypt.OutOfMemory))
    → IfErr result (IfIo (λ e. (e ≡ OutOfMemory) ⊎ HandsOn refuses writer e))
    → IfErr result (RefusesUnless Unprepared (RefusesFile refuses writer size))
undecrypted Unprepared refuses writer size (Ok x) honest written = tt
undecrypted Unprepared refuses writer size (Err (file.Encrypt e)) honest written = absurd honest
undecrypted Unprepared refuses writer size (Err (file.Io e)) honest written = inr written
undecrypted Unprepared refuses writer size (Err (file.Decrypt e)) honest written = honest
