-- Recipients and identities that belong together.
use Rattle.std.specs.Prelude.{◌≡◌, ◌⊎◌, ℕ, ◌^◌, ◌≤◌, ◌<◌, List, length, Some, Ok, Err}
use Rattle.age.specs.Bytes.{AreBytes}
use Rattle.age.specs.Armor.{Carries}
use Rattle.age.specs.DecryptErrors as decrypt
use Rattle.age.specs.EncryptErrors.{EncryptRefusal, encrypt_refusal}
use Rattle.age.specs.ErrorVariants.{OutOfMemory, TooLong}
use Rattle.age.specs.FileErrorVariants as file
use Rattle.age.specs.Payload.{Seal}
use Rattle.age.specs.File.{IsFileOf, file_text}
use Rattle.age.specs.Stanza.{StanzaValue}
use Rattle.age.specs.Recipients.{WrapAnswer}
use Rattle.age.specs.Identities.{FirstAnswer, UnwrapAnswer, Unwraps, FirstThatAnswers}
use Rattle.age.specs.Encrypting.{Prepared, Prepares}
use Rattle.age.specs.Types.{Error, FileError}
use Rattle.age.specs.WholeFiles.{RefusesFile}

-- To the stanzas that the recipients answer with these random bytes, the identities give no other file key than the one that was wrapped.
abbrev pub GiveKeysBack : {R I : Type 0} → (R → List ℕ → List ℕ → WrapAnswer → List ℕ → Type 0)
    → (I → List StanzaValue → UnwrapAnswer → I → Type 0) → List R → StanzaValue → (draws left : List ℕ) → List I → Type 0
GiveKeysBack {R} {I} wraps unwraps recipients grease draws left identities =
    (file : Prepared) (file_key : List ℕ) (after : List I)
    → Prepares wraps recipients (Some grease) draws (Ok file) left
    → FirstThatAnswers (λ identity answer next. Unwraps unwraps identity file.stanzas answer next) identities (Some (Ok file_key)) after
    → file_key ≡ file.file_key

-- To these stanzas they give that file key, unless memory is refused.
abbrev pub AlwaysGiveKeysBack : {R I : Type 0} → (R → List ℕ → List ℕ → WrapAnswer → List ℕ → Type 0)
    → (I → List StanzaValue → UnwrapAnswer → I → Type 0) → List R → StanzaValue → (draws left : List ℕ) → List I → Type 0
AlwaysGiveKeysBack {R} {I} wraps unwraps recipients grease draws left identities =
    (file : Prepared) (answer : UnwrapAnswer)
    → Prepares wraps recipients (Some grease) draws (Ok file) left → FirstAnswer unwraps identities file.stanzas answer
    → (answer ≡ Some (Ok file.file_key)) ⊎ (answer ≡ Some (Err decrypt.OutOfMemory))

-- Why a plaintext isn't written: memory was refused, or it has more than 2^60 bytes.
abbrev pub IsNotWritten : List ℕ → Error → Type 0
IsNotWritten plain e = (e ≡ OutOfMemory) ⊎ ((e ≡ TooLong) × (2 ^ 60 < length plain))

-- Why it isn't encrypted and decrypted again: it wasn't prepared for, for this refusal; it isn't written, for this one; or memory was refused.
abbrev pub RefusesUnless : (EncryptRefusal → Type 0) → (Error → Type 0) → FileError → Type 0
RefusesUnless Unprepared Unwritten (file.Encrypt e) = Unprepared (encrypt_refusal e)
RefusesUnless Unprepared Unwritten (file.Io e) = Unwritten e
RefusesUnless Unprepared Unwritten (file.Decrypt e) = decrypt.decrypt_refusal e ≡ decrypt.OutOfMemory

module _ {R : Type 0} (wraps : R → List ℕ → List ℕ → WrapAnswer → List ℕ → Type 0) (recipients : List R) (grease : StanzaValue)
    (draws left : List ℕ) where
  -- Preparing for these recipients with these random bytes, of which those are left, ended with this refusal.
  abbrev pub Unprepared : EncryptRefusal → Type 0
  Unprepared e = Prepares wraps recipients (Some grease) draws (Err e) left

  -- why a plaintext in memory doesn't come back
  abbrev pub RefusesFor : List ℕ → FileError → Type 0
  RefusesFor plain = RefusesUnless Unprepared (IsNotWritten plain)

  -- why so many bytes don't come to a writer
  abbrev pub RefusesTo : {W : Type 0} → (W → ℕ → Error → Type 0) → W → ℕ → FileError → Type 0
  RefusesTo refuses writer size = RefusesUnless Unprepared (RefusesFile refuses writer size)

-- The bytes are the file of a plaintext that was prepared for, which is within the limit, and carry themselves.
pub record IsWhole (seal_of : Seal) (prepared : Prepared) (plain file : List ℕ) : Type 0 where
  pub bytes : AreBytes plain
  pub within : length plain ≤ 2 ^ 60
  pub text : file ≡ file_text seal_of prepared.file_key prepared.stanzas prepared.nonce plain
  pub is_file : IsFileOf seal_of prepared.file_key prepared.stanzas plain (file_text seal_of prepared.file_key prepared.stanzas prepared.nonce plain)
  pub carries : Carries file (file_text seal_of prepared.file_key prepared.stanzas prepared.nonce plain)
