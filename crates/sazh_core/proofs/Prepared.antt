-- What comes of the library's call is what comes of the command.
use Rattle.std.specs.Prelude.{Option, Some, Result, Ok, Err}
use Rattle.std.proofs.Common.{◌≡◌, ◌⊎◌, ℕ, List, inr, subst}
use Rattle.age.specs.Types.{Error, FileError, Format}
use Rattle.age.specs.FileErrorVariants.{Io, Encrypt, Decrypt}
use Rattle.age.specs.Members.{SuiteMembers, ReadMembers, WriteMembers}
use Rattle.age.specs.Stanza.{StanzaValue}
use Rattle.age.specs.Recipients.{WrapAnswer}
use Rattle.age.specs.EncryptErrors.{EncryptRefusal, OutOfMemory, encrypt_refusal}
use Rattle.age.specs.Encrypting.{Prepared, Prepares}
use Rattle.age.specs.FileErrors.{EncryptsUnless, IfIo}
use Rattle.sazh_core.specs.Random.{GaveRandom}
use Rattle.sazh_core.specs.Encrypting.{AppendsEncrypted, PreparesFrom, grease_stanza}
use Rattle.sazh_core.specs.declared.error.CommandError.{CommandError}

module _ {B T : Type 0} (gives : B → ℕ → Option (List ℕ) → B → Type 0) (wraps : T → List ℕ → List ℕ → WrapAnswer → List ℕ → Type 0) where
  -- what is prepared from the bytes that were given
  pub prepares_from : (recipients : List T) (count : ℕ) (before after : B) (draws left : List ℕ) (grease : StanzaValue)
      (outcome : Result Prepared EncryptRefusal)
      → grease ≡ grease_stanza → GaveRandom gives before count after draws → Prepares wraps recipients (Some grease) draws outcome left
      → PreparesFrom gives wraps recipients count before after outcome
  prepares_from recipients count before after draws left grease outcome is gave prepares =
      (draws, left, gave, subst (λ s. Prepares wraps recipients (Some s) draws outcome left) is prepares)

  -- so it is of what an error of encryption says, and of what an error of the reader or the writer says
  pub why_from : (recipients : List T) (count : ℕ) (before after : B) (draws left : List ℕ) (grease : StanzaValue) → grease ≡ grease_stanza
      → GaveRandom gives before count after draws → (e : FileError)
      → EncryptsUnless (λ refusal. Prepares wraps recipients (Some grease) draws (Err refusal) left) e
      → EncryptsUnless (λ refusal. ((refusal ≡ OutOfMemory) × (after ≡ before))
      ⊎ PreparesFrom gives wraps recipients count before after (Err refusal)) e
  why_from recipients count before after draws left grease is gave (Io e) h = tt
  why_from recipients count before after draws left grease is gave (Encrypt e) h =
      inr (prepares_from recipients count before after draws left grease (Err (encrypt_refusal e)) is gave h)
  why_from recipients count before after draws left grease is gave (Decrypt e) h = h

  pub io_from : (Says : Error → Type 0) (recipients : List T) (count : ℕ) (before after : B) (draws left : List ℕ) (grease : StanzaValue)
      → grease ≡ grease_stanza
      → GaveRandom gives before count after draws → (e : FileError)
      → IfIo (λ e. ((file : Prepared) × Prepares wraps recipients (Some grease) draws (Ok file) left) × Says e) e
      → IfIo (λ e. ((file : Prepared) × PreparesFrom gives wraps recipients count before after (Ok file)) × Says e) e
  io_from Says recipients count before after draws left grease is gave (Io e) ((file, prepares), says) =
      ((file, prepares_from recipients count before after draws left grease (Ok file) is gave prepares), says)
  io_from Says recipients count before after draws left grease is gave (Encrypt e) h = tt
  io_from Says recipients count before after draws left grease is gave (Decrypt e) h = tt

  -- and of what was appended until then
  pub front_from : (Appends : Prepared → Type 0) (recipients : List T) (count : ℕ) (before after : B) (draws left : List ℕ) (grease : StanzaValue)
      → grease ≡ grease_stanza → GaveRandom gives before count after draws → (e : FileError)
      → IfIo (λ _. (file : Prepared) × Prepares wraps recipients (Some grease) draws (Ok file) left × Appends file) e
      → IfIo (λ _. (file : Prepared) × PreparesFrom gives wraps recipients count before after (Ok file) × Appends file) e
  front_from Appends recipients count before after draws left grease is gave (Io e) (file, prepares, appends) =
      (file, prepares_from recipients count before after draws left grease (Ok file) is gave prepares, appends)
  front_from Appends recipients count before after draws left grease is gave (Encrypt e) h = tt
  front_from Appends recipients count before after draws left grease is gave (Decrypt e) h = tt

  -- the same number, and the same recipients
  pub of_count : {S R W V : Type 0} (suite : SuiteMembers S) (read : ReadMembers R) (write : WriteMembers W) (recipients : List T) (n count : ℕ)
      (before after : B)
      (format : Format) (input last : R) (old new : W) (result : Result V CommandError) → n ≡ count
      → AppendsEncrypted gives wraps recipients n before after suite read write format input last old new result
      → AppendsEncrypted gives wraps recipients count before after suite read write format input last old new result
  of_count suite read write recipients n count before after format input last old new result is encrypts =
      subst (λ n. AppendsEncrypted gives wraps recipients n before after suite read write format input last old new result) is encrypts

  pub of_recipients : {S R W V : Type 0} (suite : SuiteMembers S) (read : ReadMembers R) (write : WriteMembers W) (others recipients : List T)
      (count : ℕ) (before after : B)
      (format : Format) (input last : R) (old new : W) (result : Result V CommandError) → others ≡ recipients
      → AppendsEncrypted gives wraps others count before after suite read write format input last old new result
      → AppendsEncrypted gives wraps recipients count before after suite read write format input last old new result
  of_recipients suite read write others recipients count before after format input last old new result is encrypts =
      subst (λ rs. AppendsEncrypted gives wraps rs count before after suite read write format input last old new result) is encrypts
