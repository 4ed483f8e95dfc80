-- What a command comes to that encrypts with the random bytes of a source.
use Rattle.std.specs.Prelude.{◌≡◌, ◌⊎◌, ℕ, ◌+◌, ◌*◌, List, [], codes, Option, Some, Result, Ok, Err, IsTrue, OnOk, IfErr}
use Rattle.age.specs.Types.{FileError, Format}
use Rattle.age.specs.Members.{SuiteMembers, ReadMembers, WriteMembers}
use Rattle.age.specs.Copying.{AppendsFront}
use Rattle.age.specs.Stanza.{StanzaValue}
use Rattle.age.specs.Recipients.{WrapAnswer}
use Rattle.age.specs.EncryptErrors.{EncryptRefusal, OutOfMemory}
use Rattle.age.specs.Encrypting.{Prepared, Prepares}
use Rattle.age.specs.Claims.{AppendsFile}
use Rattle.age.specs.File.{file_text}
use Rattle.age.specs.WholeFiles.{RefusesWriting}
use Rattle.age.specs.Armor.{text_of}
use Rattle.age.specs.FileErrors.{IfIo, IsEncryptError, EncryptsUnless}
use Rattle.sazh_core.specs.Random.{GaveRandom, GaveNone}
use Rattle.sazh_core.specs.declared.error.CommandError.{CommandError}
use Rattle.sazh_core.specs.declared.error.CommandError.TheVariants.{Random, File}
use Rattle.sazh_core.specs.declared.error.RandomError.{RandomError}

-- the stanza of grease that files of the program have: no arguments and no body
abbrev pub grease_stanza : StanzaValue
grease_stanza = record { tag = codes "sazh-grease"; args = []; body = [] }

-- how many random bytes a file to so many keys takes: the file key and the nonce of 16 bytes each, and for each key a secret of 32
abbrev pub draws_for_keys : ℕ → ℕ
draws_for_keys keys = 32 + 32 * keys

-- and a file under a passphrase: besides these 32 a salt of 16 and a label of 24
abbrev pub draws_for_passphrase : ℕ
draws_for_passphrase = 72

-- what holds of the error of the random bytes, where it is one
abbrev pub IfRandom : (RandomError → Type 0) → CommandError → Type 0
IfRandom Holds (Random e) = Holds e
IfRandom Holds (File e) = Unit {0}

-- what holds of the error of the library's call, where it is one
abbrev pub IfFile : (FileError → Type 0) → CommandError → Type 0
IfFile Holds (Random e) = Unit {0}
IfFile Holds (File e) = Holds e

module _ {B T : Type 0} (gives : B → ℕ → Option (List ℕ) → B → Type 0) (wraps : T → List ℕ → List ℕ → WrapAnswer → List ℕ → Type 0)
    (recipients : List T) (count : ℕ) (before after : B) where
  -- The source gave so many bytes, and with these, taken in their order, a file to the recipients and with the program's grease comes to this.
  abbrev pub PreparesFrom : Result Prepared EncryptRefusal → Type 0
  PreparesFrom outcome = (draws : List ℕ) × (left : List ℕ) × GaveRandom gives before count after draws
      × Prepares wraps recipients (Some grease_stanza) draws outcome left

  pub record AppendsEncrypted {S R W V : Type 0} (suite : SuiteMembers S) (read : ReadMembers R) (write : WriteMembers W)
      (format : Format) (input last : R) (old new : W) (result : Result V CommandError) : Type 0 where
    -- A success says that the input ended well, and that its file in this form was appended.
    pub file : IsTrue (read.tells input) → IsTrue (write.tells old) → OnOk result
        ((file : Prepared) × PreparesFrom (Ok file) × AppendsFile suite.seal_of write.appended (text_of format) file (read.rest input) old new)
    -- Without random bytes nothing is read or written.
    pub random : IfErr result (IfRandom (λ e. GaveNone gives before count after e × (last ≡ input) × (new ≡ old)))
    -- After an error of encryption nothing was read or written.
    pub refused : IfErr result (IfFile (λ e. IsEncryptError e → (last ≡ input) × (new ≡ old)))
    -- Its cause: memory, before the source was asked, or what the recipients and the random bytes come to.
    pub why : IfErr result (IfFile (EncryptsUnless (λ refusal. ((refusal ≡ OutOfMemory) × (after ≡ before)) ⊎ PreparesFrom (Err refusal))))
    -- After an error of the reader or the writer a beginning of the file in this form was appended, of all that the input had.
    pub front : IsTrue (read.tells input) → IsTrue (write.tells old) → IfErr result (IfFile (IfIo (λ _.
        (file : Prepared) × PreparesFrom (Ok file) × AppendsFront write.appended
        (text_of format (file_text suite.seal_of file.file_key file.stanzas file.nonce (read.rest input).bytes)) old new)))
    -- After such an error the file was prepared, and the reader refuses, or the
    -- writer, memory or the length does: the reader only where it has a fault.
    pub io : IfErr result (IfFile (IfIo (λ e. ((file : Prepared) × PreparesFrom (Ok file)) × RefusesWriting read write input last old new e)))
