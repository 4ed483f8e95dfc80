-- A file that is decrypted, and encrypted to others.
use Rattle.std.specs.Prelude.{◌≡◌, ◌⊎◌, ◌&&◌, ℕ, List, Option, Result, Ok, Err, IsTrue, OnOk, length}
use Rattle.age.specs.Armor.{Carries, text_of}
use Rattle.age.specs.DecryptErrors.{decrypt_refusal}
use Rattle.age.specs.Encrypting.{Prepared}
use Rattle.age.specs.ErrorVariants.{OutOfMemory}
use Rattle.age.specs.FileErrorVariants.{Decrypt, Io}
use Rattle.age.specs.Members.{SuiteMembers, ReadMembers, WriteMembers}
use Rattle.age.specs.Opened.{IsNotOpened, IsOpened}
use Rattle.age.specs.Identities.{FirstAnswer, IsFileFor, UnwrapAnswer}
use Rattle.age.specs.Stanza.{StanzaValue}
use Rattle.age.specs.Stretch.{whole}
use Rattle.age.specs.Types.{DecryptError, FileError, Format, StreamReader}
use Rattle.age.specs.Claims.{AppendsFile}
use Rattle.age.specs.Recipients.{WrapAnswer}
use Rattle.sazh_core.specs.Decrypting.{ReadsText}
use Rattle.sazh_core.specs.Encrypting.{AppendsEncrypted, PreparesFrom, draws_for_keys}
use Rattle.sazh_core.specs.declared.error.CommandError.{CommandError}
use Rattle.sazh_core.specs.declared.error.CommandError.TheVariants.{File}

-- Memory for reading armor was refused, or the file that the text carries wasn't opened by these identities.
abbrev pub NotOpened : {I R A : Type 0} → (I → List StanzaValue → UnwrapAnswer → I → Type 0) → ReadMembers R → ReadMembers A → List I → List I → R
    → FileError → Type 0
NotOpened {I} {R} {A} unwraps read text_read identities asked input e = (e ≡ Io OutOfMemory)
    ⊎ ((error : DecryptError) × (e ≡ Decrypt error) × ((text : A) × ReadsText read text_read input text
    × IsNotOpened unwraps text_read identities asked text (decrypt_refusal error)))

module _ {I B T S W V : Type 0} (unwraps : I → List StanzaValue → UnwrapAnswer → I → Type 0) (gives : B → ℕ → Option (List ℕ) → B → Type 0)
    (wraps : T → List ℕ → List ℕ → WrapAnswer → List ℕ → Type 0) (suite : SuiteMembers S) (write : WriteMembers W) (format : Format)
    (identities asked : List I) (recipients : List T) (before after : B) where
  -- The file wasn't opened, and nothing was drawn or written; or it was, by the first of the identities that answers, and its plaintext was encrypted
  -- to the recipients as it was read.
  abbrev pub Rekeys : {R A : Type 0} → ReadMembers R → (text_read : ReadMembers A) → ReadMembers (StreamReader S A suite text_read) → R → W → W
      → Result V CommandError → Type 0
  Rekeys {R} {A} read text_read stream_read input old new result =
      ((e : FileError) × (result ≡ Err (File e)) × NotOpened unwraps read text_read identities asked input e × (after ≡ before) × (new ≡ old))
      ⊎ ((text : A) × ReadsText read text_read input text × ((stream : StreamReader S A suite text_read) × (last : StreamReader S A suite text_read)
      × IsOpened unwraps identities asked text stream
      × AppendsEncrypted gives wraps recipients
      (draws_for_keys (length recipients)) before after suite stream_read write format stream last old new result))

  -- Of a file for the identities a success appended a file of the same plaintext to the recipients.
  abbrev pub KeepsPlaintext : {R : Type 0} → ReadMembers R → R → W → W → Result V CommandError → Type 0
  KeepsPlaintext {R} read input old new result =
      IsTrue (read.tells input && read.steady input) → IsTrue (read.rest input).ends_well → IsTrue (write.tells old)
      → (file plain : List ℕ) → Carries (read.rest input).bytes file → IsFileFor suite.seal_of (FirstAnswer unwraps identities) plain file
      → OnOk result ((prepared : Prepared) × PreparesFrom gives wraps recipients (draws_for_keys (length recipients)) before after (Ok prepared)
      × AppendsFile suite.seal_of write.appended (text_of format) prepared (whole plain) old new)
