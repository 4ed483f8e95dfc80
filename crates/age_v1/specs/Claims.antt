-- What a success of the calls on whole files says.
use Rattle.std.specs.Prelude.{IsTrue, List, length, ℕ, ◌^◌, ◌≤◌}
use Rattle.age_error.specs.Bytes.{AreBytes}
use Rattle.age_io.specs.Stretch.{Stretch}
use Rattle.age_v1.specs.Armor.{Carries}
use Rattle.age_v1.specs.Stanza.{StanzaValue}
use Rattle.age_v1.specs.Payload.{Seal}
use Rattle.age_v1.specs.File.{IsFileOf, file_text}
use Rattle.age_v1.specs.Encrypting.{Prepared}
use Rattle.age_v1.specs.Identities.{CarriesFile}

-- What a success of an encryption says. The input ended well, after at most 2^60 bytes; and from the writer's old
-- state to its new one exactly one text was appended: the file of all that was left of the input, in this form. It
-- is a file by the definition that decryption uses (`is_file`), and in either form its text carries it (`carries`).
pub record AppendsFile {W : Type 0} (seal_of : Seal) (appended : W → List ℕ → W → Type 0) (form : List ℕ → List ℕ) (file : Prepared)
    (input : Stretch) (old new : W) : Type 0 where
  pub ended : IsTrue input.ends_well
  pub within : length input.bytes ≤ 2 ^ 60
  pub is_file : IsFileOf seal_of file.file_key file.stanzas input.bytes (file_text seal_of file.file_key file.stanzas file.nonce input.bytes)
  pub carries : let text = file_text seal_of file.file_key file.stanzas file.nonce input.bytes in AreBytes input.bytes → Carries (form text) text
  pub out : appended old (form (file_text seal_of file.file_key file.stanzas file.nonce input.bytes)) new

-- What a success of a decryption says. The input ended well, and all that was left of it carried a file; and from the writer's old state to its new
-- one exactly the plaintext of that file was appended.
pub record AppendsPlaintext {W : Type 0} (seal_of : Seal) (gives : List ℕ → List StanzaValue → Type 0) (appended : W → List ℕ → W → Type 0)
    (input : Stretch) (old new : W) : Type 0 where
  pub plain : List ℕ
  pub ended : IsTrue input.ends_well
  pub file : CarriesFile seal_of gives input.bytes plain
  pub out : appended old plain new
