-- What an error of converting a file of identities says, apart from where its texts lie in memory.
use Rattle.std.specs.Prelude.{ℕ, List, ◌++◌, codes, string_bytes, Option}
use Rattle.std.specs.Option.{option_map}
use Rattle.age_error.specs.declared.io.Error.{Error}
use Rattle.age_identity.specs.declared.error.IdentityFileConvertError.{IdentityFileConvertError}
use Rattle.age_identity.specs.declared.error.IdentityFileConvertError.TheVariants as convert

-- the variants of the error: the file's name, and of a plugin's identity the plugin's
pub data ConvertRefusal : Type 0 where
  FailedToWriteOutput : Error → ConvertRefusal
  IdentityFileContainsPlugin : Option (List ℕ) → List ℕ → ConvertRefusal
  NoIdentities : Option (List ℕ) → ConvertRefusal

-- what the error says
abbrev pub convert_refusal : IdentityFileConvertError → ConvertRefusal
convert_refusal (convert.FailedToWriteOutput e) = FailedToWriteOutput e
convert_refusal (convert.IdentityFileContainsPlugin filename plugin_name) =
    IdentityFileContainsPlugin (option_map (λ text. string_bytes text) filename) (string_bytes plugin_name)
convert_refusal (convert.NoIdentities filename) = NoIdentities (option_map (λ text. string_bytes text) filename)

-- the text of what the error says
abbrev pub convert_text : ConvertRefusal → List ℕ
convert_text (FailedToWriteOutput e) = codes "failed to write output"
convert_text (IdentityFileContainsPlugin filename plugin_name) = codes "identity file contains a plugin identity: " ++ plugin_name
convert_text (NoIdentities filename) = codes "no identities in file"

-- what the error prints
abbrev pub convert_message : IdentityFileConvertError → List ℕ
convert_message e = convert_text (convert_refusal e)
