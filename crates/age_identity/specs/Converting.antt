-- The recipients and the identities of a file.
use Rattle.std.specs.Prelude.{◌≡◌, ◌≢◌, ◌⊎◌, ℕ, ◌≤◌, ◌<◌, true, Bool, IsTrue, List, [], ◌∷◌, ◌++◌, length, codes, Option, Result, IfErr, OnOk}
use Rattle.std.specs.List.{AllByRecursion}
use Rattle.std.specs.Cmp.Lexicographic.{slice_cmp}
use Rattle.std.specs.Ordering.{nat_cmp, is_le}
use Rattle.age_error.specs.Refusals.{IsDevice}
use Rattle.age_error.specs.declared.io.Error.{Error}
use Rattle.age_error.specs.DecryptErrors as decrypt
use Rattle.age_error.specs.EncryptErrors as encrypt
use Rattle.age_error.specs.ResolveErrors.{MissingPlugin}
use Rattle.age_bech32.specs.Written.{bech32_text}
use Rattle.age_base64.specs.Lines.{line}
use Rattle.age_io.specs.Writing.{Retried, OrMemory}
use Rattle.age_io.specs.Copying.{AppendsFront}
use Rattle.age_v1.specs.X25519.{recipient_prefix}
use Rattle.age_identity.specs.ConvertErrors.{ConvertRefusal, FailedToWriteOutput, IdentityFileContainsPlugin, NoIdentities}
use Rattle.age_identity.specs.Entries.{Entry, Native, Plugin}

-- the secrets of the native identities, in their order
abbrev pub native_secrets : List Entry → List (List ℕ)
native_secrets [] = []
native_secrets (Native secret ∷ more) = secret ∷ native_secrets more
native_secrets (Plugin key ∷ more) = native_secrets more

-- the names of the plugins that identities need, in their order
abbrev pub plugin_names : List Entry → List (List ℕ)
plugin_names [] = []
plugin_names (Native secret ∷ more) = plugin_names more
plugin_names (Plugin key ∷ more) = key.name ∷ plugin_names more

-- a plugin's program
-- standard: age's plugin specification: the program of the plugin NAME is `age-plugin-NAME`
abbrev pub program_of : List ℕ → List ℕ
program_of name = codes "age-plugin-" ++ name

-- the texts of the recipients, each with LF, up to the first identity of a plugin
abbrev pub recipients_text : (List ℕ → List ℕ) → List Entry → List ℕ
recipients_text public_of [] = []
recipients_text public_of (Native secret ∷ more) = line (bech32_text recipient_prefix (public_of secret)) ++ recipients_text public_of more
recipients_text public_of (Plugin key ∷ more) = []

-- no greater in the order of bytes
abbrev pub IsAtMost : List ℕ → List ℕ → Type 0
IsAtMost name other = is_le (slice_cmp nat_cmp name other) ≡ true

-- the least of some names in the order of their bytes
pub record IsLeast (name : List ℕ) (names : List (List ℕ)) : Type 0 where
  pub before : List (List ℕ)
  pub others : List (List ℕ)
  pub one : names ≡ before ++ name ∷ others
  pub least : AllByRecursion (IsAtMost name) names

-- Why there are no recipients: the least plugin of which there is an identity isn't there, or memory was refused.
abbrev pub RefusesRecipients : List Entry → encrypt.EncryptRefusal → Type 0
RefusesRecipients entries refusal =
    ((name : List ℕ) × IsLeast name (plugin_names entries) × (refusal ≡ encrypt.PluginResolve (MissingPlugin (program_of name))))
    ⊎ (refusal ≡ encrypt.OutOfMemory)

-- Why there are no identities: the plugin of the first identity of one isn't there, or memory was refused.
abbrev pub RefusesIdentities : List Entry → decrypt.DecryptRefusal → Type 0
RefusesIdentities entries refusal =
    ((name : List ℕ) × (others : List (List ℕ)) × (plugin_names entries ≡ name ∷ others)
    × (refusal ≡ decrypt.PluginResolve (MissingPlugin (program_of name))))
    ⊎ (refusal ≡ decrypt.OutOfMemory)

-- What is refused in writing recipients, and what was written.
abbrev pub RefusesConversion : {W : Type 0} → (W → Bool) → (W → ℕ → Error → Type 0) → (W → List ℕ → W → Type 0)
    → List ℕ → List Entry → Option (List ℕ) → W → W → ConvertRefusal → Type 0
RefusesConversion tells refuses appended text entries filename old new (NoIdentities name) = (entries ≡ []) × (name ≡ filename) × (new ≡ old)
RefusesConversion tells refuses appended text entries filename old new (IdentityFileContainsPlugin name plugin) =
    (name ≡ filename) × ((others : List (List ℕ)) × (plugin_names entries ≡ plugin ∷ others)) × (IsTrue (tells old) → appended old text new)
RefusesConversion tells refuses appended text entries filename old new (FailedToWriteOutput e) =
    OrMemory (Retried refuses) old (length text) e × (IsTrue (tells old) → AppendsFront appended text old new)

-- What writing recipients does: on success all of them were written, of one or more identities, none of which is a plugin's.
pub record Converts {W : Type 0} (tells : W → Bool) (faults : W → ℕ) (refuses : W → ℕ → Error → Type 0) (appended : W → List ℕ → W → Type 0)
    (text : List ℕ) (entries : List Entry) (filename : Option (List ℕ)) (old new : W) (result : Result (Unit {0}) ConvertRefusal) : Type 0 where
  -- of every writer
  pub same_tells : tells new ≡ tells old
  pub no_fewer_faults : faults old ≤ faults new
  pub device : IfErr result (λ refusal. (e : Error) → refusal ≡ FailedToWriteOutput e → IsDevice e → faults old < faults new)
  pub some : OnOk result (entries ≢ [])
  pub native : OnOk result (plugin_names entries ≡ [])
  -- of a writer that tells its bytes
  pub written : IsTrue (tells old) → OnOk result (appended old text new)
  pub refused : IfErr result (RefusesConversion tells refuses appended text entries filename old new)
