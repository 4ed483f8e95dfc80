-- The recipients of the identities in a file.
use Rattle.std.specs.Prelude.{◌≡◌, ◌≢◌, ◌⊎◌, ℕ, IsTrue, List, [], map, Result, OnOk, IfErr}
use Rattle.std.specs.List.{flat_map}
use Rattle.std.specs.Str.Lines.{lines}
use Rattle.age.specs.Bech32Written.{bech32_text}
use Rattle.age.specs.Converting.{native_secrets, plugin_names}
use Rattle.age.specs.Copying.{AppendsFront}
use Rattle.age.specs.Entries.{Entry, AreEntries}
use Rattle.age.specs.ErrorVariants as io
use Rattle.age.specs.IdentityFiles.{IsFirstBad}
use Rattle.age.specs.IdentityReading.{IsTooLong, most_file_bytes}
use Rattle.age.specs.X25519.{recipient_prefix}
use Rattle.age.specs.Limiting.{limited}
use Rattle.age.specs.Lines.{line}
use Rattle.age.specs.Members.{ReadMembers, WriteMembers}
use Rattle.age.specs.Stretch.{whole}
use Rattle.age.specs.Types.{Error}
use Rattle.age.specs.Writing.{HandsOn}
use Rattle.sazh_core.specs.Keyring.{IsNotProtected, IsUnderPassphrase}
use Rattle.sazh_core.specs.declared.error.IdentitiesError.{IdentitiesError}
use Rattle.sazh_core.specs.declared.error.IdentitiesError.TheVariants as error

-- the public values of the keys of these entries, in their order; there are some, and none is a plugin's
abbrev pub ArePublicOf : (List ℕ → List ℕ) → List Entry → List (List ℕ) → Type 0
ArePublicOf public_of entries keys =
    (plugin_names entries ≡ []) × (native_secrets entries ≢ []) × (keys ≡ map (λ secret. public_of secret) (native_secrets entries))

-- the recipients of the identities in the lines of these bytes, in their order
abbrev pub AreOfIdentities : (List ℕ → List ℕ) → List ℕ → List (List ℕ) → Type 0
AreOfIdentities public_of bytes keys = (entries : List Entry) × AreEntries (lines bytes) entries × ArePublicOf public_of entries keys

-- why there are no recipients of these entries, or they can't be told
abbrev pub RefusesEntries : List Entry → IdentitiesError → Type 0
RefusesEntries entries e = (e ≡ error.OutOfMemory)
    ⊎ ((e ≡ error.Plugin) × (plugin_names entries ≢ []))
    ⊎ ((e ≡ error.NoIdentity) × (native_secrets entries ≡ []))

module _ {T : Type 0} (text_read : ReadMembers T) (S : Type 0) where
  -- why bytes of which this line is no identity aren't those of a file of identities, or its recipients can't be told
  abbrev pub RefusesIdentityLine : ℕ → List ℕ → IdentitiesError → Type 0
  RefusesIdentityLine line bytes e = (e ≡ error.OutOfMemory)
      ⊎ ((e ≡ error.NotIdentity line) × IsNotProtected text_read S bytes)
      ⊎ ((e ≡ error.Encrypted) × IsUnderPassphrase text_read S bytes)

  -- why bytes aren't those of a file of identities, or its recipients can't be told
  abbrev pub RefusesOwnIdentities : List ℕ → IdentitiesError → Type 0
  RefusesOwnIdentities bytes e = (e ≡ error.OutOfMemory)
      ⊎ ((e ≡ error.TooLong) × IsTooLong most_file_bytes (whole bytes))
      ⊎ ((entries : List Entry) × AreEntries (lines bytes) entries × RefusesEntries entries e)
      ⊎ ((line : ℕ) × IsFirstBad (limited most_file_bytes (whole bytes)) line × RefusesIdentityLine line bytes e)

-- the text of recipients: a line of each, in their order, which ends with LF
abbrev pub recipients_text : List (List ℕ) → List ℕ
recipients_text keys = flat_map (λ key. line (bech32_text recipient_prefix key)) keys

-- What writing a text and a flush come to.
pub record WritesText {W T : Type 0} (write : WriteMembers W) (text : List ℕ) (old new : W) (result : Result T Error) : Type 0 where
  -- A success says that it was appended.
  pub written : IsTrue (write.tells old) → OnOk result (write.appended old text new)
  -- Whatever it answers, what was appended is a beginning of it.
  pub front : IsTrue (write.tells old) → AppendsFront write.appended text old new
  -- A refusal is for want of memory, or one of the writer.
  pub why : IfErr result (λ e. (e ≡ io.OutOfMemory) ⊎ HandsOn write.refuses old e)
