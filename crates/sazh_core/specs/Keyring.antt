-- Who decrypts, as the files that a command line names say it.
use Rattle.std.specs.Prelude.{◌≡◌, ◌≢◌, ◌⊎◌, ℕ, true, List, [], ◌∷◌, ◌++◌, length, map, MatchOption, MatchResult, Option, Some, None, Result, Ok, Err, string_bytes}
use Rattle.std.specs.Option.{option_map}
use Rattle.std.specs.Str.Lines.{lines}
use Rattle.age.specs.Types.{DecryptError, Decryptor, Error, ProtectedIdentity as Protected}
use Rattle.age.specs.ErrorVariants as read
use Rattle.age.specs.Members.{ReadMembers}
use Rattle.age.specs.Armor.{Carries}
use Rattle.age.specs.Converting.{native_secrets, plugin_names}
use Rattle.age.specs.Decryptor.{OpensFront, header_of}
use Rattle.age.specs.DecryptErrorVariants as decrypt
use Rattle.age.specs.DeliveredArmor.{text_delivers, stretch_of}
use Rattle.age.specs.EncryptedIdentities.{filename_of, state_of}
use Rattle.age.specs.EncryptedIdentity.{file_of}
use Rattle.age.specs.Entries.{Entry, AreEntries}
use Rattle.age.specs.HeaderV1.{IsScrypt}
use Rattle.age.specs.IdentityFiles.{IsFirstBad}
use Rattle.age.specs.IdentityReading.{IsTooLong, most_file_bytes}
use Rattle.age.specs.Limiting.{limited}
use Rattle.age.specs.ProtectedIdentity.{Encrypted}
use Rattle.age.specs.Stretch.{whole}
use Rattle.sazh_core.specs.Passphrase as passphrase
use Rattle.sazh_core.specs.declared.callbacks.GivesOnce.{GivesOnce}
use Rattle.sazh_core.specs.declared.error.KeyringError.{KeyringError}
use Rattle.sazh_core.specs.declared.error.KeyringError.TheVariants as error
use Rattle.sazh_core.specs.declared.error.PassphraseError.{PassphraseError}
use Rattle.sazh_core.specs.declared.holder.Holder.{Holder}
use Rattle.sazh_core.specs.declared.holder.Holder.TheVariants as holder
use Rattle.sazh_core.specs.declared.keyring.KeyFile.{KeyFile}
use Rattle.sazh_core.specs.declared.keyring.Keyring.{Keyring}
use Rattle.sazh_core.specs.declared.keyring.Keyring.TheVariants.{Files, Passphrase}

-- why bytes aren't those of a file of identities, or can't be told to be
abbrev pub RefusesKeyBytes : List ℕ → Error → Type 0
RefusesKeyBytes bytes read.OutOfMemory = Unit {0}
RefusesKeyBytes bytes (read.NotIdentity number) = IsFirstBad (limited most_file_bytes (whole bytes)) number
RefusesKeyBytes bytes read.LimitExceeded = IsTooLong most_file_bytes (whole bytes)
RefusesKeyBytes bytes other = ⊥

-- why the entries of the file of this number aren't those of keys, or can't be told to be
abbrev pub RefusesEntries : ℕ → List Entry → KeyringError → Type 0
RefusesEntries number entries e = (e ≡ error.OutOfMemory)
    ⊎ ((e ≡ error.Plugin number) × (plugin_names entries ≢ []))
    ⊎ ((e ≡ error.NoIdentity number) × (native_secrets entries ≡ []))

-- why the text of a passphrase gives none, or can't be told to
abbrev pub RefusesPassphraseFile : Option (List ℕ) → KeyringError → Type 0
RefusesPassphraseFile given e = (e ≡ error.OutOfMemory)
    ⊎ ((why : PassphraseError) × (text : List ℕ) × (e ≡ error.Passphrase why) × (given ≡ Some text) × passphrase.RefusesPassphrase why text)

-- what was found in a front, or nothing where that was refused for another reason than memory
abbrev pub FoundOrNone : {X : Type 0} → Result (Option X) DecryptError → Result (Option X) KeyringError → Type 0
FoundOrNone (Ok found) result = result ≡ Ok found
FoundOrNone (Err e) result = ((e ≡ decrypt.OutOfMemory) × (result ≡ Err error.OutOfMemory)) ⊎ ((e ≢ decrypt.OutOfMemory) × (result ≡ Ok None))

module _ {S T : Type 0} where
  -- those who have the keys of these entries, in their order, of which none is a plugin's
  abbrev pub AreKeys : List Entry → List (Holder S T GivesOnce) → Type 0
  AreKeys entries holders = (plugin_names entries ≡ []) × (native_secrets entries ≢ [])
      × (holders ≡ map (λ secret. holder.Key secret) (native_secrets entries))

  -- who knows the passphrase of a text
  abbrev pub KnowsPassphrase : List ℕ → List (Holder S T GivesOnce) → Type 0
  KnowsPassphrase text holders = holders ≡ holder.Passphrase (record { passphrase = passphrase.first_line text; target = 18; most = 22 }) ∷ []

module _ {T : Type 0} (text_read : ReadMembers T) where
  -- One that reads what these bytes carry, bare or in armor, and of which nothing was read yet.
  pub record ReadsBytes (bytes : List ℕ) (text : T) : Type 0 where
    pub tells : text_read.tells text ≡ true
    pub steady : text_read.steady text ≡ true
    pub faults : text_read.faults text ≡ 0
    pub place : text_read.place text ≡ 0
    pub rest : text_read.rest text ≡ stretch_of (text_delivers bytes true)
    pub honest : (file : List ℕ) → Carries bytes file → text_read.rest text ≡ whole file

  module _ {S : Type 0} where
    -- who asks for the passphrase of the file of this name, by which nothing was opened yet, and who answers
    pub record IsProtected (name bytes : List ℕ) (asked : GivesOnce) (identity : Protected S T GivesOnce) : Type 0 where
      pub text : T
      pub reads : ReadsBytes bytes text
      pub front : Decryptor S T
      pub opens : OpensFront text_read text (Ok front)
      pub under_passphrase : IsScrypt (header_of front).stanzas
      pub state : state_of identity ≡ Encrypted (file_of front asked 18 None)
      pub named : filename_of identity ≡ Some name

    -- what a decryptor of these bytes comes to isn't the front of a file under a passphrase, nor want of memory
    abbrev pub IsNotUnderPassphrase : Result (Decryptor S T) DecryptError → Type 0
    IsNotUnderPassphrase (Err e) = e ≢ decrypt.OutOfMemory
    IsNotUnderPassphrase (Ok front) = IsScrypt (header_of front).stanzas → ⊥

  module _ (S : Type 0) where
    -- these bytes aren't those of a file under a passphrase
    abbrev pub IsNotProtected : List ℕ → Type 0
    IsNotProtected bytes = (text : T) × ReadsBytes bytes text
        × ((made : Result (Decryptor S T) DecryptError) × OpensFront text_read text made × IsNotUnderPassphrase made)

    -- these bytes are those of a file under a passphrase
    abbrev pub IsUnderPassphrase : List ℕ → Type 0
    IsUnderPassphrase bytes = (text : T) × ReadsBytes bytes text
        × ((front : Decryptor S T) × OpensFront text_read text (Ok front) × IsScrypt (header_of front).stanzas)

  module _ {S : Type 0} where
    -- what was found of a file: who asks for its passphrase, or that it is none under one
    abbrev pub IsFoundProtected : List ℕ → List ℕ → GivesOnce → Result (Option (Protected S T GivesOnce)) KeyringError → Type 0
    IsFoundProtected name bytes asked result = MatchResult result
        (λ found. MatchOption found (IsNotProtected S bytes) (λ identity. IsProtected name bytes asked identity)) (λ e. e ≡ error.OutOfMemory)

    -- who has the identities of a file under the passphrase that a text gives
    abbrev pub IsHeldUnder : KeyFile → List ℕ → List (Holder S T GivesOnce) → Type 0
    IsHeldUnder file text holders = (asked : GivesOnce) × (identity : Protected S T GivesOnce)
        × (asked.passphrase ≡ Some (passphrase.first_line text)) × IsProtected (string_bytes file.name) file.bytes.items asked identity
        × (holders ≡ holder.File identity ∷ [])

    -- the same, where the text is given
    abbrev pub IsHeldUnderGiven : KeyFile → Option (List ℕ) → List (Holder S T GivesOnce) → Type 0
    IsHeldUnderGiven file given holders = (text : List ℕ) × (given ≡ Some text) × IsHeldUnder file text holders

    -- Those who have the identities of a file: of its keys, or, where a line of it is no identity, of a file under a passphrase, which is given.
    abbrev pub AreOfFile : KeyFile → Option (List ℕ) → List (Holder S T GivesOnce) → Type 0
    AreOfFile file given holders =
        ((entries : List Entry) × AreEntries (lines file.bytes.items) entries × AreKeys entries holders)
        ⊎ (((number : ℕ) × IsFirstBad (limited most_file_bytes (whole file.bytes.items)) number) × IsHeldUnderGiven file given holders)

    -- those of files, each file's after those of the files before it
    abbrev pub AreOfFiles : List KeyFile → Option (List ℕ) → List (Holder S T GivesOnce) → Type 0
    AreOfFiles [] given holders = holders ≡ []
    AreOfFiles (file ∷ more) given holders =
        (first : List (Holder S T GivesOnce)) × (others : List (Holder S T GivesOnce)) × (holders ≡ first ++ others)
        × AreOfFile file given first × AreOfFiles more given others

    -- those of what a command line gives: of files, or who knows a passphrase
    abbrev pub AreHolders : Keyring → List (Holder S T GivesOnce) → Type 0
    AreHolders (Files files text) holders = AreOfFiles files.items (option_map (λ bytes. bytes.items) text) holders
    AreHolders (Passphrase text) holders = KnowsPassphrase text.items holders

  module _ (S : Type 0) where
    -- why the file of this number, of which this line is no identity, names nobody, or can't be told to
    abbrev pub RefusesProtected : ℕ → ℕ → List ℕ → Option (List ℕ) → KeyringError → Type 0
    RefusesProtected number line bytes given e = RefusesPassphraseFile given e
        ⊎ ((e ≡ error.NotIdentity number line) × IsNotProtected S bytes)
        ⊎ ((e ≡ error.NoPassphrase number) × (given ≡ None) × IsUnderPassphrase S bytes)

    -- why the file of this number names nobody, or can't be told to
    abbrev pub RefusesKeyFile : ℕ → KeyFile → Option (List ℕ) → KeyringError → Type 0
    RefusesKeyFile number file given e = (e ≡ error.OutOfMemory)
        ⊎ ((e ≡ error.TooLong number) × IsTooLong most_file_bytes (whole file.bytes.items))
        ⊎ ((entries : List Entry) × AreEntries (lines file.bytes.items) entries × RefusesEntries number entries e)
        ⊎ ((line : ℕ) × IsFirstBad (limited most_file_bytes (whole file.bytes.items)) line × RefusesProtected number line file.bytes.items given e)

    -- Of these files the first that is refused, and those who have the identities of those before it.
    pub record IsFirstRefused (all : List KeyFile) (given : Option (List ℕ)) (e : KeyringError) : Type 0 where
      pub before : List KeyFile
      pub file : KeyFile
      pub after : List KeyFile
      pub parts : all ≡ before ++ file ∷ after
      pub holders : List (Holder S T GivesOnce)
      pub good : AreOfFiles before given holders
      pub refused : RefusesKeyFile (length before) file given e

    -- why files name nobody, or can't be told to
    abbrev pub RefusesFiles : List KeyFile → Option (List ℕ) → KeyringError → Type 0
    RefusesFiles all given e = (e ≡ error.OutOfMemory) ⊎ IsFirstRefused all given e

    -- why what a command line gives names nobody, or can't be told to
    abbrev pub RefusesKeyring : Keyring → KeyringError → Type 0
    RefusesKeyring (Files files text) e = RefusesFiles files.items (option_map (λ bytes. bytes.items) text) e
    RefusesKeyring (Passphrase text) e = RefusesPassphraseFile (Some text.items) e
