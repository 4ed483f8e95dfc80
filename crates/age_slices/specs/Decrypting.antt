-- What comes of decrypting a slice.
use Rattle.std.specs.Prelude.{◌≡◌, ◌⊎◌, ℕ, List, [], Result, Err, IfOk, IsOk, MatchResult}
use Rattle.std.specs.Str.Lines.{lines}
use Rattle.age.specs.Armor.{Carries}
use Rattle.age.specs.Converting.{native_secrets, plugin_names, RefusesIdentities as RefusesEntries}
use Rattle.age.specs.DecryptErrors.{OutOfMemory, decrypt_refusal}
use Rattle.age.specs.DecryptErrorVariants as decrypt
use Rattle.age.specs.DecryptingStreams.{DecryptsAll}
use Rattle.age.specs.Identities.{AnswersFirst, GivesFirst, UnwrapAnswer, FirstAnswer, IsFileFor, CarriesFile}
use Rattle.age.specs.Entries.{Entry, AreEntries}
use Rattle.age.specs.ErrorVariants as io
use Rattle.age.specs.FileErrorVariants as files
use Rattle.age.specs.FileErrors.{IsWant}
use Rattle.age.specs.IdentityFiles.{IsFirstBad}
use Rattle.age.specs.IdentityReading.{IsTooLong, most_file_bytes}
use Rattle.age.specs.Limiting.{limited}
use Rattle.age.specs.Members.{SuiteMembers, ReadMembers, WriteMembers}
use Rattle.age.specs.Stanza.{StanzaValue}
use Rattle.age.specs.Stretch.{whole}
use Rattle.age.specs.Types.{DecryptError, Error, FileError}

-- the secrets of the identities that a text names, in the order of its lines, of which none is a plugin's
abbrev pub AreIdentities : List ℕ → List (List ℕ) → Type 0
AreIdentities text secrets = (entries : List Entry) × AreEntries (lines text) entries × (plugin_names entries ≡ [])
    × (secrets ≡ native_secrets entries)

-- why a text names no identities, or can't be told to
abbrev pub RefusesIdentityText : List ℕ → DecryptError → Type 0
RefusesIdentityText text e = (decrypt_refusal e ≡ OutOfMemory)
    ⊎ ((line : ℕ) × (e ≡ decrypt.Io (io.NotIdentity line)) × IsFirstBad (limited most_file_bytes (whole text)) line)
    ⊎ ((e ≡ decrypt.Io io.LimitExceeded) × IsTooLong most_file_bytes (whole text))
    ⊎ ((entries : List Entry) × AreEntries (lines text) entries × RefusesEntries entries (decrypt_refusal e))

-- the same of what reading it refuses with
abbrev pub RefusesIdentityReading : List ℕ → Error → Type 0
RefusesIdentityReading text io.OutOfMemory = Unit {0}
RefusesIdentityReading text (io.NotIdentity line) = IsFirstBad (limited most_file_bytes (whole text)) line
RefusesIdentityReading text io.LimitExceeded = IsTooLong most_file_bytes (whole text)
RefusesIdentityReading text other = ⊥

-- A whole file was read from a reader of the slice to an empty list, by the identities.
abbrev pub DecryptsFrom : {I S R W : Type 0} → (I → List StanzaValue → UnwrapAnswer → I → Type 0) → SuiteMembers S → ReadMembers R
    → WriteMembers W → List I → List I → List ℕ → (W → List ℕ) → Result (List ℕ) FileError → Type 0
DecryptsFrom {I} {S} {R} {W} unwraps suite read write identities asked file items answer = (input : R) × (old : W) × (new : W)
    × (done : Result (Unit {0}) FileError)
    × (read.rest input ≡ whole file) × (items old ≡ [])
    × DecryptsAll suite read write (GivesFirst unwraps identities asked) (AnswersFirst unwraps identities asked)
    (IsFileFor suite.seal_of (FirstAnswer unwraps identities)) input old new done
    × MatchResult answer (λ plain. (plain ≡ items new) × IsOk done) (λ e. done ≡ Err e)

module _ {I S R W : Type 0} (unwraps : I → List StanzaValue → UnwrapAnswer → I → Type 0) (suite : SuiteMembers S) (read : ReadMembers R)
    (write : WriteMembers W) (items : W → List ℕ) where
  -- What the identities answer of a slice, which is at most what they have of its plaintext.
  pub record DecryptsBytes (identities asked : List I) (file : List ℕ) (answer : Result (List ℕ) FileError) : Type 0 where
    -- A success says that the slice carries a file of exactly what was answered, under the file key that the first of the identities gives who
    -- answers.
    pub success : IfOk answer (CarriesFile suite.seal_of (GivesFirst unwraps identities asked) file)
    -- A file for the identities is refused for want of memory alone, and gives nothing but its plaintext.
    pub honest : (carried plain : List ℕ) → Carries file carried → IsFileFor suite.seal_of (FirstAnswer unwraps identities) plain carried
        → MatchResult answer (λ given. given ≡ plain) IsWant
    -- How it was read, and so why it is refused.
    pub steps : DecryptsFrom unwraps suite read write identities asked file items answer

  -- By those that something stands for, or that is refused.
  abbrev pub DecryptsBytesBy : (DecryptError → Type 0) → (List I → Type 0) → List ℕ → Result (List ℕ) FileError → Type 0
  DecryptsBytesBy Refuses StandFor file answer = ((e : DecryptError) × (answer ≡ Err (files.Decrypt e)) × Refuses e)
      ⊎ ((identities : List I) × (asked : List I) × StandFor identities × DecryptsBytes identities asked file answer)
