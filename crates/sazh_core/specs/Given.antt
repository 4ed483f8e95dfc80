-- Commands from what they are given on: words and texts of files.
use Rattle.std.specs.Prelude.{◌≡◌, ◌⊎◌, ◌&&◌, ℕ, List, [], true, false, Option, Result, Err, IsTrue, IsOk, IfOk, IfErr, MatchResult}
use Rattle.std.specs.Result.{result_map_both}
use Rattle.age.specs.Armor.{Carries}
use Rattle.age.specs.DecryptErrorVariants.{KeyDecryptionFailed, NoMatchingKeys}
use Rattle.age.specs.Identities.{GivesFirst, UnwrapAnswer}
use Rattle.age.specs.File.{IsFileOf}
use Rattle.age.specs.FileErrorVariants.{Decrypt}
use Rattle.age.specs.FileErrors.{IsDecryptError}
use Rattle.age.specs.HeaderV1.{HeaderValue}
use Rattle.age.specs.Members.{SuiteMembers, ReadMembers, WriteMembers}
use Rattle.age.specs.Stanza.{StanzaValue}
use Rattle.age.specs.Types.{DecryptError, Error, FileError, Format, StreamReader}
use Rattle.age.specs.Recipients.{WrapAnswer}
use Rattle.sazh_core.specs.Decrypting.{DecryptsThenFlushes, DecryptsSome, GivesFile, GivesPart, Migrated}
use Rattle.sazh_core.specs.Keyring.{AreHolders, RefusesKeyring}
use Rattle.sazh_core.specs.Locked.{HasLocked}
use Rattle.sazh_core.specs.Measuring.{IsMeasured, WasGiven}
use Rattle.sazh_core.specs.Opening.{FindsOpener}
use Rattle.sazh_core.specs.Rekeying.{KeepsPlaintext, Rekeys}
use Rattle.sazh_core.specs.Words.{AreOfWords, RefusesWords}
use Rattle.sazh_core.specs.declared.callbacks.GivesOnce.{GivesOnce}
use Rattle.sazh_core.specs.declared.error.CommandError.{CommandError}
use Rattle.sazh_core.specs.declared.error.CommandError.TheVariants.{File}
use Rattle.sazh_core.specs.declared.error.GivenError.{GivenError}
use Rattle.sazh_core.specs.declared.error.GivenError.TheVariants.{Given, Command}
use Rattle.sazh_core.specs.declared.error.KeyringError.{KeyringError}
use Rattle.sazh_core.specs.declared.error.RekeyError.{RekeyError}
use Rattle.sazh_core.specs.declared.error.RekeyError.TheVariants as refused
use Rattle.sazh_core.specs.declared.holder.Holder.{Holder}
use Rattle.sazh_core.specs.declared.keyring.Keyring.{Keyring}
use Rattle.sazh_core.specs.declared.measuring.Measured.{Measured}
use Rattle.sazh_core.specs.declared.measuring.Measuring.{Measuring}
use Rattle.sazh_core.specs.declared.words.Word.{Word}

-- What was given is refused, and nothing was touched; or it stands for something, and with that the command came to what is answered.
abbrev pub WithGiven : {G C V X : Type 0} → (G → Type 0) → Type 0 → (X → Type 0) → (X → Result V C → Type 0)
    → (X → Result V C → Result V (GivenError G C) → Type 0) → Result V (GivenError G C) → Type 0
WithGiven {G} {C} {V} {X} Refuses Untouched StandsFor Does Answers result =
    ((e : G) × (result ≡ Err (Given e)) × Refuses e × Untouched)
    ⊎ ((x : X) × StandsFor x × ((done : Result V C) × Does x done × Answers x done result))

-- what a command came to is answered
abbrev pub Answers : {G C V : Type 0} → Result V C → Result V (GivenError G C) → Type 0
Answers done result = result ≡ result_map_both (λ v. v) Command done

-- The same, but where nobody has a key it is told whether one of those who were asked is a file of identities that its passphrase doesn't open.
abbrev pub AnswersKeys : {S T C G V : Type 0} → List (Holder S T C) → Result V FileError → Result V (GivenError G FileError) → Type 0
AnswersKeys asked done result = (Answers done result × (done ≡ Err (Decrypt NoMatchingKeys) → HasLocked asked false))
    ⊎ ((done ≡ Err (Decrypt NoMatchingKeys)) × (result ≡ Err (Command (Decrypt KeyDecryptionFailed))) × HasLocked asked true)

module _ {S T W V : Type 0} (unwraps : Holder S T GivesOnce → List StanzaValue → UnwrapAnswer → Holder S T GivesOnce → Type 0)
    (suite : SuiteMembers S)
    (text_read : ReadMembers T) (write : WriteMembers W) (given : Keyring) where
  -- Those who decrypt with what was given are asked by the command, in their order: they, and what they are after it.
  abbrev pub WithKeyring : Type 0 → (List (Holder S T GivesOnce) → List (Holder S T GivesOnce) → Result V FileError → Type 0)
      → Result V (GivenError KeyringError FileError) → Type 0
  WithKeyring Untouched Does result = WithGiven {X = List (Holder S T GivesOnce) × List (Holder S T GivesOnce)}
      (RefusesKeyring text_read S given) Untouched
      (λ x. AreHolders text_read given x.0) (λ x done. Does x.0 x.1 done) (λ x done told. AnswersKeys x.1 done told) result

  -- A whole file was decrypted so.
  abbrev pub DecryptsBy : {R : Type 0} → ReadMembers R → R → R → W → W → Result V (GivenError KeyringError FileError) → Type 0
  DecryptsBy {R} read input last old new result = WithKeyring ((last ≡ input) × (new ≡ old))
      (λ holders asked done. DecryptsThenFlushes unwraps suite read write holders asked input old new done
      × GivesFile unwraps suite read write holders asked input old new done
      × IfErr done (λ e. IsDecryptError e → new ≡ old)) result

  -- So many bytes of its plaintext from a place on.
  abbrev pub DecryptsSomeBy : {R : Type 0} → ReadMembers R → ℕ → ℕ → R → R → W → W → Result V (GivenError KeyringError FileError) → Type 0
  DecryptsSomeBy {R} read place count input last old new result = WithKeyring ((last ≡ input) × (new ≡ old))
      (λ holders asked done. DecryptsSome unwraps suite read write holders asked place count input last old new done) result

  -- The same of a file in which is sought.
  abbrev pub GivesPartBy : {R A : Type 0} → ReadMembers R → (armored_read : ReadMembers A) → ReadMembers (StreamReader S A suite armored_read)
      → (Error → Type 0)
      → ℕ → ℕ → R → W → W → Result V (GivenError KeyringError FileError) → Type 0
  GivesPartBy {R} {A} read armored_read stream_read below place count input old new result = WithKeyring (new ≡ old)
      (λ holders asked done. GivesPart unwraps suite read armored_read write stream_read below holders asked place count input old new done) result

  -- A file was rewritten as one of the standard.
  abbrev pub MigratedBy : {R A : Type 0} → ReadMembers R → ReadMembers A → R → W → W → Result V (GivenError KeyringError FileError) → Type 0
  MigratedBy {R} {A} read armored_read input old new result = WithKeyring (new ≡ old)
      (λ holders asked done. Migrated unwraps suite.seal_of read armored_read write holders asked input old new done) result

-- One of those who decrypt with what was given opens a file with this header.
abbrev pub FindsOpenerBy : {S T : Type 0} → (Holder S T GivesOnce → List StanzaValue → UnwrapAnswer → Holder S T GivesOnce → Type 0) → ReadMembers T
    → Keyring → HeaderValue → Result ℕ (GivenError KeyringError FileError) → Type 0
FindsOpenerBy {S} {T} unwraps text_read given h result =
    WithGiven {X = List (Holder S T GivesOnce) × List (Holder S T GivesOnce)} (RefusesKeyring text_read S given)
    (Unit {0}) (λ x. AreHolders text_read given x.0)
    (λ x done. (own : Result ℕ DecryptError) × FindsOpener unwraps h x.0 x.1 own × (done ≡ result_map_both (λ n. n) Decrypt own))
    (λ x done told. AnswersKeys x.1 done told) result

-- what was given to encrypt a file to others is refused
abbrev pub RefusesRekey : {T : Type 0} → ReadMembers T → Type 0 → (List ℕ → List ℕ) → Keyring → List Word → RekeyError → Type 0
RefusesRekey {T} text_read S public_of given words (refused.Keyring e) = RefusesKeyring text_read S given e
RefusesRekey {T} text_read S public_of given words (refused.Words e) = RefusesWords text_read S public_of words e

-- the same of a command that draws random bytes too
abbrev pub AnswersCommand : {S T C G V : Type 0} → List (Holder S T C) → Result V CommandError → Result V (GivenError G CommandError) → Type 0
AnswersCommand asked done result = (Answers done result × (done ≡ Err (File (Decrypt NoMatchingKeys)) → HasLocked asked false))
    ⊎ ((done ≡ Err (File (Decrypt NoMatchingKeys))) × (result ≡ Err (Command (File (Decrypt KeyDecryptionFailed)))) × HasLocked asked true)

module _ {S T B W V : Type 0} (unwraps : Holder S T GivesOnce → List StanzaValue → UnwrapAnswer → Holder S T GivesOnce → Type 0)
    (gives : B → ℕ → Option (List ℕ) → B → Type 0) (wraps : List ℕ → List ℕ → List ℕ → WrapAnswer → List ℕ → Type 0) (suite : SuiteMembers S)
    (text_read : ReadMembers T) (write : WriteMembers W) (given : Keyring) (words : List Word) where
  -- The plaintext of a file that those who decrypt with what was given open was encrypted to the recipients that the words name.
  abbrev pub RekeysBy : {R A : Type 0} → ReadMembers R → (armored_read : ReadMembers A) → ReadMembers (StreamReader S A suite armored_read)
      → Format → B → B → R → W → W
      → Result V (GivenError RekeyError CommandError) → Type 0
  RekeysBy {R} {A} read armored_read stream_read format before after input old new result =
      WithGiven {X = List (Holder S T GivesOnce) × List (Holder S T GivesOnce) × List (List ℕ)} (RefusesRekey text_read S suite.public_of given words)
      ((after ≡ before) × (new ≡ old))
      (λ x. AreHolders text_read given x.0 × AreOfWords suite.public_of words x.2)
      (λ x done. Rekeys unwraps gives wraps suite write format x.0 x.1 x.2 before after read armored_read stream_read input old new done
      × KeepsPlaintext unwraps gives wraps suite write format x.0 x.1 x.2 before after read input old new done)
      (λ x done told. AnswersCommand x.1 done told) result

module _ {S T : Type 0} (unwraps : Holder S T GivesOnce → List StanzaValue → UnwrapAnswer → Holder S T GivesOnce → Type 0) (suite : SuiteMembers S)
    (text_read : ReadMembers T) (write : WriteMembers Measuring) (given : Keyring) where
  -- A whole file was decrypted to one that measures its plaintext, and what that came to is answered.
  abbrev pub Verifies : {R : Type 0} → ReadMembers R → R → R → Result Measured (GivenError KeyringError FileError) → Type 0
  Verifies {R} read input last result = (old : Measuring) × (new : Measuring) × WasGiven old []
      × ((done : Result (Unit {0}) (GivenError KeyringError FileError))
      × DecryptsBy unwraps suite text_read write given read input last old new done
      × MatchResult result (λ measured. IsOk done × ((text : List ℕ) → WasGiven new text → IsMeasured measured text)) (λ e. done ≡ Err e))

  -- A success says that the input carried a file of a plaintext of which these are the length and the digest, under the file
  -- key that the first of those who decrypt with what was given gives who answers: over a steady reader that tells its bytes.
  abbrev pub VerifiesFile : {R : Type 0} → ReadMembers R → R → Result Measured (GivenError KeyringError FileError) → Type 0
  VerifiesFile {R} read input result = IsTrue (read.tells input && read.steady input) → IfOk result (λ measured.
      (holders : List (Holder S T GivesOnce)) × (asked : List (Holder S T GivesOnce)) × AreHolders text_read given holders
      × ((file_key : List ℕ) × (stanzas : List StanzaValue) × (plain : List ℕ) × (bytes : List ℕ)
      × GivesFirst unwraps holders asked file_key stanzas
      × IsTrue (read.rest input).ends_well
      × Carries (read.rest input).bytes bytes
      × IsFileOf suite.seal_of file_key stanzas plain bytes
      × IsMeasured measured plain))
