-- A file of identities that is encrypted with a passphrase, and what opening it comes to.
use Rattle.std.specs.Prelude.{◌≡◌, ◌⊎◌, ℕ, ◌+◌, ◌≤◌, ◌&&◌, IsTrue, List, ◌++◌, length, codes, Option, Some, None, Result, Ok, Err}
use Rattle.std.specs.Result.{result_map_both}
use Rattle.std.specs.Str.Lines.{lines}
use Rattle.age_error.specs.DecryptErrors.{DecryptRefusal, DecryptionFailed, HasText, KeyDecryptionFailed, OutOfMemory, decrypt_refusal, decrypt_of_io}
use Rattle.age_error.specs.declared.decrypt.DecryptError.{DecryptError}
use Rattle.age_error.specs.declared.io.Error.{Error}
use Rattle.age_suite.specs.declared.suite.Suite.{Ghosts as SuiteMembers}
use Rattle.age_io.specs.declared.traits.Read.{Ghosts as ReadMembers}
use Rattle.age_io.specs.Stretch.{Stretch}
use Rattle.age_format.specs.HeaderV1.{HeaderValue}
use Rattle.age_v1.specs.Stanza.{StanzaValue}
use Rattle.age_v1.specs.Identities.{UnwrapAnswer, decided}
use Rattle.age_v1.specs.Scrypt.{PassphraseIdentity}
use Rattle.age_stream.specs.declared.reader.StreamReader.{StreamReader}
use Rattle.age_protocol.specs.Decrypting.{ReadsFront}
use Rattle.age_v1.specs.File.{IsFileOf}
use Rattle.age_protocol.specs.OpeningFile.{AnswersReader}
use Rattle.age_protocol.specs.Passphrases.{UnwrapsPassphrase}
use Rattle.age_identity.specs.Entries.{Entry, AreEntries}
use Rattle.age_identity.specs.Reading.{ReadsFile, most_file_bytes}

-- A file that isn't opened yet: its header and nonce, the reader of its payload, who is asked for the passphrase, and the work factor that
-- the passphrase is meant for and the largest one that is taken.
pub record Protected (R C : Type 0) : Type 0 where
  pub header : HeaderValue
  pub nonce : List ℕ
  pub input : R
  pub callbacks : C
  pub target : ℕ
  pub most : ℕ

-- one that is opened: the identities in it, and who was asked
pub record Opened (C : Type 0) : Type 0 where
  pub entries : List Entry
  pub callbacks : C

-- the largest work factor that is taken: the one that was given, else four above the target
abbrev pub most_of : ℕ → Option ℕ → ℕ
most_of target None = target + 4
most_of target (Some most) = most

-- the file with those who were asked
abbrev pub opened_by_asking : {C : Type 0} → C → List Entry → Opened C
opened_by_asking callbacks entries = record { entries = entries; callbacks = callbacks }

-- what a user is told when the passphrase is asked for, of the file's name if it has one
abbrev pub description : Option (List ℕ) → List ℕ
description None = codes "passphrase for encrypted identity "
description (Some name) = codes "passphrase for encrypted identity " ++ name

-- a passphrase that isn't that of the file has a refusal of its own
abbrev pub own_refusal : DecryptRefusal → DecryptRefusal
own_refusal DecryptionFailed = KeyDecryptionFailed
own_refusal refusal = refusal

-- a file key, or the refusal of the identity of a passphrase
abbrev pub of_passphrase : Result (List ℕ) DecryptRefusal → Result (List ℕ) DecryptRefusal
of_passphrase answer = result_map_both (λ key. key) own_refusal answer

-- the identity of a passphrase that the file is decrypted with
abbrev pub identity_under : {R C : Type 0} → Protected R C → List ℕ → PassphraseIdentity
identity_under file passphrase = record { passphrase = passphrase; target = file.target; most = file.most }

module _ {S R : Type 0} (suite : SuiteMembers S) {read : ReadMembers R} (stream_read : ReadMembers (StreamReader S R suite read)) where
  -- What the file key, or the refusal, makes of the file: the entries of its plaintext, read as any identity file.
  abbrev pub HoldsEntries : Result (StreamReader S R suite read) DecryptError → Result (List Entry) DecryptRefusal → Type 0
  HoldsEntries (Err e) outcome = outcome ≡ Err (decrypt_refusal e)
  HoldsEntries (Ok stream) outcome = (own : Result (List Entry) Error)
      × ReadsFile stream_read most_file_bytes (λ entries. entries) stream own
      × (outcome ≡ result_map_both (λ entries. entries) (λ e. decrypt_refusal (decrypt_of_io e)) own)

  module _ {C : Type 0} where
    -- What a passphrase makes of the file: it is decrypted by the identity of the passphrase.
    pub record OpensUnder (file : Protected R C) (passphrase : List ℕ) (outcome : Result (List Entry) DecryptRefusal) : Type 0 where
      pub answer : UnwrapAnswer
      pub asked : UnwrapsPassphrase suite (identity_under file passphrase) file.header.stanzas answer (identity_under file passphrase)
      pub stream : Result (StreamReader S R suite read) DecryptError
      pub decrypts : AnswersReader (of_passphrase (decided answer)) file.header file.nonce file.input stream
      pub entries : HoldsEntries stream outcome

    -- what the answer of those who are asked makes of it
    abbrev pub OpensBy : Protected R C → Option (List ℕ) → Result (List Entry) DecryptRefusal → Type 0
    OpensBy file None outcome = outcome ≡ Err KeyDecryptionFailed
    OpensBy file (Some passphrase) outcome = OpensUnder file passphrase outcome

    -- What opening the file comes to, and what becomes of those who are asked, whatever it comes to: a passphrase is asked for once, and they
    -- are as that question left them. Where memory for the words of the question is refused they are as they were.
    abbrev pub Opens : (C → List ℕ → Option (List ℕ) → C → Type 0) → Option (List ℕ) → Protected R C → Result (List Entry) DecryptRefusal → C → Type 0
    Opens gives filename file outcome after =
        ((outcome ≡ Err OutOfMemory) × (after ≡ file.callbacks))
        ⊎ ((given : Option (List ℕ)) × gives file.callbacks (description filename) given after × OpensBy file given outcome)

  -- Whatever was read before the payload: the file was one of a plaintext, under a file key that the identity of a passphrase got from its
  -- stanzas, and these are the entries of the plaintext's lines.
  pub record IsFileOfEntries (stanzas : List StanzaValue) (start : Stretch) (identity : PassphraseIdentity) (entries : List Entry) : Type 0 where
    pub file_key : List ℕ
    pub plain : List ℕ
    pub gives : UnwrapsPassphrase suite identity stanzas (Some (Ok file_key)) identity
    pub well : IsTrue start.ends_well
    pub is_file : IsFileOf suite.seal_of file_key stanzas plain start.bytes
    pub fits : length plain ≤ most_file_bytes
    pub good : AreEntries (lines plain) entries

  -- So it is where the reader tells its bytes and is steady, and the passphrase was given.
  abbrev pub EntriesAreThose : {C : Type 0} → (C → List ℕ → Option (List ℕ) → C → Type 0) → Option (List ℕ) → Protected R C → Opened C → Type 0
  EntriesAreThose gives filename file opened = IsTrue (read.tells file.input && read.steady file.input) → (start : Stretch) (place : ℕ)
      → ReadsFront start (read.rest file.input) place (read.place file.input) file.header file.nonce
      → (passphrase : List ℕ) × gives file.callbacks (description filename) (Some passphrase) opened.callbacks
      × IsFileOfEntries file.header.stanzas start (identity_under file passphrase) opened.entries

  -- so it is of each file that opens
  abbrev pub HoldsItsEntries : {C : Type 0} → (C → List ℕ → Option (List ℕ) → C → Type 0) → Type 0
  HoldsItsEntries {C} gives = (filename : Option (List ℕ)) (file : Protected R C) (entries : List Entry) (after : C)
      → Opens gives filename file (Ok entries) after → EntriesAreThose gives filename file (opened_by_asking after entries)

  -- whatever is refused, a copy of it takes no memory
  abbrev pub RefusesWithoutText : {C : Type 0} → (C → List ℕ → Option (List ℕ) → C → Type 0) → Type 0
  RefusesWithoutText {C} gives = (filename : Option (List ℕ)) (file : Protected R C) (refusal : DecryptRefusal) (after : C)
      → Opens gives filename file (Err refusal) after → HasText refusal → ⊥
