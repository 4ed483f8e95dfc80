-- The recipients of a protected identity file.
use Rattle.std.specs.Prelude.{◌≡◌, ℕ, List, [], map, Option, Some, None, Result, Ok, Err}
use Rattle.age.specs.Members.{SuiteMembers, ReadMembers}
use Rattle.age.specs.Types.{Decryptor, FileError, StreamReader}
use Rattle.age.specs.Stretch.{Stretch}
use Rattle.age.specs.Stanza.{StanzaValue}
use Rattle.age.specs.Decrypting.{ReadsFront, RefusesFront}
use Rattle.age.specs.Decryptor.{OpensFront, header_of}
use Rattle.age.specs.DecryptErrors.{DecryptRefusal, decrypt_refusal}
use Rattle.age.specs.EncryptedIdentity.{file_of}
use Rattle.age.specs.EncryptErrors.{EncryptRefusal, encrypt_refusal}
use Rattle.age.specs.Entries.{Entry}
use Rattle.age.specs.FileErrorVariants as file
use Rattle.age.specs.HeaderTexts.{canonical}
use Rattle.age.specs.HeaderV1.{HeaderValue, IsScrypt}
use Rattle.age.specs.Converting.{native_secrets, plugin_names}
use Rattle.age.specs.Protected.{IsFileOfEntries, Opens, description}
use Rattle.age.specs.ProtectedIdentity.{GivesRecipients, state_after}

-- The bytes begin with a header and a nonce, and the file isn't one of a passphrase.
pub record HasNoPassphrase (start : Stretch) (place : ℕ) : Type 0 where
  pub header : HeaderValue
  pub nonce : List ℕ
  pub left : Stretch
  pub after : ℕ
  pub front : ReadsFront start left place after header nonce
  pub other : IsScrypt header.stanzas → ⊥

module _ {S R : Type 0} (suite : SuiteMembers S) {read : ReadMembers R} (stream_read : ReadMembers (StreamReader S R suite read)) where
  -- A passphrase was given for a file without a name, under which the bytes were the file of an identity file's text, whose work factor was
  -- at most 22, and these are the public values of the identities in its lines.
  pub record AreOfProtected {C : Type 0} (gives : C → List ℕ → Option (List ℕ) → C → Type 0) (start : Stretch) (callbacks : C)
      (recipients : List (List ℕ)) : Type 0 where
    pub passphrase : List ℕ
    pub after : C
    pub given : gives callbacks (description None) (Some passphrase) after
    pub stanzas : List StanzaValue
    pub entries : List Entry
    pub file : IsFileOfEntries suite stream_read stanzas start (record { passphrase = passphrase; target = 18; most = 22 }) entries
    pub native : plugin_names entries ≡ []
    pub those : recipients ≡ map (λ secret. suite.public_of secret) (native_secrets entries)

  -- The file is one of a passphrase, whoever was asked for that was asked once, and what opening it came to gives this refusal.
  pub record OpensToNone {C : Type 0} (gives : C → List ℕ → Option (List ℕ) → C → Type 0) (input : R) (callbacks : C)
      (refusal : EncryptRefusal) : Type 0 where
    pub decryptor : Decryptor S R
    pub front : OpensFront read input (Ok decryptor)
    pub scrypt : IsScrypt (header_of decryptor).stanzas
    pub outcome : Result (List Entry) DecryptRefusal
    pub asked : C
    pub opens : Opens suite stream_read gives None (file_of decryptor callbacks 18 None) outcome asked
    pub told : GivesRecipients {R = R} (λ secret. suite.public_of secret) (state_after outcome asked) (Err refusal)

  -- why no recipients are given: no header and nonce were read, and nobody was asked, or what opening the file came to
  abbrev pub GivesNoRecipients : {C : Type 0} → (C → List ℕ → Option (List ℕ) → C → Type 0) → R → C → FileError → Type 0
  GivesNoRecipients gives input callbacks (file.Decrypt e) = (last : R) × RefusesFront canonical read input last (decrypt_refusal e)
  GivesNoRecipients gives input callbacks (file.Encrypt e) = OpensToNone gives input callbacks (encrypt_refusal e)
  GivesNoRecipients gives input callbacks (file.Io e) = ⊥
