-- The recipients that a protected identity gives are those of its file.
use Rattle.std.specs.Prelude.{◌≡◌, ℕ, ◌&&◌, IsTrue, List, Option, None, Result, Ok, Err, IfErr, refl}
use Rattle.std.proofs.Common.{subst, sym, inl, inr}
use Rattle.age.specs.Members.{SuiteMembers, ReadMembers}
use Rattle.age.specs.Types.{StreamReader, Decryptor, DecryptError}
use Rattle.age.specs.Decrypting.{RefusesFront}
use Rattle.age.specs.DecryptErrors.{DecryptRefusal, decrypt_refusal}
use Rattle.age.specs.EncryptErrors.{EncryptRefusal}
use Rattle.age.specs.Decryptor.{OpensFront, header_of}
use Rattle.age.specs.HeaderTexts.{canonical}
use Rattle.age.specs.HeaderV1.{IsScrypt}
use Rattle.age.specs.Protected.{Opens, HoldsItsEntries}
use Rattle.age.specs.Entries.{Entry}
use Rattle.age.specs.EncryptedIdentity.{file_of}
use Rattle.age.specs.ProtectedIdentity.{State, Encrypted, GivesRecipients, OpensOnce, state_after}
use Rattle.age_examples.specs.ProtectedKeys.{AreOfProtected, HasNoPassphrase, OpensToNone}

module _ {S R C : Type 0} (suite : SuiteMembers S) (read : ReadMembers R) (stream_read : ReadMembers (StreamReader S R suite read))
    (gives : C → List ℕ → Option (List ℕ) → C → Type 0) (holds : HoldsItsEntries suite stream_read gives) (input : R) (callbacks : C)
    (told : IsTrue (read.tells input)) (steady : IsTrue (read.steady input)) where
  -- a refusal gives no recipients
  no_recipients : (refusal : DecryptRefusal) (asked : C) (recipients : List (List ℕ))
      → GivesRecipients {R = R} (λ secret. suite.public_of secret) (state_after (Err refusal) asked) (Ok recipients) → ⊥
  no_recipients refusal asked recipients (inl is) = subst (λ r. IfErr r (λ _. ⊥)) is tt
  no_recipients refusal asked recipients (inr (text, is)) = subst (λ r. IfErr r (λ _. ⊥)) is tt

  module _ (d : Decryptor S R) (front : OpensFront read input (Ok d)) where
    of_opened : (outcome : Result (List Entry) DecryptRefusal) (asked : C)
        → Opens suite stream_read gives None (file_of d callbacks 18 None) outcome asked
        → (recipients : List (List ℕ)) → GivesRecipients {R = R} (λ secret. suite.public_of secret) (state_after outcome asked) (Ok recipients)
        → AreOfProtected suite stream_read gives (read.rest input) callbacks recipients
    of_opened (Err refusal) asked opens recipients given = absurd (no_recipients refusal asked recipients given)
    of_opened (Ok entries) asked opens recipients (native, those) =
        let both : IsTrue (read.tells d.input && read.steady d.input) = rw (front.keeps.tells, front.keeps.steady, told, steady) refl in
        let (passphrase, given, file) = holds None (file_of d callbacks 18 None) entries asked opens both (read.rest input) (read.place input)
        (front.front told) in
        record {
          passphrase = passphrase;
          after = asked;
          given = given;
          stanzas = (header_of d).stanzas;
          entries = entries;
          file = file;
          native = native;
          those = those;
        }

    of_state : (name : Option (List ℕ)) → name ≡ None → (before : State R C) → before ≡ Encrypted (file_of d callbacks 18 None)
        → (after : State R C) → OpensOnce suite stream_read gives name before after
        → (recipients : List (List ℕ)) → GivesRecipients (λ secret. suite.public_of secret) after (Ok recipients)
        → AreOfProtected suite stream_read gives (read.rest input) callbacks recipients
    of_state name named before was after opened recipients given =
        let (outcome, asked, opens, is) = subst (λ s. OpensOnce suite stream_read gives None s after) was
        (subst (λ n. OpensOnce suite stream_read gives n before after) named opened) in
        of_opened outcome asked opens recipients (subst (λ s. GivesRecipients (λ secret. suite.public_of secret) s (Ok recipients)) is given)

  -- however the front was read
  pub of_protected : (Made : Result (Decryptor S R) DecryptError → Type 0) (name : Option (List ℕ)) (before : State R C)
      → ((e : DecryptError) → Made (Err e) → ⊥)
      → ((d : Decryptor S R) → Made (Ok d) → IsScrypt (header_of d).stanzas × (before ≡ Encrypted (file_of d callbacks 18 None)) × (name ≡ None))
      → (made : Result (Decryptor S R) DecryptError) → OpensFront read input made → Made made
      → (after : State R C) → OpensOnce suite stream_read gives name before after
      → (recipients : List (List ℕ)) → GivesRecipients (λ secret. suite.public_of secret) after (Ok recipients)
      → AreOfProtected suite stream_read gives (read.rest input) callbacks recipients
  of_protected Made name before none some (Err e) front is after opened recipients given = absurd (none e is)
  of_protected Made name before none some (Ok d) front is after opened recipients given =
      let (scrypt, was, named) = some d is in of_state d front name named before was after opened recipients given

-- no decryptor was made, for a reason
pub no_front : {S R : Type 0} (read : ReadMembers R) (input : R) (e : DecryptError) (Made : Result (Decryptor S R) DecryptError → Type 0)
    → ((other : DecryptError) → Made (Err other) → e ≡ other) → ((d : Decryptor S R) → Made (Ok d) → ⊥) → (made : Result (Decryptor S R) DecryptError)
    → OpensFront read input made → Made made → (last : R) × RefusesFront canonical read input last (decrypt_refusal e)
no_front {R = R} read input e Made same never (Err other) front is =
    subst (λ (it : DecryptError). (last : R) × RefusesFront canonical read input last (decrypt_refusal it)) (sym (same other is)) front.refused
no_front read input e Made same never (Ok d) front is = absurd (never d is)

-- the file of a decryptor that was made isn't one of a passphrase
pub no_passphrase : {S R : Type 0} (read : ReadMembers R) (input : R) (Made : Result (Decryptor S R) DecryptError → Type 0)
    → ((e : DecryptError) → Made (Err e) → ⊥)
    → ((d : Decryptor S R) → Made (Ok d) → IsScrypt (header_of d).stanzas → ⊥) → (made : Result (Decryptor S R) DecryptError)
    → OpensFront read input made → Made made → IsTrue (read.tells input) → HasNoPassphrase (read.rest input) (read.place input)
no_passphrase read input Made none some (Err e) front is told = absurd (none e is)
no_passphrase read input Made none some (Ok d) front is told = record {
  header = header_of d;
  nonce = _;
  left = _;
  after = _;
  front = front.front told;
  other = some d is;
}

module _ {S R C : Type 0} (suite : SuiteMembers S) (read : ReadMembers R) (stream_read : ReadMembers (StreamReader S R suite read))
    (gives : C → List ℕ → Option (List ℕ) → C → Type 0) (input : R) (callbacks : C) (refusal : EncryptRefusal) where
  refused_state : (d : Decryptor S R) → OpensFront read input (Ok d) → IsScrypt (header_of d).stanzas → (name : Option (List ℕ)) → name ≡ None
      → (before : State R C) → before ≡ Encrypted (file_of d callbacks 18 None) → (after : State R C)
      → OpensOnce suite stream_read gives name before after
      → GivesRecipients (λ secret. suite.public_of secret) after (Err refusal) → OpensToNone suite stream_read gives input callbacks refusal
  refused_state d front scrypt name named before was after opened told =
      let (outcome, asked, opens, is) = subst (λ s. OpensOnce suite stream_read gives None s after) was
      (subst (λ n. OpensOnce suite stream_read gives n before after) named opened) in
      record {
        decryptor = d;
        front = front;
        scrypt = scrypt;
        outcome = outcome;
        asked = asked;
        opens = opens;
        told = subst (λ s. GivesRecipients (λ secret. suite.public_of secret) s (Err refusal)) is told;
      }

  -- what opening the file came to gives a refusal
  pub opens_to_none : (Made : Result (Decryptor S R) DecryptError → Type 0) (name : Option (List ℕ)) (before : State R C)
      → ((e : DecryptError) → Made (Err e) → ⊥)
      → ((d : Decryptor S R) → Made (Ok d) → IsScrypt (header_of d).stanzas × (before ≡ Encrypted (file_of d callbacks 18 None)) × (name ≡ None))
      → (made : Result (Decryptor S R) DecryptError) → OpensFront read input made → Made made
      → (after : State R C) → OpensOnce suite stream_read gives name before after
      → GivesRecipients (λ secret. suite.public_of secret) after (Err refusal) → OpensToNone suite stream_read gives input callbacks refusal
  opens_to_none Made name before none some (Err e) front is after opened told = absurd (none e is)
  opens_to_none Made name before none some (Ok d) front is after opened told =
      let (scrypt, was, named) = some d is in refused_state d front scrypt name named before was after opened told
