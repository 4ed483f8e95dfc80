-- What was read of the files that a command line gives.
use Rattle.std.specs.Prelude.{Result, Ok, Err, Option, Some, None, IsTrue, MatchResult, true}
use Rattle.std.proofs.Common.{◌≡◌, ◌∙◌, ◌+◌, ◌<◌, [], ◌∷◌, ◌++◌, ap, arith, List, ℕ, drop, get_or, inl, inr, length, length-take-le, refl, subst, sym, take}
use Rattle.std.proofs.lemmas.List.{append-nil, append_assoc, drop_more, take-append-drop}
use Rattle.std.specs.Str.Lines.{lines}
use Rattle.age.specs.Types.{DecryptError, Decryptor, Error, ProtectedIdentity as Protected}
use Rattle.age.specs.Members.{ReadMembers}
use Rattle.age.specs.Armor.{Carries}
use Rattle.age.specs.Decryptor.{OpensFront}
use Rattle.age.specs.DeliveredArmor.{text_delivers, stretch_of}
use Rattle.age.specs.EncryptedIdentities.{IsMadeOf}
use Rattle.age.specs.Entries.{Entry, AreEntries}
use Rattle.age.specs.IdentityReading.{ReadsFile, most_file_bytes}
use Rattle.age.specs.Stretch.{Stretch, whole}
use Rattle.sazh_core.specs.Keyring.{AreOfFile, AreOfFiles, FoundOrNone, IsFirstRefused, IsFoundProtected, IsProtected, IsUnderPassphrase, ReadsBytes, RefusesKeyBytes, RefusesKeyFile}
use Rattle.sazh_core.specs.declared.callbacks.GivesOnce.{GivesOnce}
use Rattle.sazh_core.specs.declared.error.KeyringError.{KeyringError}
use Rattle.sazh_core.specs.declared.holder.Holder.{Holder}
use Rattle.sazh_core.specs.declared.keyring.KeyFile.{KeyFile}

pub reads_bytes : {T : Type 0} (text_read : ReadMembers T) (text : T) (bytes : List ℕ) (rest : Stretch) → rest ≡ whole bytes
    → text_read.tells text ≡ true → text_read.steady text ≡ true → text_read.faults text ≡ 0 → text_read.place text ≡ 0
    → text_read.rest text ≡ stretch_of (text_delivers rest.bytes rest.ends_well)
    → ((file : List ℕ) → IsTrue rest.ends_well → Carries rest.bytes file → text_read.rest text ≡ whole file)
    → ReadsBytes text_read bytes text
reads_bytes text_read text bytes rest is tells steady faults place reads honest = record {
  tells = tells;
  steady = steady;
  faults = faults;
  place = place;
  rest = reads ∙ ap (λ (s : Stretch). stretch_of (text_delivers s.bytes s.ends_well)) is;
  honest = λ file carries. honest file (rw is refl) (rw is carries);
}

-- Of a reader of bytes, which refuses nothing by itself.
pub bytes_read : {R A : Type 0} (read : ReadMembers R) (entries : A → List Entry) (input : R) (bytes : List ℕ) (result : Result A Error)
    → ReadsFile read most_file_bytes entries input result
    → IsTrue (read.tells input) → read.rest input ≡ whole bytes → ((e : Error) → read.refuses input e → ⊥)
    → MatchResult result (λ x. AreEntries (lines bytes) (entries x)) (λ e. RefusesKeyBytes bytes e)
bytes_read read entries input bytes (Ok x) (last, reads) told is never = rw is at (reads.file told).good
bytes_read read entries input bytes (Err e) (last, reads) told is never =
    elim reads.refused [
      | inl memory ↦ rw memory tt
      | inr (inl (number, named, bad)) ↦ rw named (rw is at (bad told))
      | inr (inr (inl (named, long))) ↦ rw named (rw is at (long told))
      | inr (inr (inr ((inl (patient, refuses)), breaks))) ↦ absurd (never e refuses)
      | inr (inr (inr ((inr (named, refuses)), breaks))) ↦ absurd (never _ refuses)
    ]

pub protected_found : {S T : Type 0} (text_read : ReadMembers T) (text : T) (name bytes : List ℕ) (asked : GivesOnce)
    (made : Result (Decryptor S T) DecryptError)
    (filename : Option (List ℕ)) (found : Result (Option (Protected S T GivesOnce)) DecryptError)
    (result : Result (Option (Protected S T GivesOnce)) KeyringError)
    → ReadsBytes text_read bytes text → OpensFront text_read text made → filename ≡ Some name → IsMadeOf made filename asked 18 None found
    → FoundOrNone found result
    → IsFoundProtected text_read name bytes asked result
protected_found text_read text name bytes asked (Err e) filename (Ok it) result reads opens named is_made is_found = absurd is_made
protected_found text_read text name bytes asked (Err e) filename (Err own) result reads opens named is_made is_found =
    elim is_found [
      | inl (memory, is) ↦ rw is refl
      | inr (other, is) ↦ rw is (text, reads, (Err e, opens, λ same. other (is_made ∙ same)))
    ]
protected_found text_read text name bytes asked (Ok front) filename (Err own) result reads opens named is_made is_found = absurd is_made
protected_found text_read text name bytes asked (Ok front) filename (Ok None) result reads opens named is_made is_found =
    rw is_found (text, reads, (Ok front, opens, is_made))
protected_found text_read text name bytes asked (Ok front) filename (Ok (Some identity)) result reads opens named is_made is_found =
    rw is_found record {
      text = text;
      reads = reads;
      front = front;
      opens = opens;
      under_passphrase = is_made.0;
      state = is_made.1;
      named = is_made.2 ∙ named;
    }

-- what holds of an answer holds of it in weaker words
pub match_weaker : {A E : Type 0} {P Q : A → Type 0} {F G : E → Type 0} (result : Result A E) → MatchResult result P F → ((x : A) → P x → Q x)
    → ((e : E) → F e → G e)
    → MatchResult result Q G
match_weaker (Ok x) holds ok err = ok x holds
match_weaker (Err e) holds ok err = err e holds

module _ {S T : Type 0} (text_read : ReadMembers T) (given : Option (List ℕ)) where
  -- those who have the identities of files, and then those of one more
  pub file_added : (before : List KeyFile) (file : KeyFile) (holders more : List (Holder S T GivesOnce))
      → AreOfFiles text_read before given holders → AreOfFile text_read file given more
      → AreOfFiles text_read (before ++ file ∷ []) given (holders ++ more)
  file_added [] file holders more none is = (more, [], ap (λ all. all ++ more) none ∙ sym (append-nil more), is, refl)
  file_added (first ∷ before) file holders more (own, others, joined, of_first, of_others) is =
      (own, others ++ more, ap (λ all. all ++ more) joined ∙ append_assoc own others more, of_first, file_added before file others more of_others is)

  -- the first file that is refused, of which those before it are the first ones
  pub file_refused : (all : List KeyFile) (i : ℕ) (other : KeyFile) (holders : List (Holder S T GivesOnce)) (e : KeyringError) → i < length all
      → AreOfFiles text_read (take i all) given holders → RefusesKeyFile text_read S i (get_or all i other) given e
      → IsFirstRefused text_read S all given e
  file_refused all i other holders e within good refused = record {
    before = take i all;
    file = get_or all i other;
    after = drop (i + 1) all;
    parts = sym (take-append-drop i all) ∙ ap (λ rest. take i all ++ rest) (drop_more all i other within);
    holders = holders;
    good = good;
    refused = subst (λ n. RefusesKeyFile text_read S n (get_or all i other) given e) (sym (length-take-le i all (omega (arith, within)))) refused;
  }

-- who asks for the passphrase of a file says that the file is under one
pub is_under_passphrase : {S T : Type 0} (text_read : ReadMembers T) (name bytes : List ℕ) (asked : GivesOnce) (identity : Protected S T GivesOnce)
    → IsProtected text_read name bytes asked identity → IsUnderPassphrase text_read S bytes
is_under_passphrase text_read name bytes asked identity is = (is.text, is.reads, (is.front, is.opens, is.under_passphrase))
