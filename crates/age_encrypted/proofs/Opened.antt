-- What opening a file comes to, once a passphrase was given.
use Rattle.std.specs.Prelude.{◌≡◌, ℕ, ◌≤◌, Bool, ◌&&◌, IsTrue, List, length, Option, None, Some, Result, Ok, Err, IsErrAnd, IfErr, IfOk, refl}
use Rattle.std.specs.Result.{result_map_both}
use Rattle.std.proofs.Common.{◌∙◌, inl, inr, subst, sym}
use Rattle.std.specs.Str.Lines.{lines}
use Rattle.age_error.specs.DecryptErrors.{DecryptRefusal, decrypt_refusal, decrypt_of_io}
use Rattle.age_error.specs.declared.decrypt.DecryptError.{DecryptError}
use Rattle.age_error.specs.declared.io.Error.{Error}
use Rattle.age_suite.specs.declared.suite.Suite.{Ghosts as SuiteMembers}
use Rattle.age_io.specs.declared.traits.Read.{Ghosts as ReadMembers}
use Rattle.age_io.specs.Stretch.{Stretch, whole}
use Rattle.age_format.specs.HeaderV1.{HeaderValue}
use Rattle.age_v1.specs.Identities.{UnwrapAnswer, decided}
use Rattle.age_v1.specs.Scrypt.{PassphraseIdentity}
use Rattle.age_stream.specs.declared.reader.StreamReader.{StreamReader}
use Rattle.age_stream.specs.Reader.{tells_of, plain_rest_of}
use Rattle.age_protocol.specs.Decrypting.{ReadsFront}
use Rattle.age_protocol.specs.OpeningFile.{AnswersReader}
use Rattle.age_protocol.specs.Passphrases.{UnwrapsPassphrase}
use Rattle.age_identity.specs.Entries.{Entry, AreEntries}
use Rattle.age_identity.specs.Reading.{ReadsFile, most_file_bytes}
use Rattle.age_identity.proofs.SameEntries.{reads_so, refuses_so}
use Rattle.age_encrypted.specs.Protected.{Protected, IsFileOfEntries, EntriesAreThose, Opens, HoldsEntries, OpensUnder, identity_under, of_passphrase, opened_by_asking, description}

-- what was read as a value that has entries was read as these entries
reads_entries : {R A : Type 0} (read : ReadMembers R) (limit : ℕ) (entries : A → List Entry) (input : R) (result : Result A Error)
    → ReadsFile read limit entries input result → ReadsFile read limit (λ own. own) input (result_map_both entries (λ e. e) result)
reads_entries read limit entries input (Ok file) reads = reads_so read limit entries (λ own. own) input file (entries file) refl reads
reads_entries read limit entries input (Err e) reads = refuses_so read limit entries (λ own. own) input e reads

-- it is this value, if it is one
same_value : {A E : Type 0} (x : A) (r : Result A E) → Ok x ≡ r → IfOk r (λ y. x ≡ y)
same_value x r is = subst (λ own. IfOk own (λ y. x ≡ y)) is refl

-- what ends well is the whole of its bytes
is_whole : (well : Bool) (bytes : List ℕ) → IsTrue well → ◌≡◌ {A = Stretch} (record { bytes = bytes; ends_well = well }) (whole bytes)
is_whole well bytes ends = subst (λ b. ◌≡◌ {A = Stretch} (record { bytes = bytes; ends_well = b }) (whole bytes)) (sym ends) refl

module _ {S R : Type 0} (suite : SuiteMembers S) (read : ReadMembers R) (stream_read : ReadMembers (StreamReader S R suite read)) where
  -- a plaintext was read, or refused, as an identity file
  pub holds : {A : Type 0} (entries : A → List Entry) (stream : StreamReader S R suite read) (file : A)
      → ReadsFile stream_read most_file_bytes entries stream (Ok file) → HoldsEntries suite stream_read (Ok stream) (Ok (entries file))
  holds entries stream file reads = (Ok (entries file), reads_entries stream_read most_file_bytes entries stream (Ok file) reads, refl)

  pub holds_none : {A : Type 0} (entries : A → List Entry) (stream : StreamReader S R suite read) (e : Error)
      → ReadsFile stream_read most_file_bytes entries stream (Err e)
      → HoldsEntries suite stream_read (Ok stream) (Err (decrypt_refusal (decrypt_of_io e)))
  holds_none entries stream e reads = (Err e, reads_entries stream_read most_file_bytes entries stream (Err e) reads, refl)

  -- of a stream that tells what its payload does, and delivers the plaintext
  module _ (tells_same : (r : StreamReader S R suite read) → stream_read.tells r ≡ tells_of r)
      (rest_same : (r : StreamReader S R suite read) → stream_read.rest r ≡ plain_rest_of r) where
    -- what was read of the plaintext is all of it, and the file is one of that plaintext
    plain_entries : {A : Type 0} (entries : A → List Entry) (h : HeaderValue) (nonce : List ℕ) (input : R) (identity : PassphraseIdentity)
        (stream : StreamReader S R suite read) (x : A) → ReadsFile stream_read most_file_bytes entries stream (Ok x)
        → IsTrue (read.tells input && read.steady input) → (start : Stretch) (place : ℕ)
        → ReadsFront start (read.rest input) place (read.place input) h nonce
        → (answer : UnwrapAnswer) → UnwrapsPassphrase suite identity h.stanzas answer identity
        → AnswersReader (of_passphrase (decided answer)) h nonce input (Ok stream)
        → IsFileOfEntries suite stream_read h.stanzas start identity (entries x)
    plain_entries entries h nonce input identity stream x reads told start place front None asked none = absurd none
    plain_entries entries h nonce input identity stream x reads told start place front (Some (Err refusal)) asked none = absurd none
    plain_entries entries h nonce input identity stream x reads told start place front (Some (Ok key)) asked (inl (wrong, none)) = absurd none
    plain_entries entries h nonce input identity stream x (last, r) told start place front (Some (Ok key)) asked (inr (right, opens)) =
        let stream_told : IsTrue (stream_read.tells stream) = subst (λ b. IsTrue b) (sym (tells_same stream ∙ opens.reader.tells)) told in
        let own = r.file stream_told in
        let well : IsTrue (plain_rest_of stream).ends_well = subst (λ s. IsTrue s.ends_well) (rest_same stream) own.well in
        let made = opens.file told start place (plain_rest_of stream).bytes front
        (is_whole (plain_rest_of stream).ends_well (plain_rest_of stream).bytes well) in
        record {
          file_key = key;
          plain = (plain_rest_of stream).bytes;
          gives = asked;
          well = made.0;
          is_file = made.1;
          fits = subst (λ s. length s.bytes ≤ most_file_bytes) (rest_same stream) (r.fits stream_told);
          good = subst (λ s. AreEntries (lines s.bytes) (entries x)) (rest_same stream) own.good;
        }

    module _ {C : Type 0} (gives : C → List ℕ → Option (List ℕ) → C → Type 0) (filename : Option (List ℕ)) (file : Protected R C) where
      -- so the entries that an opened stream held are those of the file
      stream_entries : (passphrase : List ℕ) (after : C) → gives file.callbacks (description filename) (Some passphrase) after
          → (answer : UnwrapAnswer) → UnwrapsPassphrase suite (identity_under file passphrase) file.header.stanzas answer
          (identity_under file passphrase)
          → (stream : StreamReader S R suite read) → AnswersReader (of_passphrase (decided answer)) file.header file.nonce file.input (Ok stream)
          → (entries : List Entry) (own : Result (List Entry) Error) → ReadsFile stream_read most_file_bytes (λ all. all) stream own
          → Ok entries ≡ result_map_both (λ all. all) (λ e. decrypt_refusal (decrypt_of_io e)) own
          → EntriesAreThose suite stream_read gives filename file (opened_by_asking after entries)
      stream_entries passphrase after given answer asked stream decrypts entries (Err e) reads is = absurd (subst (λ r. IfErr r (λ _. ⊥)) is tt)
      stream_entries passphrase after given answer asked stream decrypts entries (Ok own) reads is =
          λ told start place front. (
            passphrase,
            given,
            subst (λ all. IsFileOfEntries suite stream_read file.header.stanzas start (identity_under file passphrase) all)
                (sym (same_value entries (Ok own) is))
                (plain_entries (λ all. all) file.header file.nonce file.input
                (identity_under file passphrase) stream own reads told start place front answer asked decrypts),
          )

      under_entries : (passphrase : List ℕ) (after : C) → gives file.callbacks (description filename) (Some passphrase) after
          → (entries : List Entry) (answer : UnwrapAnswer)
          → UnwrapsPassphrase suite (identity_under file passphrase) file.header.stanzas answer (identity_under file passphrase)
          → (stream : Result (StreamReader S R suite read) DecryptError)
          → AnswersReader (of_passphrase (decided answer)) file.header file.nonce file.input stream
          → HoldsEntries suite stream_read stream (Ok entries)
          → EntriesAreThose suite stream_read gives filename file (opened_by_asking after entries)
      under_entries passphrase after given entries answer asked (Err e) decrypts is = absurd (subst (λ r. IfErr r (λ _. ⊥)) is tt)
      under_entries passphrase after given entries answer asked (Ok stream) decrypts (own, reads, is) =
          stream_entries passphrase after given answer asked stream decrypts entries own reads is

      given_entries : (passphrase : List ℕ) (after : C) → gives file.callbacks (description filename) (Some passphrase) after
          → (entries : Result (List Entry) DecryptRefusal) → OpensUnder suite stream_read file passphrase entries
          → IfOk entries (λ all. EntriesAreThose suite stream_read gives filename file (opened_by_asking after all))
      given_entries passphrase after given (Err refusal) under = tt
      given_entries passphrase after given (Ok entries) under =
          under_entries passphrase after given entries under.answer under.asked under.stream under.decrypts under.entries

      -- so whatever opened the file, its entries are those of the file
      pub opened_entries : (outcome : Result (List Entry) DecryptRefusal) (after : C) → Opens suite stream_read gives filename file outcome after
          → IfOk outcome (λ entries. EntriesAreThose suite stream_read gives filename file (opened_by_asking after entries))
      opened_entries outcome after (inl (memory, same)) = rw memory tt
      opened_entries outcome after (inr (None, given, none)) = rw none tt
      opened_entries outcome after (inr (Some passphrase, given, under)) = given_entries passphrase after given outcome under

  module _ {C : Type 0} (gives : C → List ℕ → Option (List ℕ) → C → Type 0) (filename : Option (List ℕ)) (file : Protected R C) where
    pub given_opens : (words passphrase : List ℕ) (after : C) → words ≡ description filename → gives file.callbacks words (Some passphrase) after
        → (identity : PassphraseIdentity) → identity ≡ identity_under file passphrase
        → (stream : Result (StreamReader S R suite read) DecryptError)
        → ((answer : UnwrapAnswer) × UnwrapsPassphrase suite identity file.header.stanzas answer identity
        × AnswersReader (of_passphrase (decided answer)) file.header file.nonce file.input stream)
        → (entries : Result (List Entry) DecryptRefusal) → HoldsEntries suite stream_read stream entries
        → Opens suite stream_read gives filename file entries after
    given_opens words passphrase after words_are given identity is stream (answer, asked, decrypts) entries holds =
        inr (
          Some passphrase,
          rw words_are at given,
          record { answer = answer; asked = rw is at asked; stream = stream; decrypts = decrypts; entries = holds },
        )

    -- the same where an error is answered
    pub given_refuses : {A : Type 0} (words passphrase : List ℕ) (after : C) → words ≡ description filename
        → gives file.callbacks words (Some passphrase) after
        → (identity : PassphraseIdentity) → identity ≡ identity_under file passphrase
        → (stream : Result (StreamReader S R suite read) DecryptError)
        → ((answer : UnwrapAnswer) × UnwrapsPassphrase suite identity file.header.stanzas answer identity
        × AnswersReader (of_passphrase (decided answer)) file.header file.nonce file.input stream)
        → (f : A → List Entry) (result : Result A DecryptError) (e : DecryptError) → IsErrAnd result (λ x. x ≡ e)
        → HoldsEntries suite stream_read stream (Err (decrypt_refusal e))
        → Opens suite stream_read gives filename file (result_map_both f (λ own. decrypt_refusal own) result) after
    given_refuses words passphrase after words_are given identity is stream found f (Ok x) e same holds = absurd same
    given_refuses words passphrase after words_are given identity is stream found f (Err x) e same holds =
        subst (λ y. Opens suite stream_read gives filename file (Err (decrypt_refusal y)) after) (sym same)
        (given_opens words passphrase after words_are given identity is stream found (Err (decrypt_refusal e)) holds)
