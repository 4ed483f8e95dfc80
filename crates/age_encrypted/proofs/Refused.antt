-- What a protected file is refused with carries no text.
use Rattle.std.specs.Prelude.{ℕ, ◌&&◌, Bool, true, false, List, [], ◌∷◌, if◌then◌else◌, nat_le, Option, None, Some, Result, Ok, Err, IfErr, ⊤}
use Rattle.std.proofs.Common.{inl, inr}
use Rattle.age_error.specs.DecryptErrors.{DecryptRefusal, DecryptionFailed, ExcessiveWork, InvalidHeader, InvalidMac, Io, KeyDecryptionFailed, NoMatchingKeys, PluginResolve, UnknownFormat, OutOfMemory, HasText, decrypt_refusal, decrypt_of_io}
use Rattle.age_error.specs.declared.decrypt.DecryptError.{DecryptError}
use Rattle.age_error.specs.declared.io.Error.{Error}
use Rattle.age_error.specs.declared.io.Error.TheVariants as io
use Rattle.age_suite.specs.declared.suite.Suite.{Ghosts as SuiteMembers}
use Rattle.age_io.specs.declared.traits.Read.{Ghosts as ReadMembers}
use Rattle.age_format.specs.HeaderV1.{HeaderValue}
use Rattle.age_v1.specs.Stanza.{StanzaValue}
use Rattle.age_v1.specs.Identities.{UnwrapAnswer, decided}
use Rattle.age_v1.specs.RecipientType.{no_nonce}
use Rattle.age_v1.specs.Scrypt.{PassphraseIdentity, UnwrapsUnder, found_under, stretch_salt}
use Rattle.age_stream.specs.declared.reader.StreamReader.{StreamReader}
use Rattle.age_protocol.specs.OpeningFile.{AnswersReader}
use Rattle.age_protocol.specs.Passphrases.{UnwrapsPassphrase}
use Rattle.age_identity.specs.Entries.{Entry}
use Rattle.age_encrypted.specs.Protected.{Protected, Opens, HoldsEntries, of_passphrase, identity_under, own_refusal}

-- where it is a refusal, that carries no text
abbrev NoText : {A : Type 0} → Result A DecryptRefusal → Type 0
NoText r = IfErr r (λ refusal. HasText refusal → ⊥)

-- the same of an answer
abbrev AnswersNoText : UnwrapAnswer → Type 0
AnswersNoText None = ⊤
AnswersNoText (Some r) = NoText r

key_no_text : (b : Bool) (found : Option (List ℕ)) (factor target : ℕ) → NoText (if b then found_under found else Err (ExcessiveWork factor target))
key_no_text true None factor target = λ h. h
key_no_text true (Some key) factor target = tt
key_no_text false found factor target = λ h. h

own_no_text : (refusal : DecryptRefusal) → (HasText refusal → ⊥) → HasText (own_refusal refusal) → ⊥
own_no_text DecryptionFailed bare h = h
own_no_text (ExcessiveWork required target) bare h = h
own_no_text InvalidHeader bare h = h
own_no_text InvalidMac bare h = h
own_no_text (Io e) bare h = h
own_no_text KeyDecryptionFailed bare h = h
own_no_text NoMatchingKeys bare h = h
own_no_text (PluginResolve e) bare h = bare h
own_no_text UnknownFormat bare h = h
own_no_text OutOfMemory bare h = h

decided_no_text : (answer : UnwrapAnswer) → AnswersNoText answer → NoText (of_passphrase (decided answer))
decided_no_text None bare = λ h. h
decided_no_text (Some (Ok key)) bare = tt
decided_no_text (Some (Err refusal)) bare = own_no_text refusal bare

io_no_text : (e : Error) → HasText (decrypt_refusal (decrypt_of_io e)) → ⊥
io_no_text io.OutOfMemory h = h
io_no_text e h = h

module _ {S R : Type 0} (suite : SuiteMembers S) {read : ReadMembers R} (stream_read : ReadMembers (StreamReader S R suite read)) where
  stanza_no_text : (identity : PassphraseIdentity) (s : StanzaValue) (answer : UnwrapAnswer)
      → UnwrapsUnder suite.opened suite.stretch_of suite.accepts identity s answer → AnswersNoText answer
  stanza_no_text identity s answer (inl (other, is)) = rw is tt
  stanza_no_text identity s answer (inr (tag, inl (lacks, is))) = rw is (λ h. h)
  stanza_no_text identity s answer (inr (tag, inr (inl (with_, has, is)))) =
      rw is
      (key_no_text (nat_le with_.factor identity.most && suite.accepts with_.factor)
      (suite.opened (suite.stretch_of identity.passphrase (stretch_salt with_.salt) with_.factor) no_nonce s.body) with_.factor identity.target)
  stanza_no_text identity s answer (inr (tag, inr (inr is))) = rw is (λ h. h)

  stanzas_no_text : (identity : PassphraseIdentity) (stanzas : List StanzaValue) (answer : UnwrapAnswer) (after : PassphraseIdentity)
      → UnwrapsPassphrase suite identity stanzas answer after → AnswersNoText answer
  stanzas_no_text identity [] answer after (is, same) = rw is tt
  stanzas_no_text identity (s ∷ more) answer after (None, between, asked, next) = stanzas_no_text between more answer after next
  stanzas_no_text identity (s ∷ more) answer after (Some a, between, (asked, same), (is, last)) = rw is (stanza_no_text identity s (Some a) asked)

  decrypts_no_text : (key : Result (List ℕ) DecryptRefusal) → NoText key → (h : HeaderValue) (nonce : List ℕ) (input : R) (e : DecryptError)
      → AnswersReader {suite = suite} {read = read} key h nonce input (Err e) → HasText (decrypt_refusal e) → ⊥
  decrypts_no_text (Err refusal) bare h nonce input e is = rw is bare
  decrypts_no_text (Ok key) bare h nonce input e (inl (wrong, is)) = rw is (λ t. t)
  decrypts_no_text (Ok key) bare h nonce input e (inr (right, is)) = rw is (λ t. t)

  entries_no_text : (key : Result (List ℕ) DecryptRefusal) → NoText key → (h : HeaderValue) (nonce : List ℕ) (input : R)
      → (stream : Result (StreamReader S R suite read) DecryptError) → AnswersReader {suite = suite} {read = read} key h nonce input stream
      → (entries : Result (List Entry) DecryptRefusal) → HoldsEntries suite stream_read stream entries → NoText entries
  entries_no_text key bare h nonce input (Err e) decrypts entries is = rw is (decrypts_no_text key bare h nonce input e decrypts)
  entries_no_text key bare h nonce input (Ok stream) decrypts entries (Ok own, reads, is) = rw is tt
  entries_no_text key bare h nonce input (Ok stream) decrypts entries (Err e, reads, is) = rw is (io_no_text e)

  -- whatever opening comes to
  pub opens_no_text : {C : Type 0} (gives : C → List ℕ → Option (List ℕ) → C → Type 0) (filename : Option (List ℕ)) (file : Protected R C)
      (outcome : Result (List Entry) DecryptRefusal) (after : C) → Opens suite stream_read gives filename file outcome after
      → IfErr outcome (λ refusal. HasText refusal → ⊥)
  opens_no_text gives filename file outcome after (inl (memory, same)) = rw memory (λ h. h)
  opens_no_text gives filename file outcome after (inr (None, given, is)) = rw is (λ h. h)
  opens_no_text gives filename file outcome after (inr (Some passphrase, given, under)) =
      entries_no_text (of_passphrase (decided under.answer))
      (decided_no_text under.answer (stanzas_no_text (identity_under file passphrase) file.header.stanzas under.answer
      (identity_under file passphrase) under.asked))
      file.header file.nonce file.input under.stream under.decrypts outcome under.entries
