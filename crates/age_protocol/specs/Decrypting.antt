-- What a decryptor reads before the payload, and why it refuses. `legacy` says whether the legacy form of a stanza is read too.
use Rattle.std.specs.Prelude.{◌≡◌, ◌≢◌, ◌⊎◌, ℕ, ◌<◌, Bool, List, ◌+◌, ◌++◌, length, IsTrue, Result, IfOk, OnOk, IfErr}
use Rattle.age_error.specs.Bytes.{AreBytesOf}
use Rattle.age_error.specs.DecryptErrors.{DecryptRefusal, InvalidHeader, decrypt_refusal, decrypt_of_io, IfIoRefusal, IsDeviceRefusal, IsInterruptedRefusal}
use Rattle.age_error.specs.declared.decrypt.DecryptError.{DecryptError}
use Rattle.age_error.specs.declared.io.Error.{Error}
use Rattle.age_error.specs.declared.io.Error.TheVariants as io
use Rattle.age_io.specs.declared.traits.Read.{Ghosts}
use Rattle.age_io.specs.Stretch.{Stretch}
use Rattle.age_io.specs.Keeping.{SameReader, OrEarly}
use Rattle.age_io.specs.Reading.{Delivers, TookSome, IsQuiet, IsShort, AddsNoReason, TriedAgain, most_faults}
use Rattle.age_v1.specs.HeaderTexts.{canonical}
use Rattle.age_v1.specs.Stanza.{StanzaValue}
use Rattle.age_v1.specs.Header.{KeepsScryptRule, header_text}
use Rattle.age_v1.specs.HeaderVerdict.{Header, IsVerdict}
use Rattle.age_format.specs.HeaderV1.{HeaderValue}
use Rattle.age_format.specs.ReadingHeader.{TookVerdict, RefusesHeader}

-- A header of this text and 16 bytes were taken from the front of the rest, and no byte more.
pub record TookHeaderAndNonce (legacy : Bool) (old new : Stretch) (old_place new_place : ℕ) (text : List ℕ) (stanzas : List StanzaValue)
    (mac nonce : List ℕ) : Type 0 where
  pub verdict : IsVerdict legacy old.bytes text (Header stanzas mac)
  pub sixteen : AreBytesOf 16 nonce
  pub delivered : Delivers (text ++ nonce) old new
  pub moved : new_place ≡ old_place + length (text ++ nonce)

-- The header's text and 16 bytes were, and where a stanza is one of a passphrase it is the only one.
pub record ReadsFront (old new : Stretch) (old_place new_place : ℕ) (h : HeaderValue) (nonce : List ℕ) : Type 0 where
  pub took : TookHeaderAndNonce canonical old new old_place new_place (header_text h.stanzas h.mac) h.stanzas h.mac nonce
  pub rule : KeepsScryptRule h.stanzas

-- The 16 bytes of a nonce didn't follow. Without a fault fewer bytes were left, and where these end well the refusal says so.
pub record LacksNonceAfter (old_faults new_faults : ℕ) (old new : Stretch) (old_place new_place : ℕ) (e : DecryptRefusal) : Type 0 where
  pub some : TookSome 16 old_place new_place old new
  pub error : Error
  pub is : e ≡ decrypt_refusal (decrypt_of_io error)
  pub short : error ≢ io.OutOfMemory → IsQuiet old_faults new_faults → IsShort 16 old error

-- A nonce followed these stanzas, and one of a passphrase stands beside others.
pub record BreaksRuleAfter (stanzas : List StanzaValue) (old new : Stretch) (old_place new_place : ℕ) (e : DecryptRefusal) : Type 0 where
  pub nonce : List ℕ
  pub sixteen : AreBytesOf 16 nonce
  pub delivered : Delivers nonce old new
  pub moved : new_place ≡ old_place + length nonce
  pub broken : KeepsScryptRule stanzas → ⊥
  pub is : e ≡ InvalidHeader

-- A header was read, and this is why it isn't the front of a file.
pub record BreaksFrontRules (legacy : Bool) (old_faults new_faults : ℕ) (old new : Stretch) (old_place new_place : ℕ)
    (e : DecryptRefusal) : Type 0 where
  pub text : List ℕ
  pub stanzas : List StanzaValue
  pub mac : List ℕ
  pub after : Stretch
  pub after_place : ℕ
  pub header : TookVerdict legacy old after old_place after_place text (Header stanzas mac)
  pub why : LacksNonceAfter old_faults new_faults after new after_place new_place e ⊎ BreaksRuleAfter stanzas after new after_place new_place e

-- Why no header and no nonce were read, in the order in which the causes are looked for.
abbrev pub WhyNoFront : Bool → ℕ → ℕ → Stretch → Stretch → ℕ → ℕ → DecryptRefusal → Type 0
WhyNoFront legacy old_faults new_faults old new old_place new_place e = RefusesHeader legacy old_faults new_faults old new old_place new_place e
    ⊎ BreaksFrontRules legacy old_faults new_faults old new old_place new_place e

-- Why there is no decryptor, and the reader when it was given up.
pub record RefusesFront {R : Type 0} (legacy : Bool) (read : Ghosts R) (old new : R) (e : DecryptRefusal) : Type 0 where
  pub same : SameReader read old new
  pub device : IsDeviceRefusal e → read.faults old < read.faults new
  pub io : IfIoRefusal (OrEarly read old) e
  -- of a reader that tells its bytes
  pub why : IsTrue (read.tells old) → WhyNoFront legacy (read.faults old) (read.faults new) (read.rest old) (read.rest new) (read.place old)
      (read.place new) e

-- What reading a nonce after a header of these stanzas answers.
pub record ReadsNonce {R : Type 0} (read : Ghosts R) (stanzas : List StanzaValue) (old new : R) (result : Result (List ℕ) DecryptError) : Type 0 where
  pub keeps : SameReader read old new
  pub device : IfErr result (λ e. IsDeviceRefusal (decrypt_refusal e) → read.faults old < read.faults new)
  pub patient : IfErr result (λ e. IsInterruptedRefusal (decrypt_refusal e) → ⊥)
  pub io : IfErr result (λ e. IfIoRefusal (OrEarly read old) (decrypt_refusal e))
  pub unspent : OnOk result (read.faults new < most_faults)
  pub narrows : OnOk result (AddsNoReason (TriedAgain read.refuses) old new)
  pub sixteen : IfOk result (λ nonce. AreBytesOf 16 nonce)
  pub rule : OnOk result (KeepsScryptRule stanzas)
  -- of a reader that tells its bytes
  pub nonce : IsTrue (read.tells old) → IfOk result (λ nonce.
      Delivers nonce (read.rest old) (read.rest new) × (read.place new ≡ read.place old + length nonce))
  pub refused : IsTrue (read.tells old) → IfErr result (λ e.
      LacksNonceAfter (read.faults old) (read.faults new) (read.rest old) (read.rest new) (read.place old) (read.place new) (decrypt_refusal e)
      ⊎ BreaksRuleAfter stanzas (read.rest old) (read.rest new) (read.place old) (read.place new) (decrypt_refusal e))
