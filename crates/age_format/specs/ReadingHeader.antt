-- What reading a header does to a reader that tells its bytes. `legacy` says whether the legacy form of a stanza is read too.
use Rattle.std.specs.Prelude.{◌≡◌, ◌≢◌, ℕ, ◌+◌, ◌<◌, Bool, List, ◌∷◌, ◌++◌, length, IsTrue, Result, IfOk, OnOk, IfErr}
use Rattle.age_error.specs.declared.io.Error.{Error}
use Rattle.age_error.specs.declared.io.Error.TheVariants as io
use Rattle.age_error.specs.declared.decrypt.DecryptError.{DecryptError}
use Rattle.age_error.specs.DecryptErrors.{DecryptRefusal, InvalidHeader, UnknownFormat, Io, OutOfMemory, decrypt_refusal, IfIoRefusal, IsDeviceRefusal, IsInterruptedRefusal}
use Rattle.age_io.specs.declared.traits.Read.{Ghosts}
use Rattle.age_io.specs.Keeping.{SameReader, OrEarly}
use Rattle.age_io.specs.Stretch.{Stretch}
use Rattle.age_io.specs.Reading.{Delivers, StaysOrFails, IsQuiet, AddsNoReason, TriedAgain, most_faults}
use Rattle.age_v1.specs.HeaderTexts.{canonical}
use Rattle.age_v1.specs.Header.{header_text}
use Rattle.age_v1.specs.HeaderVerdict.{Verdict, Header, UnknownVersion, Bad, FrontDecides, IsUndecided, IsVerdict}
use Rattle.age_format.specs.HeaderV1.{HeaderValue}

-- The shortest front of the rest that decides was taken, and no byte more.
pub record TookVerdict (legacy : Bool) (old new : Stretch) (old_place new_place : ℕ) (front : List ℕ) (v : Verdict) : Type 0 where
  pub delivered : Delivers front old new
  pub moved : new_place ≡ old_place + length front
  pub verdict : IsVerdict legacy old.bytes front v

-- The text of the header, the one that it is written by, was taken from the front of the rest.
abbrev pub ReadsHeader : HeaderValue → Stretch → Stretch → ℕ → ℕ → Type 0
ReadsHeader h old new old_place new_place =
    TookVerdict canonical old new old_place new_place (header_text h.stanzas h.mac) (Header h.stanzas h.mac)

-- A front of the rest was taken. The reader stands after it, or has failed there.
pub record TookFront (old new : Stretch) (old_place new_place : ℕ) (front : List ℕ) : Type 0 where
  pub middle : Stretch
  pub delivered : Delivers front old middle
  pub left : StaysOrFails middle new
  pub moved : new_place ≡ old_place + length front

-- The reader refused, or ended, after a front that decides nothing. Without a fault that front is all that it had.
pub record HeaderBreaksOff (legacy : Bool) (old_faults new_faults : ℕ) (old new : Stretch) (old_place new_place : ℕ) (e : Error) : Type 0 where
  pub front : List ℕ
  pub took : TookFront old new old_place new_place front
  pub undecided : IsUndecided legacy front
  pub other : e ≢ io.OutOfMemory
  pub all : IsQuiet old_faults new_faults → front ≡ old.bytes
  pub early : IsQuiet old_faults new_faults → IsTrue old.ends_well → e ≡ io.UnexpectedEof

-- Memory was refused after a front of which no shorter one decides.
pub record RunsOut (legacy : Bool) (old new : Stretch) (old_place new_place : ℕ) : Type 0 where
  pub front : List ℕ
  pub took : TookFront old new old_place new_place front
  pub shortest : (shorter : List ℕ) (b : ℕ) (more : List ℕ) (v : Verdict) → front ≡ shorter ++ b ∷ more → FrontDecides legacy shorter v → ⊥

-- Why no header was read, and what was taken.
abbrev pub RefusesHeader : Bool → ℕ → ℕ → Stretch → Stretch → ℕ → ℕ → DecryptRefusal → Type 0
RefusesHeader legacy old_faults new_faults old new old_place new_place InvalidHeader =
    (front : List ℕ) × TookVerdict legacy old new old_place new_place front Bad
RefusesHeader legacy old_faults new_faults old new old_place new_place UnknownFormat =
    (front : List ℕ) × TookVerdict legacy old new old_place new_place front UnknownVersion
RefusesHeader legacy old_faults new_faults old new old_place new_place (Io e) =
    HeaderBreaksOff legacy old_faults new_faults old new old_place new_place e
RefusesHeader legacy old_faults new_faults old new old_place new_place OutOfMemory = RunsOut legacy old new old_place new_place
RefusesHeader legacy old_faults new_faults old new old_place new_place _ = ⊥

-- What reading a header answers, where a success says this of the rest and the place before and after it.
pub record ReadsOrRefuses {R T : Type 0} (read : Ghosts R) (legacy : Bool) (Says : T → Stretch → Stretch → ℕ → ℕ → Type 0)
    (old new : R) (result : Result T DecryptError) : Type 0 where
  -- of every reader: it is the same, wherever it stands now; a refusal says that the device failed only where it did, is no interruption,
  -- and is the reader's own or an early end
  pub keeps : SameReader read old new
  pub device : IfErr result (λ e. IsDeviceRefusal (decrypt_refusal e) → read.faults old < read.faults new)
  pub patient : IfErr result (λ e. IsInterruptedRefusal (decrypt_refusal e) → ⊥)
  pub io : IfErr result (λ e. IfIoRefusal (OrEarly read old) (decrypt_refusal e))
  -- after a success it has no new reason to refuse, and its count of faults isn't used up
  pub unspent : OnOk result (read.faults new < most_faults)
  pub narrows : OnOk result (AddsNoReason (TriedAgain read.refuses) old new)
  -- of a reader that tells its bytes
  pub header : IsTrue (read.tells old) → IfOk result (λ h. Says h (read.rest old) (read.rest new) (read.place old) (read.place new))
  pub refused : IsTrue (read.tells old) → IfErr result (λ e.
      RefusesHeader legacy (read.faults old) (read.faults new) (read.rest old) (read.rest new) (read.place old) (read.place new) (decrypt_refusal e))
