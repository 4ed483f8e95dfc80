-- A cursor over a list: where its seeks lead, and what a seek does to the meaning of a reader.
use Rattle.std.specs.Prelude.{◌≡◌, ◌≢◌, ℕ, ◌+◌, ◌-◌, ◌≤◌, ◌<◌, ℤ, pos, negsuc, Bool, IsTrue, length, nat_lt, nat_le, if◌then◌else◌, ◌⊎◌, Option, Some, None, Result, Ok, Err, IfOk, IfErr, OnOk, OnErr, ⊤}
use Rattle.age_io.specs.Stretch.{Stretch, from_place}
use Rattle.age_io.specs.Reading.{IsQuiet, AddsNoReason, most_faults}
use Rattle.age_error.specs.Refusals.{IsDevice, IsInterruption}
use Rattle.age_error.specs.declared.io.Error.{Error}
use Rattle.age_error.specs.declared.io.Error.TheVariants.{OutOfMemory, BeforeStart, PastEnd, TooLong, Failed}
use Rattle.age_error.specs.declared.io.SeekFrom.{SeekFrom}
use Rattle.age_error.specs.declared.io.SeekFrom.TheVariants.{Start, End, Current}

-- the place at this distance from another, if it isn't below 0
abbrev pub place_at : ℕ → ℤ → Option ℕ
place_at base (pos k) = Some (base + k)
place_at base (negsuc k) = if nat_lt k base then Some (base - (k + 1)) else None

-- the target of a seek, from the place and the length
abbrev pub target : SeekFrom → ℕ → ℕ → Option ℕ
target (Start n) place len = Some n
target (End d) place len = place_at len d
target (Current d) place len = place_at place d

-- a target from 0 to the length is moved to, any other is refused
abbrev pub moved_to : Option ℕ → ℕ → Result ℕ Error
moved_to None len = Err BeforeStart
moved_to (Some n) len = if nat_le n len then Ok n else Err PastEnd

-- what a seek answers
abbrev pub sought : SeekFrom → ℕ → ℕ → Result ℕ Error
sought to place len = moved_to (target to place len) len

-- a seek from this place may lead to that one: only a seek from the end asks for the length
abbrev pub MayLead : SeekFrom → ℕ → ℕ → Type 0
MayLead (Start n) place new = new ≡ n
MayLead (End d) place new = ⊤
MayLead (Current d) place new = place_at place d ≡ Some new

-- an error that says that the target is outside the content
abbrev pub IsOutside : Error → Type 0
IsOutside BeforeStart = Unit {0}
IsOutside PastEnd = Unit {0}
IsOutside _ = ⊥

-- What only a seek refuses with: its target is outside the content, or what seeks of this reader have of their own.
abbrev pub IsSeekRefusal : (Error → Type 0) → Error → Type 0
IsSeekRefusal seek_refuses e = IsOutside e ⊎ seek_refuses e

-- none of these errors says that the device failed
abbrev pub NoDevice : (Error → Type 0) → Type 0
NoDevice refuses = (e : Error) → refuses e → IsDevice e → ⊥

-- the content or the place is past what a place may be, or as a reader below
abbrev pub OrTooLong : (Error → Type 0) → Error → Type 0
OrTooLong below e = (e ≡ TooLong) ⊎ below e

-- what was read before is outside of what a reader below has now, or as that one
abbrev pub OrFailed : (Error → Type 0) → Error → Type 0
OrFailed below e = (e ≡ Failed) ⊎ below e

-- What a seek does: a target from 0 to the length is moved to, any other is refused and moves nothing.
pub record Seeks {S : Type 0} (tells steady : S → Bool) (content : S → Stretch) (place : S → ℕ) (rest : S → Stretch) (faults : S → ℕ)
    (refuses : S → Error → Type 0)
    (seek_refuses : Error → Type 0) (old new : S) (to : SeekFrom) (result : Result ℕ Error) : Type 0 where
  -- of every reader
  pub same_tells : tells new ≡ tells old
  pub same_steady : steady new ≡ steady old
  pub no_fewer_faults : faults old ≤ faults new
  pub device : IfErr result (λ e. IsDevice e → faults old < faults new)
  pub unspent : OnOk result (faults new < most_faults)
  pub why : IfErr result (λ e. IsSeekRefusal seek_refuses e ⊎ refuses old e)
  pub narrows : OnOk result (AddsNoReason refuses old new)
  pub again : IfErr result (λ e. IsInterruption e → AddsNoReason refuses old new)
  pub missed : IfErr result (λ e. IsOutside e → AddsNoReason refuses old new)
  -- of a reader that tells its bytes
  pub same_content : IsTrue (tells old) → content new ≡ content old
  pub arrives : IsTrue (tells old) → IfOk result (λ n. place new ≡ n)
  pub leads : IsTrue (tells old) → IfOk result (λ n. MayLead to (place old) n)
  pub stays : IsTrue (tells old) → OnErr result (place new ≡ place old)
  pub interrupted : IsTrue (tells old) → IfErr result (λ e. IsInterruption e → rest new ≡ rest old)
  -- of a steady one
  pub moves : IsTrue (tells old) → IsTrue (steady old) →
      IfOk result (λ n. (sought to (place old) (length (content old).bytes) ≡ Ok n) × (rest new ≡ from_place n (content old)))
  pub kept : IsTrue (tells old) → IsTrue (steady old) → rest old ≡ from_place (place old) (content old) →
      IfErr result (λ e. IsOutside e → rest new ≡ rest old)
  -- on a content that ends well
  pub refused : IsTrue (tells old) → IsTrue (content old).ends_well →
      IfErr result (λ e. IsOutside e → sought to (place old) (length (content old).bytes) ≡ Err e)
  pub cause : IsTrue (tells old) → IsTrue (content old).ends_well →
      IfErr result (λ e. e ≢ OutOfMemory → IsQuiet (faults old) (faults new) → IsOutside e)
