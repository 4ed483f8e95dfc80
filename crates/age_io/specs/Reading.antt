-- What a call on a reader does to its meaning.
use Rattle.std.specs.Prelude.{◌≡◌, ◌≢◌, ℕ, zero, suc, ◌+◌, ◌-◌, ◌^◌, ◌≤◌, ◌<◌, Bool, false, IsTrue, List, [], ◌++◌, length, take, ◌⊎◌, Result, Ok, IfOk, IfErr, OnOk, OnErr}
use Rattle.age_io.specs.Stretch.{Stretch, nothing, from_place, IsCleanEnd, IsFault}
use Rattle.age_error.specs.Refusals.{IsDevice, IsInterruption}
use Rattle.age_error.specs.declared.io.Error.{Error}
use Rattle.age_error.specs.declared.io.Error.TheVariants.{Device, UnexpectedEof, OutOfMemory}
use Rattle.age_error.specs.declared.io.ErrorKind.TheVariants.{Interrupted, Other}

-- the largest count of faults: it is used up, and its device is asked no more
abbrev pub most_faults : ℕ
most_faults = 2 ^ 64 - 1

-- no fault came in between, and the count isn't used up
pub record IsQuiet (before after : ℕ) : Type 0 where
  pub same : after ≡ before
  pub below : after < most_faults

-- these bytes were the beginning of the rest
pub record Delivers (front : List ℕ) (old new : Stretch) : Type 0 where
  pub bytes : old.bytes ≡ front ++ new.bytes
  pub end : new.ends_well ≡ old.ends_well

-- the rest stays, or the reader has failed
abbrev pub StaysOrFails : Stretch → Stretch → Type 0
StaysOrFails old new = (new ≡ old) ⊎ (new ≡ nothing)

-- the place is in the content, and the rest is what stands from there on, or nothing of a failed reader
pub record StandsIn (content : Stretch) (place : ℕ) (rest : Stretch) : Type 0 where
  pub within : place ≤ length content.bytes
  pub reaches : (rest ≡ from_place place content) ⊎ (rest ≡ nothing)

-- What the new state may refuse with, the old one may.
abbrev pub AddsNoReason : {S : Type 0} → (S → Error → Type 0) → S → S → Type 0
AddsNoReason refuses old new = (e : Error) → refuses new e → refuses old e

-- Why it refuses whose interruptions are tried again: as it does, but that the last of too many of them is `Device(Other)`.
abbrev pub TriedAgain : {S : Type 0} → (S → Error → Type 0) → S → Error → Type 0
TriedAgain refuses s e = ((IsInterruption e → ⊥) × refuses s e) ⊎ ((e ≡ Device Other) × refuses s (Device Interrupted))

-- What a read does: at `Ok(n)` the next n bytes stand in front of the buffer.
pub record Reads {S : Type 0} (tells steady : S → Bool) (content : S → Stretch) (place : S → ℕ) (rest : S → Stretch) (faults : S → ℕ)
    (refuses : S → Error → Type 0)
    (old new : S) (buf : List ℕ) (result : Result ℕ Error) : Type 0 where
  -- of every reader
  pub count : IfOk result (λ n. n ≤ length buf)
  pub same_tells : tells new ≡ tells old
  pub same_steady : steady new ≡ steady old
  pub no_fewer_faults : faults old ≤ faults new
  pub device : IfErr result (λ e. IsDevice e → faults old < faults new)
  pub unspent : IfOk result (λ _. 0 < length buf → faults new < most_faults)
  pub why : IfErr result (refuses old)
  pub narrows : OnOk result (AddsNoReason refuses old new)
  pub again : IfErr result (λ e. IsInterruption e → AddsNoReason refuses old new)
  -- of a reader that tells its bytes
  pub same_content : IsTrue (tells old) → content new ≡ content old
  pub bytes : IsTrue (tells old) → IfOk result (λ n. Delivers (take n buf) (rest old) (rest new))
  pub moves : IsTrue (tells old) → IfOk result (λ n. place new ≡ place old + n)
  pub end : IsTrue (tells old) → IfOk result (λ n. n ≡ 0 → 0 < length buf → IsCleanEnd (rest old))
  pub stays : IsTrue (tells old) → OnErr result (place new ≡ place old)
  pub left : IsTrue (tells old) → OnErr result (StaysOrFails (rest old) (rest new))
  pub interrupted : IsTrue (tells old) → IfErr result (λ e. IsInterruption e → rest new ≡ rest old)
  pub cause : IsTrue (tells old) → IfErr result (λ e. e ≢ OutOfMemory → IsQuiet (faults old) (faults new) → IsFault (rest old))

-- A read answered some bytes, which were put after those before, and said of itself what it promises besides.
pub record ReadsOn {S : Type 0} (tells steady : S → Bool) (content : S → Stretch) (place : S → ℕ) (rest : S → Stretch) (faults : S → ℕ)
    (refuses : S → Error → Type 0)
    (besides : S → S → List ℕ → List ℕ → Result ℕ Error → Type 0) (old new : S) (before after : List ℕ) : Type 0 where
  pub room : List ℕ
  pub buf : List ℕ
  pub count : ℕ
  pub reads : Reads tells steady content place rest faults refuses old new buf (Ok count)
  pub own : besides old new room buf (Ok count)
  pub grown : after ≡ before ++ take count buf

-- So many reads in turn, of which none was refused, gave these bytes in all.
abbrev pub ReadsInTurn : {S : Type 0} → (S → Bool) → (S → Bool) → (S → Stretch) → (S → ℕ) → (S → Stretch) → (S → ℕ) → (S → Error → Type 0)
    → (S → S → List ℕ → List ℕ → Result ℕ Error → Type 0) → ℕ → S → S → List ℕ → Type 0
ReadsInTurn tells steady content place rest faults refuses besides zero old new got = (new ≡ old) × (got ≡ [])
ReadsInTurn {S} tells steady content place rest faults refuses besides (suc n) old new got = (between : S) × (before : List ℕ)
    × ReadsInTurn tells steady content place rest faults refuses besides n old between before
    × ReadsOn tells steady content place rest faults refuses besides between new before got

-- What several reads do that give these bytes in all.
pub record GivesInAll {S : Type 0} (tells steady : S → Bool) (content : S → Stretch) (place : S → ℕ) (rest : S → Stretch) (faults : S → ℕ)
    (refuses : S → Error → Type 0)
    (old new : S) (got : List ℕ) : Type 0 where
  -- of every reader
  pub same_tells : tells new ≡ tells old
  pub same_steady : steady new ≡ steady old
  pub no_fewer_faults : faults old ≤ faults new
  pub narrows : AddsNoReason refuses old new
  -- of a reader that tells its bytes
  pub same_content : IsTrue (tells old) → content new ≡ content old
  pub bytes : IsTrue (tells old) → Delivers got (rest old) (rest new)
  pub moves : IsTrue (tells old) → place new ≡ place old + length got

-- A reader gave these bytes, the beginning of the rest, and stands after them, or has failed there.
pub record Gave (front : List ℕ) (old new : Stretch) : Type 0 where
  pub middle : Stretch
  pub delivered : Delivers front old middle
  pub left : StaysOrFails middle new

-- A reader gave a beginning of the rest, of at most this many bytes, and stands after it, or has failed there.
pub record TookSome (most old_place new_place : ℕ) (old new : Stretch) : Type 0 where
  pub front : List ℕ
  pub fits : length front ≤ most
  pub moved : new_place ≡ old_place + length front
  pub middle : Stretch
  pub delivered : Delivers front old middle
  pub left : StaysOrFails middle new

-- the rest is too short for this many bytes, and where it ends well the error says so
pub record IsShort (wanted : ℕ) (rest : Stretch) (e : Error) : Type 0 where
  pub short : length rest.bytes < wanted
  pub early : IsTrue rest.ends_well → e ≡ UnexpectedEof

-- a fault stands before this many bytes came
pub record EndsEarly (wanted : ℕ) (rest : Stretch) : Type 0 where
  pub short : length rest.bytes < wanted
  pub badly : rest.ends_well ≡ false

-- A list has grown by what a reader delivered. What follows that is left, unless the reader has failed there.
pub record GrewByRead (old new : Stretch) (before after : List ℕ) : Type 0 where
  pub front : List ℕ
  pub grown : after ≡ before ++ front
  pub middle : Stretch
  pub delivered : Delivers front old middle
  pub left : StaysOrFails middle new
