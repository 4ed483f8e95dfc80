-- What `fill_buf` and `consume` do to the meaning of a reader that shows what it holds.
use Rattle.std.specs.Prelude.{◌≡◌, ◌≢◌, ℕ, ◌+◌, ◌≤◌, ◌<◌, Bool, IsTrue, List, ◌++◌, take, drop, Result, IfOk, IfErr, OnOk, OnErr}
use Rattle.age_io.specs.Stretch.{Stretch, IsFault}
use Rattle.age_io.specs.Reading.{IsQuiet, Delivers, StaysOrFails, AddsNoReason, most_faults}
use Rattle.age_error.specs.Refusals.{IsDevice, IsInterruption}
use Rattle.age_error.specs.declared.io.Error.{Error}
use Rattle.age_error.specs.declared.io.Error.TheVariants.{OutOfMemory}
use denote.Ref.{Bor}

-- the rest begins with these bytes
pub record IsFront (front : List ℕ) (rest : Stretch) : Type 0 where
  pub more : List ℕ
  pub bytes : rest.bytes ≡ front ++ more

-- What `fill_buf` does, once what it showed is let go: the reader stays where it stands, and `consume` may take what
-- was shown. `besides` is what the reader says of itself.
pub record Fills {S : Type 0} (tells steady : S → Bool) (content : S → Stretch) (place : S → ℕ) (rest : S → Stretch) (faults : S → ℕ)
    (refuses : S → Error → Type 0)
    (shown : S → List ℕ) (besides : S → S → Result (Bor (List ℕ)) Error → Type 0)
    (old new : S) (result : Result (Bor (List ℕ)) Error) : Type 0 where
  -- of every reader
  pub same_tells : tells new ≡ tells old
  pub same_steady : steady new ≡ steady old
  pub no_fewer_faults : faults old ≤ faults new
  pub device : IfErr result (λ e. IsDevice e → faults old < faults new)
  pub unspent : OnOk result (faults new < most_faults)
  pub why : IfErr result (refuses old)
  pub narrows : OnOk result (AddsNoReason refuses old new)
  pub again : IfErr result (λ e. IsInterruption e → AddsNoReason refuses old new)
  pub shows : IfOk result (λ front. shown new ≡ front.now)
  pub own : besides old new result
  -- of a reader that tells its bytes
  pub same_content : IsTrue (tells old) → content new ≡ content old
  pub stays : IsTrue (tells old) → place new ≡ place old
  pub same_rest : IsTrue (tells old) → OnOk result (rest new ≡ rest old)
  pub left : IsTrue (tells old) → OnErr result (StaysOrFails (rest old) (rest new))
  pub interrupted : IsTrue (tells old) → IfErr result (λ e. IsInterruption e → rest new ≡ rest old)
  pub cause : IsTrue (tells old) → IfErr result (λ e. e ≢ OutOfMemory → IsQuiet (faults old) (faults new) → IsFault (rest old))

-- What `consume` does: the first `amount` bytes of what was shown are delivered.
pub record Consumes {S : Type 0} (tells steady : S → Bool) (content : S → Stretch) (place : S → ℕ) (rest : S → Stretch) (faults : S → ℕ)
    (refuses : S → Error → Type 0)
    (shown : S → List ℕ) (old new : S) (amount : ℕ) : Type 0 where
  -- of every reader
  pub same_tells : tells new ≡ tells old
  pub same_steady : steady new ≡ steady old
  pub same_faults : faults new ≡ faults old
  pub narrows : AddsNoReason refuses old new
  pub shows : shown new ≡ drop amount (shown old)
  -- of a reader that tells its bytes
  pub same_content : IsTrue (tells old) → content new ≡ content old
  pub bytes : IsTrue (tells old) → Delivers (take amount (shown old)) (rest old) (rest new)
  pub moves : IsTrue (tells old) → place new ≡ place old + amount
