-- What a call on a writer does to its meaning, and why it refuses.
use Rattle.std.specs.Prelude.{◌≡◌, ℕ, ◌+◌, ◌≤◌, ◌<◌, ◌⊎◌, Bool, IsTrue, List, [], length, take, Result, IfOk, IfErr, OnOk, OnErr}
use Rattle.age_io.specs.Reading.{TriedAgain, most_faults}
use Rattle.age_error.specs.Refusals.{IsDevice, IsInterruption}
use Rattle.age_error.specs.declared.io.Error.{Error}
use Rattle.age_error.specs.declared.io.Error.TheVariants.{OutOfMemory, WriteZero}

-- What the new state may refuse while it is given some bytes more, the old one may while it is given those after these.
abbrev pub Narrows : {S : Type 0} → (S → ℕ → Error → Type 0) → S → ℕ → S → Type 0
Narrows refuses old between new = (more : ℕ) (e : Error) → refuses new more e → refuses old (between + more) e

-- the same after at most this many bytes
abbrev pub NarrowsSome : {S : Type 0} → (S → ℕ → Error → Type 0) → S → ℕ → S → Type 0
NarrowsSome refuses old most new = (n : ℕ) × (n ≤ most) × Narrows refuses old n new

-- why a writer refuses whose interruptions are tried again
abbrev pub Retried : {S : Type 0} → (S → ℕ → Error → Type 0) → S → ℕ → Error → Type 0
Retried refuses writer n = TriedAgain (λ w. refuses w n) writer

-- as it does, or for want of memory
abbrev pub OrMemory : {S : Type 0} → (S → ℕ → Error → Type 0) → S → ℕ → Error → Type 0
OrMemory refuses writer n e = (e ≡ OutOfMemory) ⊎ refuses writer n e

-- as it does, tried again, however many bytes it is given
abbrev pub HandsOn : {S : Type 0} → (S → ℕ → Error → Type 0) → S → Error → Type 0
HandsOn refuses writer e = (n : ℕ) × Retried refuses writer n e

-- What a write does: at `Ok(n)` the first n bytes are appended. A refusal appended some first bytes, however many, or none; an interruption,
-- which can be tried again, none.
pub record Writes {S : Type 0} (tells : S → Bool) (faults : S → ℕ) (refuses : S → ℕ → Error → Type 0) (appended : S → List ℕ → S → Type 0)
    (old new : S) (bytes : List ℕ) (result : Result ℕ Error) : Type 0 where
  -- of every writer
  pub count : IfOk result (λ n. n ≤ length bytes)
  pub same_tells : tells new ≡ tells old
  pub no_fewer_faults : faults old ≤ faults new
  pub device : IfErr result (λ e. IsDevice e → faults old < faults new)
  pub why : IfErr result (refuses old (length bytes))
  -- taking none of some bytes is the refusal `WriteZero`
  pub takes_none : IfOk result (λ n. n ≡ 0 → 0 < length bytes → refuses old (length bytes) WriteZero)
  pub narrows : IfOk result (λ n. Narrows refuses old n new)
  pub interrupted : IfErr result (λ e. IsInterruption e → Narrows refuses old 0 new)
  -- of a writer that tells its bytes
  pub takes_front : IsTrue (tells old) → IfOk result (λ n. appended old (take n bytes) new)
  pub takes_part : IsTrue (tells old) → OnErr result ((n : ℕ) × (n ≤ length bytes) × appended old (take n bytes) new)
  pub takes_nothing : IsTrue (tells old) → IfErr result (λ e. IsInterruption e → appended old [] new)

-- What a flush does: it appends nothing.
pub record Flushes {S T : Type 0} (tells : S → Bool) (faults : S → ℕ) (refuses : S → ℕ → Error → Type 0) (appended : S → List ℕ → S → Type 0)
    (old new : S) (result : Result T Error) : Type 0 where
  -- of every writer
  pub same_tells : tells new ≡ tells old
  pub no_fewer_faults : faults old ≤ faults new
  pub device : IfErr result (λ e. IsDevice e → faults old < faults new)
  pub unspent : OnOk result (faults new < most_faults)
  pub why : IfErr result (refuses old 0)
  pub narrows : OnOk result (Narrows refuses old 0 new)
  pub interrupted : IfErr result (λ e. IsInterruption e → Narrows refuses old 0 new)
  -- of a writer that tells its bytes
  pub nothing : IsTrue (tells old) → appended old [] new

-- What a write of all bytes does: a refusal leaves a beginning of them appended.
pub record WritesAll {S T : Type 0} (tells : S → Bool) (faults : S → ℕ) (refuses : S → ℕ → Error → Type 0) (appended : S → List ℕ → S → Type 0)
    (old new : S) (bytes : List ℕ) (result : Result T Error) : Type 0 where
  -- of every writer
  pub same_tells : tells new ≡ tells old
  pub no_fewer_faults : faults old ≤ faults new
  pub device : IfErr result (λ e. IsDevice e → faults old < faults new)
  pub why : IfErr result (refuses old (length bytes))
  pub narrows : OnOk result (Narrows refuses old (length bytes) new)
  -- of a writer that tells its bytes
  pub takes_all : IsTrue (tells old) → OnOk result (appended old bytes new)
  pub takes_front : IsTrue (tells old) → OnErr result ((n : ℕ) × (n ≤ length bytes) × appended old (take n bytes) new)

-- What stays of a writer over a step, whatever bytes it is given; a refusal is one that it might make before the step.
pub record KeepsWriter {S T : Type 0} (tells : S → Bool) (faults : S → ℕ) (may : S → Error → Type 0) (old new : S)
    (result : Result T Error) : Type 0 where
  pub same_tells : tells new ≡ tells old
  pub no_fewer_faults : faults old ≤ faults new
  pub device : IfErr result (λ e. IsDevice e → faults old < faults new)
  pub why : IfErr result (may old)
  pub narrows : OnOk result ((e : Error) → may new e → may old e)
