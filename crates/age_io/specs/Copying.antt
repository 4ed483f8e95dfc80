-- What of a list was appended to a writer, and where the reader stands that it came from.
use Rattle.std.specs.Prelude.{◌≡◌, ℕ, ◌+◌, ◌<◌, ◌≤◌, ◌⊎◌, Bool, IsTrue, List, ◌++◌, length, take, Result, IfErr, OnErr, OnOk, ⊤}
use Rattle.age_error.specs.Refusals.{IsDevice}
use Rattle.age_error.specs.declared.io.Error.{Error}
use Rattle.age_error.specs.declared.io.Error.TheVariants.{OutOfMemory, TooLong}
use Rattle.age_io.specs.Writing.{HandsOn, Narrows, NarrowsSome, OrMemory, Retried}
use Rattle.age_io.specs.declared.traits.Read.{Ghosts}
use Rattle.age_io.specs.declared.traits.Write.{Ghosts as WriteGhosts}
use Rattle.age_io.specs.Keeping.{SameReader}
use Rattle.age_io.specs.Reading.{Gave, GivesInAll, IsQuiet, TriedAgain}

-- between two states of a writer a beginning of this list was appended
pub record AppendsFront {W : Type 0} (appended : W → List ℕ → W → Type 0) (whole : List ℕ) (old new : W) : Type 0 where
  pub front : List ℕ
  pub after : List ℕ
  pub joined : whole ≡ front ++ after
  pub out : appended old front new

-- between two states of a writer at most so many bytes were appended, of which this holds
pub record AppendsSome {W : Type 0} (appended : W → List ℕ → W → Type 0) (count : ℕ) (Holds : List ℕ → Type 0) (old new : W) : Type 0 where
  pub out : List ℕ
  pub most : length out ≤ count
  pub holds : Holds out
  pub done : appended old out new

-- A reader gave bytes of which this holds, and stands after them, or has failed there. A beginning of them was appended to a writer.
pub record CopiesFront {S : Type 0} (read : Ghosts S) {W : Type 0} (writer_tells : W → Bool) (appended : W → List ℕ → W → Type 0)
    (Holds : List ℕ → Type 0) (old new : S) (before after : W) : Type 0 where
  pub given : List ℕ
  pub holds : Holds given
  -- to a writer that tells its bytes
  pub appends : IsTrue (writer_tells before) → AppendsFront appended given before after
  -- of every reader
  pub same : SameReader read old new
  -- of a reader that tells its bytes
  pub gave : IsTrue (read.tells old) → Gave given (read.rest old) (read.rest new)
  pub moves : IsTrue (read.tells old) → read.place new ≡ read.place old + length given

-- Why copying refuses: for want of memory, or as the reader or the writer does.
abbrev pub CopyRefuses : (Error → Type 0) → (Error → Type 0) → Error → Type 0
CopyRefuses reads writes e = (e ≡ OutOfMemory) ⊎ reads e ⊎ writes e

-- A writer refuses that is given all of a list, whose interruptions are tried again. The list is known where `told`.
abbrev pub RefusesAll : {W : Type 0} → (W → ℕ → Error → Type 0) → W → Type 0 → ℕ → Error → Type 0
RefusesAll refuses writer told size e = HandsOn refuses writer e × (told → Retried refuses writer size e)

-- What a reader still had was appended to a writer, all of it, or a beginning of it where the copying was refused.
pub record CopiesAll {R W T : Type 0} (read : Ghosts R) (write : WriteGhosts W) (old new : R) (before after : W)
    (result : Result T Error) : Type 0 where
  -- what the writer was given
  pub tells : write.tells after ≡ write.tells before
  pub all : IsTrue (read.tells old) → IsTrue (write.tells before) → OnOk result
      (IsTrue (read.rest old).ends_well × write.appended before (read.rest old).bytes after)
  pub front : IsTrue (read.tells old) → IsTrue (write.tells before) → AppendsFront write.appended (read.rest old).bytes before after
  -- the writer after so many bytes, of which there are as many as the reader had where it tells them
  pub narrows : OnOk result ((n : ℕ) × (IsTrue (read.tells old) → n ≡ length (read.rest old).bytes) × Narrows (Retried write.refuses) before n after)
  pub no_fewer_faults : write.faults before ≤ write.faults after
  -- where the reader stands then
  pub stands : OnOk result (GivesInAll read.tells read.steady read.content read.place read.rest read.faults (TriedAgain read.refuses)
      old new (read.rest old).bytes)
  pub left : OnErr result (CopiesFront read write.tells write.appended (λ _. ⊤) old new before after)
  -- why it refuses, and where the reader has no fault
  pub device : IfErr result (λ e. IsDevice e → (read.faults old < read.faults new) ⊎ (write.faults before < write.faults after))
  pub why : IsTrue (read.tells old) → IsTrue (read.rest old).ends_well → IsQuiet (read.faults old) (read.faults new) →
      IfErr result (OrMemory (Retried write.refuses) before (length (read.rest old).bytes))
  pub named : IfErr result (λ e. CopyRefuses (TriedAgain read.refuses old)
      (RefusesAll write.refuses before (IsTrue (read.tells old)) (length (read.rest old).bytes)) e
      ⊎ ((e ≡ TooLong) × (IsTrue (read.tells old) → ⊥)))

-- So many bytes of what a reader still had were appended, or all of them where there are fewer; or a beginning of them where the copying was refused.
pub record CopiesSome {R W T : Type 0} (read : Ghosts R) (write : WriteGhosts W) (count : ℕ) (old new : R) (before after : W)
    (result : Result T Error) : Type 0 where
  -- what the writer was given
  pub tells : write.tells after ≡ write.tells before
  pub part : IsTrue (read.tells old) → IsTrue (write.tells before) → OnOk result
      (write.appended before (take count (read.rest old).bytes) after
      × (length (read.rest old).bytes < count → IsTrue (read.rest old).ends_well))
  pub front : IsTrue (read.tells old) → IsTrue (write.tells before) → AppendsFront write.appended (take count (read.rest old).bytes) before after
  pub narrows : OnOk result (NarrowsSome (Retried write.refuses) before count after)
  -- where the reader stands then
  pub stands : OnOk result (GivesInAll read.tells read.steady read.content read.place read.rest read.faults (TriedAgain read.refuses)
      old new (take count (read.rest old).bytes))
  pub left : OnErr result (CopiesFront read write.tells write.appended (λ given. length given ≤ count) old new before after)
  -- why it refuses, and where the reader has no fault
  pub device : IfErr result (λ e. IsDevice e → (read.faults old < read.faults new) ⊎ (write.faults before < write.faults after))
  pub why : IsTrue (read.tells old) → IsTrue (read.rest old).ends_well → IsQuiet (read.faults old) (read.faults new) →
      IfErr result (OrMemory (Retried write.refuses) before count)
  pub named : IfErr result (CopyRefuses (TriedAgain read.refuses old) (Retried write.refuses before count))
