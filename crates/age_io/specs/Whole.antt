-- What reads come to that go on until all is done.
use Rattle.std.specs.Prelude.{◌≡◌, ◌≢◌, ℕ, ◌+◌, ◌<◌, ◌≤◌, ◌⊎◌, IsTrue, false, List, ◌++◌, length, take, Result, IfOk, IfErr, OnOk, OnErr}
use Rattle.age_error.specs.declared.io.Error.{Error}
use Rattle.age_error.specs.declared.io.Error.TheVariants.{OutOfMemory}
use Rattle.age_io.specs.Keeping.{KeepsReader}
use Rattle.age_io.specs.Reading.{Delivers, EndsEarly, Gave, GrewByRead, IsQuiet, TriedAgain, most_faults}
use Rattle.age_io.specs.Stretch.{IsCleanEnd}
use Rattle.age_io.specs.Turns.{GivesTried, RefusesTried}
use Rattle.age_io.specs.declared.traits.Read.{Ghosts}

-- A buffer was filled from a reader, or as much of it as comes before a clean end: so many bytes of it. Its reads are tried again after
-- interruptions.
pub record FillsBuffer {R T : Type 0} (read : Ghosts R) (old new : R) (before after : List ℕ) (filled : ℕ) (result : Result T Error) : Type 0 where
  -- of every reader: what stays of it, and which of its reads there were
  pub keeps : KeepsReader read (TriedAgain read.refuses) old new result
  pub unspent : 0 < length before → OnOk result (read.faults new < most_faults)
  pub count : filled ≤ length after
  pub turns : OnOk result (GivesTried read (length after) (take filled after) old new)
  pub refused : IfErr result (λ e. RefusesTried read (length after) (take filled after) e old new)
  -- of a reader that tells its bytes: which bytes they are, and why no more came
  pub moves : IsTrue (read.tells old) → read.place new ≡ read.place old + filled
  pub bytes : IsTrue (read.tells old) → OnOk result (Delivers (take filled after) (read.rest old) (read.rest new))
  pub end : IsTrue (read.tells old) → OnOk result (filled < length after → IsCleanEnd (read.rest new))
  pub err : IsTrue (read.tells old) → OnErr result (Gave (take filled after) (read.rest old) (read.rest new))
  pub cause : IsTrue (read.tells old) → IfErr result (λ e. e ≢ OutOfMemory → IsQuiet (read.faults old) (read.faults new) →
      EndsEarly (length after) (read.rest old))

-- The whole rest of a reader was appended to a list, and is as long as is answered; or what came before a refusal was.
pub record ReadsToEnd {R : Type 0} (read : Ghosts R) (old new : R) (before after : List ℕ) (result : Result ℕ Error) : Type 0 where
  -- of every reader
  pub keeps : KeepsReader read (λ r e. (e ≡ OutOfMemory) ⊎ TriedAgain read.refuses r e) old new result
  pub unspent : OnOk result (read.faults new < most_faults)
  pub count : IfOk result (λ n. length after ≡ length before + n)
  -- of a reader that tells its bytes
  pub bytes : IsTrue (read.tells old) → OnOk result (after ≡ before ++ (read.rest old).bytes)
  pub moves : IsTrue (read.tells old) → read.place new + length before ≡ read.place old + length after
  pub end : IsTrue (read.tells old) → OnOk result (IsTrue (read.rest old).ends_well)
  pub left : IsTrue (read.tells old) → OnOk result (IsCleanEnd (read.rest new))
  pub err : IsTrue (read.tells old) → OnErr result (GrewByRead (read.rest old) (read.rest new) before after)
  pub cause : IsTrue (read.tells old) → IfErr result (λ e. e ≢ OutOfMemory → IsQuiet (read.faults old) (read.faults new) →
      (read.rest old).ends_well ≡ false)
