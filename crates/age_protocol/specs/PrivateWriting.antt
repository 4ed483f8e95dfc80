-- What writing what is made of all that a reader has comes to; private steps alone say it.
use Rattle.std.specs.Prelude.{◌≡◌, ℕ, ◌^◌, ◌<◌, ◌≤◌, ⊤, IsTrue, List, length, Result, IfErr, OnOk}
use Rattle.age_error.specs.Refusals.{IsDevice}
use Rattle.age_error.specs.declared.io.Error.{Error}
use Rattle.age_io.specs.Copying.{AppendsFront}
use Rattle.age_io.specs.Writing.{HandsOn}
use Rattle.age_io.specs.declared.traits.Read.{Ghosts}
use Rattle.age_io.specs.declared.traits.Write.{Ghosts as WriteGhosts}
use Rattle.age_armor.specs.WriterCalls.{OfText}
use Rattle.age_armor.specs.Writing.{HasFailed, IsGood, Refused, inner_of}
use Rattle.age_armor.specs.declared.writer.ArmoredWriter.{ArmoredWriter}
use Rattle.age_protocol.specs.WholeFiles.{RefusesSomeFile, RefusesWriting}
use Rattle.age_stream.specs.Sending.{RefusesChunk}

-- Of the bytes that a reader still has `form` makes what was appended to a writer, which is handed back beside the answer: all of it, or
-- a beginning of it where the writing was refused.
pub record WritesMade {R W : Type 0} (read : Ghosts R) (write : WriteGhosts W) (form : List ℕ → List ℕ) (old new : R) (before : W)
    (result : W × Result ⊤ Error) : Type 0 where
  -- what the writer was given
  pub all : IsTrue (read.tells old) → IsTrue (write.tells before) → OnOk result.1
      (IsTrue (read.rest old).ends_well × (length (read.rest old).bytes ≤ 2 ^ 60) × write.appended before (form (read.rest old).bytes) result.0)
  pub front : IsTrue (read.tells old) → IsTrue (write.tells before) → AppendsFront write.appended (form (read.rest old).bytes) before result.0
  pub same_tells : OnOk result.1 (write.tells result.0 ≡ write.tells before)
  pub no_fewer_faults : OnOk result.1 (write.faults before ≤ write.faults result.0)
  -- why it refuses, and what the writer may refuse after it
  pub refused : IfErr result.1 (RefusesWriting read write old new before result.0)
  pub narrows : OnOk result.1 ((e : Error) → RefusesChunk write.refuses result.0 e →
      RefusesSomeFile write.refuses before (IsTrue (read.tells old)) (length (read.rest old).bytes) e)

-- What comes of ending the text of a writer of armor and flushing the writer below, which is handed back beside the answer.
pub record EndsText {W : Type 0} (write : WriteGhosts W) (old : ArmoredWriter W) (result : W × Result ⊤ Error) : Type 0 where
  pub all : IsTrue (write.tells (inner_of old)) → OfText write.appended old (λ text first. OnOk result.1 (write.appended first text result.0))
  pub front : IsTrue (write.tells (inner_of old)) → IsGood old
      → OfText write.appended old (λ text first. AppendsFront write.appended text first result.0)
  pub failed : HasFailed old → result.0 ≡ inner_of old
  pub same_tells : OnOk result.1 (write.tells result.0 ≡ write.tells (inner_of old))
  pub no_fewer_faults : OnOk result.1 (write.faults (inner_of old) ≤ write.faults result.0)
  pub why : IfErr result.1 (HandsOn (Refused write.refuses) old)
  pub device : IfErr result.1 (λ e. IsDevice e → write.faults (inner_of old) < write.faults result.0)
  pub narrows : OnOk result.1 ((e : Error) → HandsOn write.refuses result.0 e → HandsOn (Refused write.refuses) old e)
