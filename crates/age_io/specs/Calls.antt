-- What a call does, said by all members of its reader or writer.
use Rattle.std.specs.Prelude.{ℕ, List, Result}
use Rattle.age_error.specs.declared.io.Error.{Error}
use Rattle.age_error.specs.declared.io.SeekFrom.{SeekFrom}
use Rattle.age_io.specs.Reading.{Reads, TriedAgain}
use Rattle.age_io.specs.Cursor.{Seeks}
use Rattle.age_io.specs.Filling.{Consumes}
use Rattle.age_io.specs.Writing.{Writes, WritesAll, Retried}
use Rattle.age_io.specs.Replies.{CameOf, CameOfAll}
use Rattle.age_io.specs.declared.operations.Op.{Op}
use Rattle.age_io.specs.declared.operations.Answer.{Answer}
use Rattle.age_io.specs.declared.traits.Read.{Ghosts}
use Rattle.age_io.specs.declared.traits.Write.{Ghosts as WriteGhosts}

-- a read
abbrev pub ReadsBy : {R : Type 0} → Ghosts R → R → R → List ℕ → Result ℕ Error → Type 0
ReadsBy read old new buf result = Reads read.tells read.steady read.content read.place read.rest read.faults read.refuses old new buf result

-- a read that is tried again after an interruption
abbrev pub ReadsRetried : {R : Type 0} → Ghosts R → R → R → List ℕ → Result ℕ Error → Type 0
ReadsRetried read old new buf result =
    Reads read.tells read.steady read.content read.place read.rest read.faults (TriedAgain read.refuses) old new buf result

-- a seek that refuses a target so
abbrev pub SeeksBy : {R : Type 0} → Ghosts R → (Error → Type 0) → R → R → SeekFrom → Result ℕ Error → Type 0
SeeksBy read seek_refuses old new to result =
    Seeks read.tells read.steady read.content read.place read.rest read.faults read.refuses seek_refuses old new to result

-- such a seek that is tried again after an interruption
abbrev pub SeeksRetried : {R : Type 0} → Ghosts R → (Error → Type 0) → R → R → SeekFrom → Result ℕ Error → Type 0
SeeksRetried read seek_refuses old new to result =
    Seeks read.tells read.steady read.content read.place read.rest read.faults (TriedAgain read.refuses) seek_refuses old new to result

-- a `consume` of what was shown so
abbrev pub ConsumesBy : {R : Type 0} → Ghosts R → (R → List ℕ) → R → R → ℕ → Type 0
ConsumesBy read shown old new amount =
    Consumes read.tells read.steady read.content read.place read.rest read.faults read.refuses shown old new amount

-- a write
abbrev pub WritesBy : {W : Type 0} → WriteGhosts W → W → W → List ℕ → Result ℕ Error → Type 0
WritesBy write old new bytes result = Writes write.tells write.faults write.refuses write.appended old new bytes result

-- a write that is tried again after an interruption
abbrev pub WritesRetried : {W : Type 0} → WriteGhosts W → W → W → List ℕ → Result ℕ Error → Type 0
WritesRetried write old new bytes result = Writes write.tells write.faults (Retried write.refuses) write.appended old new bytes result

-- a write of all bytes, whose interruptions are tried again
abbrev pub WritesAllBy : {W T : Type 0} → WriteGhosts W → W → W → List ℕ → Result T Error → Type 0
WritesAllBy write old new bytes result = WritesAll write.tells write.faults (Retried write.refuses) write.appended old new bytes result

-- an operation that was answered so, by reads, or by a seek that refuses a target so and promises this besides
abbrev pub AnswersBy : {R : Type 0} → Ghosts R → (Error → Type 0) → (R → R → SeekFrom → Result ℕ Error → Type 0) → Op → Answer → R → R → Type 0
AnswersBy read seek_refuses seek_besides op answer old new =
    CameOf read.tells read.steady read.content read.place read.rest read.faults read.refuses read.read_besides seek_refuses seek_besides
    op answer old new

-- operations in turn
abbrev pub RunsBy : {R : Type 0} → Ghosts R → (Error → Type 0) → (R → R → SeekFrom → Result ℕ Error → Type 0)
    → List Op → List Answer → R → R → Type 0
RunsBy read seek_refuses seek_besides ops answers old new =
    CameOfAll read.tells read.steady read.content read.place read.rest read.faults read.refuses read.read_besides seek_refuses seek_besides
    ops answers old new
