use Rattle.std.proofs.Common.{◌≡◌, ◌≤◌, ◌-◌, IsTrue, length, take}
use Rattle.age_io.specs.Writing.{Narrows, Retried}
use Rattle.age_io.proofs.whole.write_all.Given as goal

abbrev pub invariant-loop-at : goal.invariant-loop-at
invariant-loop-at g l =
    let writer = g.W.Write in
    record {
      same_tells : writer.tells l.writer ≡ writer.tells l.fn.writer;
      no_fewer_faults : writer.faults l.fn.writer ≤ writer.faults l.writer;
      narrows : Narrows (Retried writer.refuses) l.fn.writer l.at l.writer;
      within : l.at ≤ length l.bytes;
      so_far : IsTrue (writer.tells l.fn.writer) → writer.appended l.fn.writer (take l.at l.bytes) l.writer;
    }

abbrev pub decreases-loop-at : goal.decreases-loop-at
decreases-loop-at g l = length l.bytes - l.at
