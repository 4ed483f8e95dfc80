use Rattle.std.proofs.Common.{◌≡◌, ◌+◌, ◌-◌, ◌≤◌, ◌<◌, IsTrue, length, take}
use Rattle.std.specs.Prelude.{⊤, Ok}
use Rattle.age_io.specs.Writing.{KeepsWriter}
use Rattle.age_stream.specs.Sending.{RefusesChunk}
use Rattle.age_stream.specs.Writing.{Sent, taken_len, held_len}
use Rattle.age_stream.proofs.writer.StreamWriter.take_all.Given as goal

abbrev pub invariant-loop-done : goal.invariant-loop-done
invariant-loop-done g l =
    let writer = g.W.Write in
    record {
      within : l.done ≤ length l.bytes;
      total : taken_len l.self ≡ taken_len l.fn.self + l.done;
      roomy : held_len l.fn.self + length l.bytes ≤ 65536 → (held_len l.self ≡ held_len l.fn.self + l.done) × (l.self.inner ≡ l.fn.self.inner);
      last : l.fn.self.sealed < l.self.sealed → l.done ≡ length l.bytes → 0 < held_len l.self;
      failed : l.self.failed ≡ l.fn.self.failed;
      keeps : KeepsWriter {T = ⊤} writer.tells writer.faults (RefusesChunk writer.refuses) l.fn.self.inner l.self.inner (Ok tt);
      sent : IsTrue (writer.tells l.fn.self.inner) → Sent g.S.Suite.seal_of writer.appended l.fn.self (take l.done l.bytes) l.self;
    }

abbrev pub decreases-loop-done : goal.decreases-loop-done
decreases-loop-done g l = length l.bytes - l.done
