use Rattle.std.proofs.Common.{◌≡◌, ◌+◌, ◌-◌, ◌≤◌, ◌<◌, IsTrue, length, take}
use Rattle.std.specs.Prelude.{⊤, Ok}
use Rattle.age_io.specs.Writing.{HandsOn, KeepsWriter}
use Rattle.age_armor.specs.Writing.{Took, held_len}
use Rattle.age_armor.proofs.writer.ArmoredWriter.take_all.Given as goal

abbrev pub invariant-loop-done : goal.invariant-loop-done
invariant-loop-done g l =
    let writer = g.W.Write in
    record {
      within : l.done ≤ length l.bytes;
      roomy : held_len l.fn.self + length l.bytes < 48 → (held_len l.self ≡ held_len l.fn.self + l.done) × (l.self.inner ≡ l.fn.self.inner);
      failed : l.self.failed ≡ l.fn.self.failed;
      same_form : l.self.armored ≡ l.fn.self.armored;
      keeps : KeepsWriter {T = ⊤} writer.tells writer.faults (HandsOn writer.refuses) l.fn.self.inner l.self.inner (Ok tt);
      took : IsTrue (writer.tells l.fn.self.inner) → Took writer.appended l.fn.self (take l.done l.bytes) l.self;
    }

abbrev pub decreases-loop-done : goal.decreases-loop-done
decreases-loop-done g l = length l.bytes - l.done
