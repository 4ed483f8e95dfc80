use Rattle.std.proofs.Common.{◌≡◌, ◌≤◌, ◌-◌, ◌+◌, IsTrue}
use Rattle.age_v1.specs.DeliveredArmor.{trailing}
use Rattle.age_io.specs.Reading.{AddsNoReason, TriedAgain}
use Rattle.age_io.specs.Keeping.{SameReader}
use Rattle.age_armor.proofs.counted.Counted.take_trailing.Given as goal

abbrev pub invariant-loop-count : goal.invariant-loop-count
invariant-loop-count g l =
    let reader = g.R.Read in
    record {
      lines : l.self.lines ≡ l.fn.self.lines;
      same : SameReader reader l.fn.self.inner l.self.inner;
      narrows : AddsNoReason (TriedAgain reader.refuses) l.fn.self.inner l.self.inner;
      origin : IsTrue (reader.tells l.fn.self.inner) → reader.place l.self.inner - l.self.taken ≡ reader.place l.fn.self.inner - l.fn.self.taken;
      count : IsTrue (reader.tells l.fn.self.inner) → l.fn.self.taken + l._count ≤ l.self.taken;
      so_far : IsTrue (reader.tells l.fn.self.inner)
          → trailing (reader.rest l.self.inner).bytes (reader.rest l.self.inner).ends_well
          ≡ trailing (reader.rest l.fn.self.inner).bytes (reader.rest l.fn.self.inner).ends_well;
    }
