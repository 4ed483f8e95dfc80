use Rattle.std.proofs.Common.{◌≡◌, ◌-◌, ◌+◌, ◌^◌, IsTrue, vec_len, length}
use Rattle.age_io.specs.Reading.{Delivers, AddsNoReason, TriedAgain}
use Rattle.age_base64.specs.Lines.{Lacks}
use Rattle.age_io.specs.Keeping.{SameReader}
use Rattle.age_armor.proofs.counted.Counted.take_line.Given as goal

abbrev pub invariant-runs : goal.invariant-runs
invariant-runs g l =
    let reader = g.R.Read in
    record {
      none : l.self.left ≡ 0;
      lines : l.self.lines ≡ l.fn.self.lines;
      same : SameReader reader l.fn.self.inner l.self.inner;
      narrows : AddsNoReason (TriedAgain reader.refuses) l.fn.self.inner l.self.inner;
      origin : IsTrue (reader.tells l.fn.self.inner) → reader.place l.self.inner - l.self.taken ≡ reader.place l.fn.self.inner - l.fn.self.taken;
      count : IsTrue (reader.tells l.fn.self.inner) → l.self.taken ≡ l.fn.self.taken + length l.line.items;
      unended : IsTrue (reader.tells l.fn.self.inner) → Lacks 10 l.line.items;
      so_far : IsTrue (reader.tells l.fn.self.inner) → Delivers l.line.items (reader.rest l.fn.self.inner) (reader.rest l.self.inner);
    }

abbrev pub decreases-runs : goal.decreases-runs
decreases-runs g l = 2 ^ 64 - vec_len l.line
