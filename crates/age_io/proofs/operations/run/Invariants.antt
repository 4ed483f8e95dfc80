use Rattle.std.proofs.Common.{◌≡◌, IsTrue, vec_len, All, take, drop}
use Rattle.age_io.specs.Stretch.{from_place}
use Rattle.age_io.specs.Reading.{IsQuiet}
use Rattle.age_io.specs.Replies.{IsNoWant, IsDeviceFault, CameOfAll}
use Rattle.age_io.proofs.Replying.{Answered}
use Rattle.age_io.specs.Keeping.{SameReader}
use Rattle.age_io.proofs.operations.run.Given as goal

abbrev pub invariant-loop-op : goal.invariant-loop-op
invariant-loop-op g l =
    let reader = g.R.Read in
    record {
      same : SameReader reader l.fn.reader l.reader;
      so_many : vec_len l.answers ≡ l.op-index;
      came : CameOfAll reader.tells reader.steady reader.content reader.place reader.rest reader.faults reader.refuses reader.read_besides
          g.R.Seek.seek_refuses g.R.Seek.seek_besides
          (take l.op-index l.ops) l.answers.items l.fn.reader l.reader;
      no_device : reader.faults l.reader ≡ reader.faults l.fn.reader → All (λ a. IsDeviceFault a → ⊥) l.answers.items;
      told : IsTrue (reader.tells l.fn.reader) → IsTrue (reader.content l.fn.reader).ends_well →
          reader.rest l.fn.reader ≡ from_place (reader.place l.fn.reader) (reader.content l.fn.reader) →
          IsQuiet (reader.faults l.fn.reader) (reader.faults l.reader) → All IsNoWant l.answers.items →
          Answered l.ops (drop l.op-index l.ops) (reader.content l.fn.reader) (reader.place l.fn.reader) l.answers.items (reader.place l.reader)
          (reader.rest l.reader);
    }
