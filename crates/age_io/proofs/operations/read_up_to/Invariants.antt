use Rattle.std.proofs.Common.{◌≡◌, ℕ, ◌≤◌, ◌-◌, IsTrue, vec_len}
use Rattle.age_io.specs.Stretch.{from_place}
use Rattle.age_io.specs.Reading.{ReadsInTurn, GivesInAll}
use Rattle.age_io.proofs.Reaching.{Reached}
use Rattle.age_io.specs.Keeping.{SameReader}
use Rattle.age_io.proofs.operations.read_up_to.Given as goal

abbrev pub invariant-reads : goal.invariant-reads
invariant-reads g l =
    let reader = g.R.Read in
    record {
      same : SameReader reader l.fn.reader l.reader;
      most : vec_len l.got ≤ l.count;
      gives : GivesInAll reader.tells reader.steady reader.content reader.place reader.rest reader.faults reader.refuses l.fn.reader l.reader
          l.got.items;
      turns : (n : ℕ) × ReadsInTurn reader.tells reader.steady reader.content reader.place reader.rest reader.faults reader.refuses
          reader.read_besides n l.fn.reader l.reader l.got.items;
      so_far : IsTrue (reader.tells l.fn.reader) →
          reader.rest l.fn.reader ≡ from_place (reader.place l.fn.reader) (reader.content l.fn.reader) →
          Reached (reader.content l.fn.reader) (reader.place l.fn.reader) l.got.items (reader.place l.reader) (reader.rest l.reader);
    }

abbrev pub decreases-reads : goal.decreases-reads
decreases-reads g l = l.count - vec_len l.got
