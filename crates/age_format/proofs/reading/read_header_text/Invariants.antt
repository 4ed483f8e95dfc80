use Rattle.std.proofs.Common.{◌≡◌, ◌-◌, ◌+◌, ◌^◌, IsTrue, length}
use Rattle.age_io.specs.Reading.{AddsNoReason, Delivers, TriedAgain}
use Rattle.age_io.specs.Keeping.{SameReader}
use Rattle.age_format.proofs.reading.read_header_text.Given as goal

abbrev pub invariant-bytes : goal.invariant-bytes
invariant-bytes g l =
    let reader = g.R.Read in
    record {
      same : SameReader reader l.fn.reader l.reader;
      narrows : AddsNoReason (TriedAgain reader.refuses) l.fn.reader l.reader;
      legacy : l.header.legacy ≡ l.fn.legacy;
      moved : IsTrue (reader.tells l.fn.reader) → reader.place l.reader ≡ reader.place l.fn.reader + length l.header.text;
      so_far : IsTrue (reader.tells l.fn.reader) → Delivers l.header.text (reader.rest l.fn.reader) (reader.rest l.reader);
    }

abbrev pub decreases-bytes : goal.decreases-bytes
decreases-bytes g l = 2 ^ 64 - length l.header.text
