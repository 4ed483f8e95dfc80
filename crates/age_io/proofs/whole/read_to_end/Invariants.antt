use Rattle.std.proofs.Common.{◌≡◌, ◌≤◌, ◌<◌, ◌-◌, ◌+◌, ◌^◌, IsTrue, vec_len}
use Rattle.age_io.proofs.Delivering.{Grown}
use Rattle.age_io.specs.Reading.{AddsNoReason, TriedAgain}
use Rattle.age_io.specs.Keeping.{SameReader}
use Rattle.age_io.proofs.whole.read_to_end.Given as goal

abbrev pub invariant-reads : goal.invariant-reads
invariant-reads g l =
    let reader = g.R.Read in
    record {
      same : SameReader reader l.fn.reader l.reader;
      narrows : AddsNoReason (TriedAgain reader.refuses) l.fn.reader l.reader;
      some_room : 0 < vec_len l.room;
      start : l.start ≡ vec_len l.fn.buf;
      longer : vec_len l.fn.buf ≤ vec_len l.buf;
      moved : IsTrue (reader.tells l.fn.reader) → reader.place l.reader + vec_len l.fn.buf ≡ reader.place l.fn.reader + vec_len l.buf;
      so_far : IsTrue (reader.tells l.fn.reader) → Grown l.fn.buf.items l.buf.items (reader.rest l.fn.reader) (reader.rest l.reader);
    }

abbrev pub decreases-reads : goal.decreases-reads
decreases-reads g l = 2 ^ 64 - vec_len l.buf
