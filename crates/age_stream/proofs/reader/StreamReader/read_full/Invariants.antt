use Rattle.age_stream.proofs.OneChunk.{InOne}
use Rattle.std.proofs.Common.{◌≡◌, ℕ, ◌≤◌, ◌-◌, ◌+◌, ◌*◌, false, IsTrue, Ok, length, take}
use Rattle.age_io.specs.Reading.{Delivers}
use Rattle.age_stream.specs.Reader.{tells_of, plain_rest_of, payload_of, place_of, stops_of}
use Rattle.age_v1.specs.PayloadAnswers.{StandAt}
use Rattle.age_stream.specs.Reading.{spare}
use Rattle.age_stream.specs.PrivateKeeping.{KeepsPayload}
use Rattle.age_stream.proofs.reader.StreamReader.read_full.Given as goal

abbrev pub invariant-reads : goal.invariant-reads
invariant-reads g l =
    let read = g.R.Read in
    record {
      keeps : KeepsPayload (stops_of l.fn.self) l.fn.self.source l.self.source (Ok l.filled);
      within : l.filled ≤ length l.buf;
      good : l.self.place.failed ≡ false;
      same_key : l.self.key ≡ l.fn.self.key;
      moved : 65536 * l.self.place.number + l.self.place.at ≡ 65536 * l.fn.self.place.number + l.fn.self.place.at + l.filled;
      so_far : IsTrue (tells_of l.fn.self) → Delivers (take l.filled l.buf) (plain_rest_of l.fn.self) (plain_rest_of l.self);
      spared : l.self.opens + spare l.self.place.held l.self.cache.first.last + l.fn.self.place.number ≤ l.fn.self.opens + 2 + l.self.place.number;
      stored : IsTrue (tells_of l.fn.self) → StandAt g.S.Suite.seal_of l.fn.self.key (payload_of l.fn.self).bytes (place_of l.fn.self)
          (take l.filled l.buf);
      inner_end : IsTrue (tells_of l.fn.self) → (read.rest l.self.source.inner).ends_well ≡ (read.rest l.fn.self.source.inner).ends_well;
      counted : l.fn.self.opens ≤ l.self.opens;
      one : (chunk : ℕ) → 65536 * chunk ≤ place_of l.fn.self → place_of l.fn.self + length l.buf ≤ 65536 * chunk + 65536
          → InOne l.fn.self l.self chunk l.filled;
    }

abbrev pub decreases-reads : goal.decreases-reads
decreases-reads g l = length l.buf - l.filled
