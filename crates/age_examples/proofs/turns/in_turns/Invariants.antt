use Rattle.std.proofs.Common.{◌≡◌, ◌+◌, ◌/◌, ◌≤◌, IsTrue, Some, slice_get}
use Rattle.age.specs.Reading.{AddsNoReason}
use Rattle.age.specs.StreamReader.{payload_of, opens_of, last_used_of, tells_of, steady_of, faults_of, content_of, refuses_of, HasChunk}
use Rattle.age_examples.specs.Turns.{HasPlace}
use Rattle.age_examples.proofs.turns.in_turns.Given as goal

abbrev pub invariant-turns : goal.invariant-turns
invariant-turns g l = record {
  same_tells : tells_of l.reader ≡ tells_of l.fn.reader;
  same_payload : IsTrue (tells_of l.fn.reader) → payload_of l.reader ≡ payload_of l.fn.reader;
  first : IsTrue (tells_of l.fn.reader) → HasPlace (payload_of l.fn.reader) l.second → HasChunk l.reader (l.first / 65536);
  second : IsTrue (tells_of l.fn.reader) → last_used_of l.reader ≡ Some (l.second / 65536);
  more_faults : faults_of l.fn.reader ≤ faults_of l.reader;
  same_steady : steady_of l.reader ≡ steady_of l.fn.reader;
  same_content : IsTrue (tells_of l.fn.reader) → content_of l.reader ≡ content_of l.fn.reader;
  bytes : IsTrue (tells_of l.fn.reader) → IsTrue (steady_of l.fn.reader) →
      (slice_get (content_of l.fn.reader).bytes l.first ≡ Some l.one) × (slice_get (content_of l.fn.reader).bytes l.second ≡ Some l.other);
  narrows : AddsNoReason (λ r. refuses_of r) l.fn.reader l.reader;
  opened : IsTrue (tells_of l.fn.reader) → HasPlace (payload_of l.fn.reader) l.first → HasPlace (payload_of l.fn.reader) l.second
      → opens_of l.reader ≤ opens_of l.fn.reader + 4;
}

abbrev pub decreases-turns : goal.decreases-turns
decreases-turns g l = l.left
