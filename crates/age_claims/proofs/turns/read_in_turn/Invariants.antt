use Rattle.std.proofs.Common.{◌≡◌, ℕ, ◌+◌, ◌≤◌, IsTrue, length}
use Rattle.age.specs.StreamReader.{payload_of, opens_of, tells_of, HasChunk}
use Rattle.age_claims.specs.Claims.{IsInOne}
use Rattle.age_claims.proofs.turns.read_in_turn.Given as goal

abbrev pub invariant-turns : goal.invariant-turns
invariant-turns g l = record {
  same_tells : tells_of l.reader ≡ tells_of l.fn.reader;
  same_payload : IsTrue (tells_of l.fn.reader) → payload_of l.reader ≡ payload_of l.fn.reader;
  opened : IsTrue (tells_of l.fn.reader) → (a b : ℕ) → IsInOne (length (payload_of l.fn.reader).bytes) l.one (length l.first) a →
      IsInOne (length (payload_of l.fn.reader).bytes) l.other (length l.second) b →
      (opens_of l.reader ≤ opens_of l.fn.reader + 4) × HasChunk l.reader a × HasChunk l.reader b;
}

abbrev pub decreases-turns : goal.decreases-turns
decreases-turns g l = l.left
