use Rattle.std.proofs.Common.{◌≡◌, ℕ, ◌+◌, ◌%◌, ◌^◌, ◌<◌, get_or, length}
use Rattle.test_support.proofs.other_suite.OtherSuiteSuite.x25519.Given as goal

-- the bytes before i are those of the shared secret
abbrev pub invariant-loop-i : goal.invariant-loop-i
invariant-loop-i l = record {
  len : length l.shared ≡ 32;
  done : (k : ℕ) → k < l.i → get_or l.shared k 0 ≡ (get_or l.secret k 0 + get_or l.public k 0) % 2 ^ 8;
}
