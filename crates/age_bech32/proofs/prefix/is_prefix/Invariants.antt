use Rattle.std.proofs.Common.{◌≤◌, take, All}
use Rattle.age_bech32.proofs.prefix.is_prefix.Given as goal

abbrev pub invariant-loop-byte : goal.invariant-loop-byte
invariant-loop-byte l = record {
  low : All (λ b. 33 ≤ b) (take l.byte-index l.bytes);
  high : All (λ b. b ≤ 126) (take l.byte-index l.bytes);
}
