use Rattle.std.proofs.Common.{◌≡◌, ◌<◌, ◌%◌, ◌^◌, drop, map}
use Rattle.age_bech32.specs.Symbols.{lowered}
use Rattle.age_bech32.specs.Remainder.{remainder_after}
use Rattle.age_bech32.proofs.checksum.remainder_of_low_bits.Given as goal

abbrev pub invariant-loop-byte : goal.invariant-loop-byte
invariant-loop-byte l = record {
  below : l.sum < 2 ^ 30;
  left : remainder_after l.sum (map (λ b. b % 2 ^ 5) (lowered (drop l.byte-index l.prefix)))
      ≡ remainder_after l.fn.start (map (λ b. b % 2 ^ 5) (lowered l.prefix));
}
