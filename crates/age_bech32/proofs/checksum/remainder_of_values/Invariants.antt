use Rattle.std.proofs.Common.{◌≡◌, ◌<◌, ◌^◌, drop}
use Rattle.age_bech32.specs.Remainder.{remainder_after}
use Rattle.age_bech32.proofs.checksum.remainder_of_values.Given as goal

abbrev pub invariant-loop-value : goal.invariant-loop-value
invariant-loop-value l = record {
  below : l.sum < 2 ^ 30;
  left : remainder_after l.sum (drop l.value-index l.values) ≡ remainder_after l.fn.start l.values;
}
