use Rattle.std.proofs.Common.{◌≡◌, ◌*◌, length, take, drop}
use Rattle.scrypt.specs.BlockMix.{chained, even_hashes, odd_hashes}
use Rattle.scrypt.proofs.mixing.block_mix.Given as goal

-- the chain so far, and the hashes so far at their places in either half
abbrev pub invariant-pairs : goal.invariant-pairs
invariant-pairs l = record {
  chain : l.x ≡ chained l.b (2 * l.i);
  long : length l.mixed ≡ 16;
  even : take l.i l.mixed ≡ even_hashes l.b l.i;
  odd : take l.i (drop 8 l.mixed) ≡ odd_hashes l.b l.i;
}
