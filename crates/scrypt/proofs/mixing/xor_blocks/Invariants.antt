use Rattle.std.proofs.Common.{◌≡◌, ◌++◌, take, drop}
use Rattle.std.specs.Simd.Lanes.{zip2}
use Rattle.scrypt.specs.BlockMix.{block_xor}
use Rattle.scrypt.proofs.mixing.xor_blocks.Given as goal

-- the blocks so far are combined, the others are as before
abbrev pub invariant-places : goal.invariant-places
invariant-places l = l.x ≡ zip2 block_xor (take l.i l.fn.x) (take l.i l.blocks) ++ drop l.i l.fn.x
