use Rattle.std.proofs.Common.{◌≡◌, ◌++◌, take, drop, bit_xor}
use Rattle.std.specs.Simd.Lanes.{zip2}
use Rattle.scrypt.proofs.salsa.xor_block.Given as goal

-- the words so far are combined, the others are as before
abbrev pub invariant-words : goal.invariant-words
invariant-words l = l.x ≡ zip2 bit_xor (take l.i l.fn.x) (take l.i l.block) ++ drop l.i l.fn.x
