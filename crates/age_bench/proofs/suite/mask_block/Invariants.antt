use Rattle.std.proofs.Common.{◌≡◌, ◌++◌, take, drop}
use Rattle.age_bench.specs.Bench.{masked}
use Rattle.age_bench.proofs.suite.mask_block.Given as goal

-- the bytes before i are combined, the others are as before
abbrev pub invariant-loop-i : goal.invariant-loop-i
invariant-loop-i l = l.block ≡ masked l.mask (take l.i l.initial.block) ++ drop l.i l.initial.block
