use Rattle.std.proofs.Common.{◌≡◌, ◌*◌, ◌++◌, take, drop}
use Rattle.age_bench.specs.Bench.{masked}
use Rattle.age_bench.proofs.suite.mask_all.Given as goal

-- the first i blocks are combined, the others are as before
abbrev pub invariant-loop-i : goal.invariant-loop-i
invariant-loop-i l = l.bytes ≡ masked l.mask (take (32 * l.i) l.initial.bytes) ++ drop (32 * l.i) l.initial.bytes
