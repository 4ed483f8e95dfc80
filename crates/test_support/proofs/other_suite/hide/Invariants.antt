use Rattle.std.proofs.Common.{◌≡◌, ◌*◌, ◌++◌, take, drop}
use Rattle.test_support.specs.Other.{hidden}
use Rattle.test_support.proofs.other_suite.hide.Given as goal

-- the first i blocks are hidden, the others are as before
abbrev pub invariant-loop-i : goal.invariant-loop-i
invariant-loop-i l = l.bytes ≡ hidden l.key l.nonce (take (32 * l.i) l.initial.bytes) ++ drop (32 * l.i) l.initial.bytes
