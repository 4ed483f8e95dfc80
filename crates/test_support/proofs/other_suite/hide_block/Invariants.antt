use Rattle.std.proofs.Common.{◌≡◌, ◌*◌, ◌++◌, take, drop}
use Rattle.test_support.specs.Other.{hidden_from, pad_at}
use Rattle.test_support.proofs.other_suite.hide_block.Given as goal

-- the bytes before i are hidden, the others are as before
abbrev pub invariant-loop-i : goal.invariant-loop-i
invariant-loop-i l = l.block ≡ hidden_from (pad_at l.key l.nonce) (32 * l.number) (take l.i l.initial.block) ++ drop l.i l.initial.block
