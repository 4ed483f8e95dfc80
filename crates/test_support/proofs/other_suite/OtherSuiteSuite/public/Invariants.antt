use Rattle.std.proofs.Common.{◌≡◌, ◌++◌, take, drop}
use Rattle.test_support.specs.Other.{other_public}
use Rattle.test_support.proofs.other_suite.OtherSuiteSuite.public.Given as goal

-- the bytes so far are combined, the others are the secret's
abbrev pub invariant-loop-x : goal.invariant-loop-x
invariant-loop-x l = l.x-items ≡ other_public (take l.x-index l.initial.x-items) ++ drop l.x-index l.initial.x-items
