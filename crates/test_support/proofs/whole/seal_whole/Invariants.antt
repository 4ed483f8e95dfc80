use Rattle.std.proofs.Common.{◌≡◌}
use Rattle.age_v1.specs.Payload.{middle_seals}
use Rattle.test_support.proofs.whole.seal_whole.Given as goal

-- the seals of the pieces before i
abbrev pub invariant-loop-i : goal.invariant-loop-i
invariant-loop-i g l = l.out.items ≡ middle_seals g.S.Suite.seal_of l.key l.plain l.i
