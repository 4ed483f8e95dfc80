use Rattle.std.proofs.Common.{arith, ◌+◌, ◌%◌, ◌^◌}
use Rattle.std.proofs.lemmas.Grind.{common_steps}
use Rattle.std.proofs.lemmas.List.Edits.{map_over_more}
use Rattle.test_support.proofs.other_suite.OtherSuiteSuite.public.Goals as goal

pub loop-x-preserved : goal.loop-x-preserved
loop-x-preserved c =
    map_over_more (λ x. (x + 0x35) % 2 ^ 8) c.args.secret.now c.loop-x.x-items c.loop-x.x-index _
    (omega arith) c.loop-x.invariant (grind (arith, common_steps))
