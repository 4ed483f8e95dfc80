use Rattle.std.proofs.Common.{arith, bit_xor}
use Rattle.std.proofs.lemmas.Grind.{common_steps}
use Rattle.std.proofs.lemmas.List.Edits.{map_over_more}
use Rattle.age_bench.proofs.suite.BenchSuiteSuite.public.Goals as goal

pub loop-x-preserved : goal.loop-x-preserved
loop-x-preserved c =
    map_over_more (λ x. bit_xor x 0x5a) c.args.secret.now c.loop-x.x-items c.loop-x.x-index _
    (omega arith) c.loop-x.invariant (grind (arith, common_steps))
