use Rattle.std.proofs.Common.{◌≡◌, ◌%◌, arith}
use Rattle.age_bench.proofs.Steps.{masked_more}
use Rattle.age_bench.proofs.suite.mask_block.Goals as goal

pub loop-i-preserved : goal.loop-i-preserved
loop-i-preserved c =
    let place : c.loop-i.i % 32 ≡ c.loop-i.i = omega arith in
    rw place at (masked_more c.args.mask.now c.args.block.now c.loop-i.block c.loop-i.i (omega arith) c.loop-i.invariant)
