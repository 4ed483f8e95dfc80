use Rattle.std.proofs.Common.{◌≡◌, ◌*◌, ◌/◌, ◌++◌, length, take, drop, arith}
use Rattle.age_bench.specs.Bench.{masked}
use Rattle.age_bench.proofs.Steps.{blocks_more, blocks_end}
use Rattle.age_bench.proofs.suite.mask_all.Goals as goal

pub loop-i-preserved : goal.loop-i-preserved
loop-i-preserved c =
    blocks_more c.args.mask.now c.args.bytes.now c.loop-i.bytes c.mask_block.new.block c.loop-i.i _ _
    (omega arith) (omega arith) c.mask_block.ensures c.loop-i.invariant

pub returns : goal.returns
returns c =
    let n = length c.args.bytes.now / 32 in
    let last : c.loop-i.i ≡ n = omega arith in
    let front : c.loop-i.bytes ≡ masked c.args.mask.now (take (32 * n) c.args.bytes.now) ++ drop (32 * n) c.args.bytes.now =
    rw (← last) c.loop-i.invariant in
    blocks_end c.args.mask.now c.args.bytes.now c.loop-i.bytes c.mask_block-2.new.block n _
    (omega arith) (omega arith) c.mask_block-2.ensures front
