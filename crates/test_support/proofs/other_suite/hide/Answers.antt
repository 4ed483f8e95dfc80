use Rattle.std.proofs.Common.{◌≡◌, ◌*◌, ◌/◌, ◌++◌, length, take, drop, arith}
use Rattle.test_support.specs.Other.{hidden, pad_at}
use Rattle.test_support.proofs.Hiding.{blocks_more, blocks_end}
use Rattle.test_support.proofs.other_suite.hide.Goals as goal

pub loop-i-preserved : goal.loop-i-preserved
loop-i-preserved c =
    blocks_more (pad_at c.args.key.now c.args.nonce.now) c.args.bytes.now c.loop-i.bytes c.hide_block.new.block (32 * c.loop-i.i) _ _
    (omega arith) (omega arith) c.hide_block.ensures c.loop-i.invariant

pub returns : goal.returns
returns c =
    let n = length c.args.bytes.now / 32 in
    let last : c.loop-i.i ≡ n = omega arith in
    let front : c.loop-i.bytes ≡ hidden c.args.key.now c.args.nonce.now (take (32 * n) c.args.bytes.now) ++ drop (32 * n) c.args.bytes.now =
    rw (← last) c.loop-i.invariant in
    blocks_end (pad_at c.args.key.now c.args.nonce.now) c.args.bytes.now c.loop-i.bytes c.hide_block-2.new.block (32 * n) _
    (omega arith) (omega arith) c.hide_block-2.ensures front
