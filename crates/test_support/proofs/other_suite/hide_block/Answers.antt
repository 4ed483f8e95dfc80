use Rattle.std.proofs.Common.{◌≡◌, ◌*◌, ◌+◌, get_or, arith}
use Rattle.test_support.specs.Other.{pad_at}
use Rattle.test_support.proofs.Hiding.{hidden_more, pad_in_block}
use Rattle.test_support.proofs.other_suite.hide_block.Goals as goal

pub loop-i-preserved : goal.loop-i-preserved
loop-i-preserved c =
    let at_place = pad_in_block c.args.key.now c.args.nonce.now c.args.number c.loop-i.i (omega arith) in
    let byte : get_or c.pad_block-pad.result c.loop-i.i 0 ≡ pad_at c.args.key.now c.args.nonce.now (32 * c.args.number + c.loop-i.i) =
    rw c.pad_block-pad.ensures at_place in
    hidden_more (pad_at c.args.key.now c.args.nonce.now) (32 * c.args.number) c.args.block.now c.loop-i.block c.loop-i.i _
    (omega arith) byte c.loop-i.invariant
