use Rattle.std.proofs.Common.{[], set, arith, ap, ◌∙◌}
use Rattle.scrypt.specs.BlockMix.{block_xor}
use Rattle.scrypt.proofs.Pairs.{zip2_more, zip2_whole}
use Rattle.scrypt.proofs.mixing.xor_blocks.Goals as goal

pub places-preserved : goal.places-preserved
places-preserved c =
    ap (λ block. set c.places.x c.places.i block) c.xor_block.ensures
    ∙ zip2_more block_xor [] c.args.x.now c.args.blocks.now c.places.x c.places.i (omega arith) (omega arith) c.places.invariant

pub returns : goal.returns
returns c = zip2_whole block_xor c.args.x.now c.args.blocks.now c.places.x c.places.i (omega arith) (omega arith) c.places.invariant
