use Rattle.std.proofs.Common.{refl, arith, length-set}
use Rattle.scrypt.specs.Encoding.{blocks}
use Rattle.scrypt.proofs.Steps.{blocks_more, whole}
use Rattle.scrypt.proofs.encoding.blocks.Goals as goal

pub places-init : goal.places-init
unfolding blocks
places-init c = (refl, refl)

pub places-preserved : goal.places-preserved
places-preserved c = (
  rw length-set c.places.invariant.0,
  blocks_more c.args.bytes.now c.places.b c.places.i _ (omega arith) c.places.invariant.1 c.block.ensures,
)

pub returns : goal.returns
returns c = whole c.places.b (blocks c.args.bytes.now) c.places.i 16 (omega arith) c.places.invariant.0 c.places.invariant.1
