use Rattle.std.proofs.Common.{refl, arith, length-set}
use Rattle.scrypt.specs.Encoding.{words}
use Rattle.scrypt.proofs.Steps.{words_more, whole}
use Rattle.scrypt.proofs.encoding.block.Goals as goal

pub places-init : goal.places-init
unfolding words
places-init c = (refl, refl)

pub places-preserved : goal.places-preserved
places-preserved c = (
  rw length-set c.places.invariant.0,
  words_more c.args.bytes.now c.places.x c.places.i _ (omega arith) c.places.invariant.1 c.word.ensures,
)

pub returns : goal.returns
returns c = whole c.places.x (words c.args.bytes.now) c.places.i 16 (omega arith) c.places.invariant.0 c.places.invariant.1
