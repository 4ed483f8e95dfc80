use Rattle.std.proofs.Common.{◌*◌, [], rules, arith, ◌∙◌}
use Rattle.std.proofs.lemmas.Slice.{overwrites}
use Rattle.scrypt.specs.Encoding.{block_bytes}
use Rattle.scrypt.proofs.Joins.{flat_map_more}
use Rattle.scrypt.proofs.encoding.blocks_bytes.Goals as goal

pub places-preserved : goal.places-preserved
places-preserved c = (
  search (rules, overwrites),
  flat_map_more block_bytes [] c.args.b.now c.places.bytes _ c.places.i (64 * c.places.i) 64 _ _ (omega arith) c.places.invariant.1 (omega arith)
      (omega arith) (c.copy_from_slice.ensures.after ∙ c.block_bytes.ensures) (omega arith),
)
