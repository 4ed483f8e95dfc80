use Rattle.std.proofs.Common.{◌*◌, rules, arith, ◌∙◌}
use Rattle.std.proofs.lemmas.Slice.{overwrites}
use Rattle.std.specs.Int.{w32, to_le_bytes}
use Rattle.scrypt.proofs.Joins.{flat_map_more}
use Rattle.scrypt.proofs.encoding.block_bytes.Goals as goal

pub places-preserved : goal.places-preserved
places-preserved c = (
  search (rules, overwrites),
  flat_map_more (to_le_bytes w32) 0 c.args.x.now c.places.bytes _ c.places.i (4 * c.places.i) 4 _ _ (omega arith) c.places.invariant.1 (omega arith)
      (omega arith) (c.copy_from_slice.ensures.after ∙ c.to_le_bytes.ensures) (omega arith),
)
