use Rattle.poly1305.proofs.Grouping.{scaled_block}
use Rattle.poly1305.proofs.groups.with_block.Goals as goal

pub returns-clause-value : goal.returns-clause-value
returns-clause-value c = λ r text powers before.
    scaled_block r c.args.blocks c.args.i _ _ _ _ text c.args.group.now c.requires.few c.requires.within c.requires.group
    c.whole_bytes-block.ensures.value
    (powers _ _ c.power_at.ensures) c.with_product.ensures.value before

pub with_product-requires-clause-by : goal.with_product-requires-clause-by
with_product-requires-clause-by c = c.requires.multipliers _ _ c.power_at.ensures
