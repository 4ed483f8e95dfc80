use Rattle.std.proofs.Common.{◌∙◌}
use Rattle.poly1305.proofs.Multiplying.{product_of_columns}
use Rattle.poly1305.proofs.limbs.columns_of.Goals as goal

pub returns-clause-value : goal.returns-clause-value
returns-clause-value c =
    product_of_columns _ _ _ _ _ _ _ _ _ _ _ c.requires.factor.2 c.product.ensures.value c.product-2.ensures.value c.product-3.ensures.value
    c.product-4.ensures.value (c.from.ensures ∙ c.small_product.ensures.value) c.small_product-2.ensures.value
