use Rattle.std.proofs.Common.{arith}
use Rattle.poly1305.proofs.Multiplying.{sum_of_short_columns}
use Rattle.poly1305.proofs.groups.with_product.Goals as goal

pub returns-clause-value : goal.returns-clause-value
returns-clause-value c =
    sum_of_short_columns _ _ _ _ _ _ _ _ _ _ _ _ _ _ _ c.requires.by.shifted
    (omega (arith, c.with_third.ensures.value, c.with_limb-second.ensures.low.0, c.with_limb-first.ensures.low.0))
    (omega (arith, c.with_third-2.ensures.value, c.with_limb-second.ensures.middle.0, c.with_limb-first.ensures.middle.0))
    (omega (arith, c.with_third-3.ensures.value, c.with_limb-second.ensures.high.0, c.with_limb-first.ensures.high.0))
