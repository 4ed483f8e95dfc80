use Rattle.std.proofs.Common.{◌∙◌}
use Rattle.poly1305.proofs.Accumulating.{absorbed_value}
use Rattle.poly1305.proofs.limbs.absorbed.Goals as goal

pub returns-clause-value : goal.returns-clause-value
returns-clause-value c = absorbed_value _ _ _ _ _ (c.carried.ensures.value ∙ c.columns_of.ensures.value) c.sum.ensures.value
