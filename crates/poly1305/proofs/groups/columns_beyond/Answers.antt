use Rattle.std.proofs.Common.{arith}
use Rattle.poly1305.proofs.Grouping.{beyond_all, beyond_more}
use Rattle.poly1305.proofs.groups.columns_beyond.Goals as goal

pub each-preserved : goal.each-preserved
each-preserved c = record {
  value = λ r powers. beyond_more r c.args.blocks c.each.i _ _ _ c.requires.few c.each-test.true
      (powers _ _ c.power_at.ensures) c.with_product-columns.ensures.value
      (c.each.invariant.value r powers);
  bounds = (omega arith, omega arith, omega arith);
}

pub returns-clause-value : goal.returns-clause-value
returns-clause-value c = λ r powers. beyond_all r c.args.blocks c.each.i _ (omega arith) (c.each.invariant.value r powers)

pub with_product-columns-requires-clause-by : goal.with_product-columns-requires-clause-by
with_product-columns-requires-clause-by c = c.requires.multipliers _ _ c.power_at.ensures
