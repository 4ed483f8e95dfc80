use Rattle.std.proofs.Common.{◌+◌, ◌*◌, refl, arith}
use Rattle.std.proofs.lemmas.List.{append-nil}
use Rattle.poly1305.proofs.Grouping.{scaled_at, scaled_all, scaled_first, scaled_last}
use Rattle.poly1305.proofs.groups.group_absorbed.Goals as goal

pub each-init : goal.each-init
each-init c = record {
  value = λ r text powers beyond given.
      rw append-nil (scaled_first r 64 _ _ _ _ text (powers 0 _ c.power_at.ensures) beyond c.with_product-columns.ensures.value given);
  bounds = (omega arith, omega arith, omega arith);
}

pub each-preserved : goal.each-preserved
each-preserved c = record {
  value = λ r text powers beyond given.
      let i = 4 * c.each.i in
      let group = c.args.group.now in
      let one = c.with_block-columns.ensures.value r text powers (c.each.invariant.value r text powers beyond given) in
      let two = c.with_block-columns-in-each.ensures.value r text powers one in
      let three = c.with_block-columns-in-each-2.ensures.value r text powers (scaled_at r 64 _ (i + 1 + 1) (i + 2) text group (omega arith) two) in
      let four = c.with_block-columns-in-each-3.ensures.value r text powers (scaled_at r 64 _ (i + 2 + 1) (i + 3) text group (omega arith) three) in
      scaled_at r 64 _ (i + 3 + 1) (4 * (c.each.i + 1)) text group (omega arith) four;
  bounds = (omega arith, omega arith, omega arith);
}

pub returns-clause-value : goal.returns-clause-value
returns-clause-value c = λ r text powers beyond given.
    let all = scaled_all r 64 (4 * c.each.i) _ text c.args.group.now (omega arith) c.requires.group
    (c.each.invariant.value r text powers beyond given) in
    scaled_last r 0 _ _ _ refl c.carried.ensures.value all

pub with_product-columns-requires-clause-by : goal.with_product-columns-requires-clause-by
with_product-columns-requires-clause-by c = c.requires.multipliers _ _ c.power_at.ensures
