use Rattle.std.proofs.Common.{rules, arith, length, ◌<◌}
use Rattle.std.proofs.lemmas.Result.{on_ok_weaker}
use Rattle.age_v1.proofs.ArmorLines.{armor_step, armor_end, armor_over}
use Rattle.age_armor_tests.proofs.definition_tests.push_columns.Goals as goal

pub loop-rest-preserved : goal.loop-rest-preserved
loop-rest-preserved c =
    armor_step c.loop-rest.out.items _ c.loop-rest.rest.now c.split_at.result.0.now c.split_at.result.1.now _ c.loop-rest.invariant
    c.in_ok-push_line.ensures c.split_at.ensures.front c.split_at.ensures.back (omega arith)

pub returns-then-is_empty : goal.returns-then-is_empty
returns-then-is_empty c = armor_over c.loop-rest.out.items c.loop-rest.rest.now _ c.loop-rest.invariant (search rules)

pub returns-else-is_empty : goal.returns-else-is_empty
returns-else-is_empty c =
    let some : 0 < length c.loop-rest.rest.now = grind arith in
    on_ok_weaker c.push_line-else-is_empty.result
    (armor_end c.loop-rest.out.items _ c.loop-rest.rest.now _ c.loop-rest.invariant some (omega arith)) c.push_line-else-is_empty.ensures
