use Rattle.std.proofs.Common.{◌∙◌}
use Rattle.age_v1.proofs.ArmorLines.{armor_written}
use Rattle.age_armor_tests.proofs.definition_tests.armor_whole.Goals as goal

pub returns : goal.returns
returns c =
    armor_written c.args.bytes.now c.as_bytes.result.now c.new-out.result.items c.push_line.new.out.items c.push_columns.new.out.items
    c.push_line-2.new.out.items
    c.new-out.ensures.items (c.as_bytes.ensures.value ∙ c.in_ok-columns.ensures.text ∙ c.armor_engine.ensures.0 c.args.bytes.now)
    c.in_ok-push_line.ensures c.in_ok-push_columns.ensures c.in_ok-push_line-2.ensures
