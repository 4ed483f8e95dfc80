use Rattle.std.proofs.Common.{◌≡◌, ◌++◌, length}
use Rattle.std.specs.List.{flat_map}
use Rattle.age_base64.specs.Lines.{line}
use Rattle.age_v1.specs.Armor.{armor_lines}
use Rattle.age_armor_tests.proofs.definition_tests.push_columns.Given as goal

abbrev pub invariant-loop-rest : goal.invariant-loop-rest
invariant-loop-rest l = l.out.items ++ flat_map line (armor_lines l.rest) ≡ l.fn.out.items ++ flat_map line (armor_lines l.fn.columns)

abbrev pub decreases-loop-rest : goal.decreases-loop-rest
decreases-loop-rest l = length l.rest
