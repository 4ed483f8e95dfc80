use Rattle.std.proofs.Common.{ℕ, ◌*◌, ◌%◌, ◌≤◌, List, ◌++◌, take}
use Rattle.poly1305.specs.Mac.{prime}
use Rattle.poly1305.specs.Limbs.{factor_number, number_of}
use Rattle.poly1305.specs.Groups.{IsAccumulator}
use Rattle.poly1305.proofs.groups.groups_absorbed.Given as goal

-- it is the accumulator of the groups so far
abbrev pub invariant-each : goal.invariant-each
invariant-each l = record {
  value : (text : List ℕ) → IsAccumulator (factor_number l.fn.r) (number_of l.fn.accumulator % prime) text
      → IsAccumulator (factor_number l.fn.r) (number_of l.next % prime) (text ++ take (1024 * l.i) l.groups);
  high : l.next.high ≤ 4;
}
