use Rattle.std.proofs.Common.{◌≡◌, ℕ, ◌+◌, ◌-◌, ◌*◌, ◌%◌, ◌^◌, List, ◌++◌, take}
use Rattle.poly1305.specs.Mac.{prime}
use Rattle.poly1305.specs.Limbs.{number_of}
use Rattle.poly1305.specs.Groups.{bits_beyond, short_column_number, AreBelow, ArePowers, IsAccumulator, IsScaled}
use Rattle.poly1305.proofs.groups.group_absorbed.Given as goal

-- the blocks so far, times the power of r that the blocks after them still need
abbrev pub invariant-each : goal.invariant-each
invariant-each l = record {
  value : (r : ℕ) (text : List ℕ) → ArePowers r l.powers → short_column_number l.beyond % prime ≡ bits_beyond r 64 % prime
      → IsAccumulator r (number_of l.fn.accumulator % prime) text
      → IsScaled r (64 - 4 * l.i) (short_column_number l.columns) (text ++ take (16 * (4 * l.i)) l.group);
  bounds : AreBelow ((4 * l.i + 66) * 2 ^ 112) l.columns;
}
