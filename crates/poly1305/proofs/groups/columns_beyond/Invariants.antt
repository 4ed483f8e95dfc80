use Rattle.std.proofs.Common.{◌≡◌, ℕ, ◌+◌, ◌-◌, ◌*◌, ◌%◌, ◌^◌}
use Rattle.poly1305.specs.Mac.{prime}
use Rattle.poly1305.specs.Groups.{bits_beyond, short_column_number, AreBelow, ArePowers}
use Rattle.poly1305.proofs.groups.columns_beyond.Given as goal

-- with the bits beyond the blocks to come it is all
abbrev pub invariant-each : goal.invariant-each
invariant-each l = record {
  value : (r : ℕ) → ArePowers r l.powers → (short_column_number l.columns + bits_beyond r (l.fn.blocks - l.i)) % prime
      ≡ bits_beyond r l.fn.blocks % prime;
  bounds : AreBelow ((l.i + 1) * 2 ^ 112) l.columns;
}
