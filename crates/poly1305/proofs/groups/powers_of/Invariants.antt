use Rattle.std.proofs.Common.{◌≡◌, ℕ, ◌+◌, ◌-◌, ◌%◌, ◌^◌, ◌<◌, ◌≤◌, Some, length}
use Rattle.std.specs.Prelude.{slice_get}
use Rattle.poly1305.specs.declared.groups.Multiplier.{Multiplier}
use Rattle.poly1305.specs.Mac.{prime}
use Rattle.poly1305.specs.Limbs.{factor_number, number_of}
use Rattle.poly1305.specs.Groups.{multiplier_number, IsMultiplier}
use Rattle.poly1305.proofs.groups.powers_of.Given as goal

-- the powers so far, at the end of the list, and the last of them
abbrev pub invariant-each : goal.invariant-each
invariant-each l = record {
  size : length l.powers ≡ 64;
  high : l.power.high ≤ 4;
  value : number_of l.power % prime ≡ factor_number l.fn.r ^ l.i % prime;
  multipliers : (k : ℕ) (x : Multiplier) → 63 < k + l.i → slice_get l.powers k ≡ Some x → IsMultiplier x;
  powers : (k : ℕ) (x : Multiplier) → 63 < k + l.i → slice_get l.powers k ≡ Some x
      → multiplier_number x % prime ≡ factor_number l.fn.r ^ (64 - k) % prime;
}
