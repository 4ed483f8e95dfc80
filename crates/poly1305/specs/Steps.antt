-- Groups of 32 blocks that are taken into a state in eight steps.
use Rattle.std.specs.Prelude.{◌≡◌, ℕ, ◌+◌, ◌-◌, ◌*◌, ◌/◌, ◌%◌, ◌^◌, List, ◌++◌, length, take}
use Rattle.poly1305.specs.declared.authenticator.Poly1305.{Poly1305}
use Rattle.poly1305.specs.declared.steps.Powers.{Powers}
use Rattle.poly1305.specs.declared.steps.Steps.{Steps}
use Rattle.poly1305.specs.Mac.{clamped, prime}
use Rattle.poly1305.specs.Groups.{bits_beyond, short_column_number, AreBelow, ArePowers, IsScaled}

-- no block of a state is begun
abbrev pub IsUnbegun : Poly1305 → Type 0
IsUnbegun state = state.filled ≡ 0

-- the powers of r, and what the bits beyond the blocks make, are those for this key
pub record ArePowersFor (key : List ℕ) (made : Powers) : Type 0 where
  pub powers : ArePowers (clamped (take 16 key)) made.powers
  pub beyond : short_column_number made.beyond % prime ≡ bits_beyond (clamped (take 16 key)) 32 % prime

-- the sums are below what so many steps can make
abbrev pub AreBelowAfter : ℕ → Steps → Type 0
AreBelowAfter i steps = AreBelow ((4 * i + 66) * 2 ^ 112) steps.columns

-- under this key, after this text, these first bytes of a group are taken
pub record HasTaken (key text bytes : List ℕ) (steps : Steps) : Type 0 where
  pub scaled : IsScaled (clamped (take 16 key)) (32 - length bytes / 16) (short_column_number steps.columns) (text ++ bytes)
