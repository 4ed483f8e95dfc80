use Rattle.std.proofs.Common.{◌≡◌, ℕ, ◌-◌, ◌%◌}
use Rattle.curve25519.specs.Field.{prime}
use Rattle.curve25519.specs.Encoding.{decode_little_endian}
use Rattle.curve25519.specs.X25519.{LadderState as DefinedState, initial_state, ladder}
use Rattle.x25519.specs.Elements.{value}
use Rattle.x25519.specs.States.{Represents}
use Rattle.x25519.proofs.ladder.ladder.Given as goal

-- the steps that are left make of this state what all make of the first one
abbrev pub invariant-bits : goal.invariant-bits
invariant-bits l = (x_1 : ℕ) → value l.u % prime ≡ x_1 % prime → (defined : DefinedState) × Represents l.state defined
    × (ladder (decode_little_endian l.scalar) x_1 (255 - l.i) defined ≡ ladder (decode_little_endian l.scalar) x_1 255 (initial_state x_1))
