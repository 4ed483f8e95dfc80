-- What a state of the ladder stands for.
use Rattle.std.specs.Prelude.{◌≡◌, ◌%◌}
use Rattle.x25519.specs.declared.state.LadderState.{LadderState}
use Rattle.x25519.specs.Elements.{value}
use Rattle.curve25519.specs.Field.{prime}
use Rattle.curve25519.specs.X25519.{LadderState as DefinedState}

-- the elements are the numbers of a state of the definition, modulo the prime, and the same exchange was put off
pub record Represents (state : LadderState) (defined : DefinedState) : Type 0 where
  pub x_2 : value state.x_2 % prime ≡ defined.x_2 % prime
  pub z_2 : value state.z_2 % prime ≡ defined.z_2 % prime
  pub x_3 : value state.x_3 % prime ≡ defined.x_3 % prime
  pub z_3 : value state.z_3 % prime ≡ defined.z_3 % prime
  pub swap : state.swap ≡ defined.swap
