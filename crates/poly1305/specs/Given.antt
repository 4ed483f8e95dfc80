-- What text a state was given.
use Rattle.std.specs.Prelude.{◌≡◌, ℕ, ◌*◌, ◌/◌, ◌%◌, List, take, drop, length}
use Rattle.std.specs.Int.{w128, from_le_bytes}
use Rattle.poly1305.specs.declared.authenticator.Poly1305.{Poly1305}
use Rattle.poly1305.specs.Mac.{accumulated, clamped, prime}
use Rattle.poly1305.specs.Limbs.{factor_number, number_of}

-- under this key the state was given this text
pub record WasGiven (state : Poly1305) (key text : List ℕ) : Type 0 where
  -- the halves of the key
  pub factor : factor_number state.r ≡ clamped (take 16 key)
  pub summand : state.s ≡ from_le_bytes w128 (drop 16 key)
  -- the whole blocks of the text are in the accumulator
  pub whole : number_of state.accumulator % prime ≡ accumulated (clamped (take 16 key)) text (length text / 16)
  -- what is left of it is the block that is begun
  pub count : state.filled ≡ length text % 16
  pub begun : take state.filled state.block ≡ drop (16 * (length text / 16)) text
