-- A place in the plaintext of a payload.
use Rattle.std.specs.Prelude.{◌≡◌, ℕ, ◌<◌, Some, length}
use Rattle.age.specs.Payload.{plain_len}
use Rattle.age.specs.Stretch.{Stretch}

-- by the payload's length its plaintext has a byte at this place
pub record HasPlace (payload : Stretch) (place : ℕ) : Type 0 where
  pub len : ℕ
  pub plain : plain_len (length payload.bytes) ≡ Some len
  pub inside : place < len
