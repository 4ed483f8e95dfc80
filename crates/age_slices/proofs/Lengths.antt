-- The length of a plaintext, by that of its payload.
use Rattle.std.proofs.Common.{◌≡◌, ◌+◌, ◌-◌, ◌*◌, ◌/◌, ℕ, refl}
use Rattle.std.specs.Prelude.{◌&&◌, ◌||◌, nat_eq, nat_le, nat_lt, if◌then◌else◌, Some, None}
use Rattle.age.specs.Payload.{plain_len}

pub plain_len_is : (n : ℕ) → plain_len n
    ≡ (if nat_le 16 (n - 65552 * ((n - 1) / 65552)) && (nat_eq ((n - 1) / 65552) 0 || nat_lt 16 (n - 65552 * ((n - 1) / 65552)))
    then Some (n - 16 * ((n - 1) / 65552 + 1)) else None)
unfolding plain_len
plain_len_is n = refl
