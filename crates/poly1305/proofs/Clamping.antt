-- The halves of a clamped number.
use Rattle.std.proofs.Common.{◌≡◌, ℕ, ◌/◌, ◌%◌, ◌^◌, ◌≤◌, bit_and, ◌∙◌}
use Rattle.std.specs.Int.Bits.{and_mod, and_shr, and_le_r, and_zero_r}

-- the bits that stay (RFC 8439, 2.5)
abbrev mask : ℕ
mask = 0x0ffffffc0ffffffc0ffffffc0fffffff

pub low_half : (n : ℕ) → bit_and n mask % 2 ^ 64 ≤ 0x0ffffffc0fffffff
low_half n = rw (and_mod n mask 64) (and_le_r (n % 2 ^ 64) 0x0ffffffc0fffffff)

pub high_half : (n : ℕ) → bit_and n mask / 2 ^ 64 ≤ 0x0ffffffc0ffffffc
high_half n = rw (and_shr n mask 64) (and_le_r (n / 2 ^ 64) 0x0ffffffc0ffffffc)

pub high_half_fourfold : (n : ℕ) → bit_and n mask / 2 ^ 64 % 4 ≡ 0
high_half_fourfold n = rw (and_shr n mask 64) (and_mod (n / 2 ^ 64) 0x0ffffffc0ffffffc 2 ∙ and_zero_r (n / 2 ^ 64 % 4))
