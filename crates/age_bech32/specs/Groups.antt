-- Bytes and groups of five bits, the most significant bit first (BIP 173, "Segwit address format", on decoding).
use Rattle.std.specs.Prelude.{◌≡◌, ℕ, zero, suc, ◌+◌, ◌-◌, ◌*◌, ◌/◌, ◌%◌, ◌^◌, ◌<◌, ◌≤◌, List, [], ◌∷◌, ◌++◌, length, All}

-- the number that digits of so many bits write after a number, the first digit the most significant
unfoldable pub number_after : ℕ → ℕ → List ℕ → ℕ
number_after bits front [] = front
number_after bits front (digit ∷ digits) = number_after bits (front * 2 ^ bits + digit) digits

-- the number that digits of so many bits write
abbrev pub number : ℕ → List ℕ → ℕ
number bits digits = number_after bits 0 digits

-- the last `count` digits of so many bits of a number, the most significant first
unfoldable pub digits : ℕ → ℕ → ℕ → List ℕ
digits bits zero n = []
digits bits (suc count) n = digits bits count (n / 2 ^ bits) ++ (n % 2 ^ bits) ∷ []

-- the groups have the bits of the bytes in their order, and then at most four unused bits, which are zero
pub record IsRegrouped (bytes groups : List ℕ) : Type 0 where
  pub unused : ℕ
  pub few : unused ≤ 4
  pub eights : All (λ byte. byte < 2 ^ 8) bytes
  pub fives : All (λ group. group < 2 ^ 5) groups
  pub size : 5 * length groups ≡ 8 * length bytes + unused
  pub bits : number 5 groups ≡ number 8 bytes * 2 ^ unused

-- how many groups of five bits so many bytes have, the last filled
abbrev pub group_count : ℕ → ℕ
group_count bytes = (8 * bytes + 4) / 5

-- the groups of five bits of bytes, the last filled with zero bits
unfoldable pub groups_of_bytes : List ℕ → List ℕ
groups_of_bytes bytes =
    let size = group_count (length bytes) in
    digits 5 size (number 8 bytes * 2 ^ (5 * size - 8 * length bytes))

-- how many bytes so many groups have
abbrev pub byte_count : ℕ → ℕ
byte_count groups = 5 * groups / 8

-- the bytes of groups, without the bits at the end that make no byte
unfoldable pub bytes_of_groups : List ℕ → List ℕ
bytes_of_groups groups = digits 8 (byte_count (length groups)) (number 5 groups / 2 ^ (5 * length groups % 8))
