-- Arithmetic in GF(p), where p = 2^255 - 19 (RFC 7748, 4.1 and 5). Each operation takes any numbers and gives one below p.
use Rattle.std.specs.Prelude.{ℕ, ◌+◌, ◌-◌, ◌*◌, ◌%◌, ◌^◌}

-- p (4.1)
unfoldable pub prime : ℕ
prime = 2 ^ 255 - 19

-- a + b
abbrev pub sum : (a b : ℕ) → ℕ
sum a b = (a + b) % prime

-- a - b
abbrev pub difference : (a b : ℕ) → ℕ
difference a b = (a + (prime - b % prime)) % prime

-- a * b
abbrev pub product : (a b : ℕ) → ℕ
product a b = a * b % prime

-- a^2
abbrev pub square : (a : ℕ) → ℕ
square a = product a a

-- a^n
abbrev pub field_power : (a n : ℕ) → ℕ
field_power a n = a ^ n % prime
