-- The number that decimal digits write. A text is a list of bytes.
use Rattle.std.specs.Prelude.{ℕ, ◌+◌, ◌-◌, ◌*◌, ◌^◌, ◌&&◌, List, [], ◌∷◌, length, nat_eq, nat_lt, nat_le, if◌then◌else◌, Option, Some, None}
use Rattle.std.specs.Option.{option_and_then}

-- the value of a decimal digit: '0' to '9'
abbrev pub decimal_digit : ℕ → Option ℕ
decimal_digit c = if nat_le 48 c && nat_le c 57 then Some (c - 48) else None

-- what these digits write after those that wrote n, the high one first
abbrev pub digits_after : ℕ → List ℕ → Option ℕ
digits_after n [] = Some n
digits_after n (c ∷ text) = option_and_then (λ d. digits_after (n * 10 + d) text) (decimal_digit c)

-- at most 2^64 - 1
abbrev pub within_64 : ℕ → Option ℕ
within_64 n = if nat_lt n (2 ^ 64) then Some n else None

-- the number that digits write, after none
abbrev pub digits_number : List ℕ → Option ℕ
digits_number text = option_and_then within_64 (digits_after 0 text)

-- one or more decimal digits, leading zeros among them, of a number of at most 2^64 - 1
abbrev pub number_of : List ℕ → Option ℕ
number_of text = if nat_eq (length text) 0 then None else digits_number text
