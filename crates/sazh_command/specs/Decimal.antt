-- The number that decimal digits write. A word is a list of bytes.
use Rattle.std.specs.Prelude.{ℕ, ◌^◌, ◌&&◌, List, length, nat_lt, if◌then◌else◌, Option, Some, None}
use Rattle.std.specs.Str.{all_ascii_digits}
use Rattle.std.specs.Str.Parse.{digits_value}

-- one or more decimal digits, leading zeros among them, of a number of at most 2^64 - 1
abbrev pub number_of : List ℕ → Option ℕ
number_of word =
    if all_ascii_digits word && nat_lt 0 (length word) && nat_lt (digits_value 10 word) (2 ^ 64) then Some (digits_value 10 word) else None
