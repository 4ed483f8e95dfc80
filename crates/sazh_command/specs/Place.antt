-- The place that a text tells. A text is a list of bytes.
use Rattle.std.specs.Prelude.{◌≡◌, ◌==◌, ℕ, ◌<◌, List, ◌++◌, length, Option, Some, None, MatchOption, codes}
use Rattle.std.specs.List.{before_first, position_or_len}
use Rattle.sazh_command.specs.Decimal.{number_of}

-- what stands before the first line feed
abbrev pub first_line : List ℕ → List ℕ
first_line text = before_first (λ b. b == 10) text

-- there is a line feed
abbrev pub HasLine : List ℕ → Type 0
HasLine text = position_or_len (λ b. b == 10) text < length text

-- The text is `pos:`, a tab, a line and what follows, and the line is this number, or there is none where it isn't so.
abbrev pub TellsPlace : List ℕ → Option ℕ → Type 0
TellsPlace text result = MatchOption result
    ((told : List ℕ) → text ≡ codes "pos:\t" ++ told → HasLine told → number_of (first_line told) ≡ None)
    (λ n. (told : List ℕ) × (text ≡ codes "pos:\t" ++ told) × HasLine told × (number_of (first_line told) ≡ Some n))
