-- What is done with the bytes that a reader shows.
use Rattle.std.specs.Prelude.{List, drop, length, take, ℕ, ◌*◌, ◌-◌, ◌≡◌, ◌≤◌}
use Rattle.age_v1.specs.ArmorFullLines.{full_lines}

-- what is shown begins with so many lines of 64 columns, which stand for the bytes from the next on
pub record IsAhead (bytes : List ℕ) (next left : ℕ) (shown : List ℕ) : Type 0 where
  pub room : 48 * left ≤ length bytes - next
  pub within : 65 * left ≤ length shown
  pub lines : take (65 * left) shown ≡ full_lines left (drop next bytes)
