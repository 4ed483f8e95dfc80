-- What the private steps say of a chunk that was opened.
use Rattle.std.specs.Prelude.{Bool, List, false, length, true, ℕ, ◌+◌, ◌<◌, ◌^◌, ◌≡◌, ◌≤◌}
use Rattle.age_suite.specs.Suite.{one_more}

-- A full chunk that a seek to the end holds as the last, without a verdict on it. The place is its end.
pub record IsUnjudged (at : ℕ) (last : Bool) (chunk : List ℕ) : Type 0 where
  pub end : at ≡ 65536
  pub is_last : last ≡ true
  pub full : length chunk ≡ 65536

-- which number a chunk of the longest plaintext may have, and an empty one
pub record IsAllowedAt (number : ℕ) (chunk : List ℕ) : Type 0 where
  pub in_limit : 0 < length chunk → number < 2 ^ 44
  pub first : length chunk ≡ 0 → number ≡ 0

-- what a text of this length was opened to, by so many openings as there were before and after
pub record IsOpening (number len : ℕ) (chunk : List ℕ) (last : Bool) (before after : ℕ) : Type 0 where
  pub allowed : IsAllowedAt number chunk
  pub length : length chunk + 16 ≡ len
  pub short : len < 65552 → last ≡ true
  pub middle : last ≡ false → after ≤ before + 1
  pub opened : before < 2 ^ 64 → one_more before ≤ after

-- how often a text is opened: at most twice
pub record OpensTwice (before after : ℕ) : Type 0 where
  pub fits : before < 2 ^ 64 → after < 2 ^ 64
  pub counts : before < 2 ^ 64 → before ≤ after
  pub most : after ≤ before + 2
