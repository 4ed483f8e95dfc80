-- Whether a text of which only the last bytes are kept is UTF-8.
use Rattle.std.specs.Prelude.{◌≡◌, ℕ, ◌≤◌, ◌<◌, List, [], ◌++◌, take}
use Rattle.std.specs.Str.{IsUtf8}

-- The text is UTF-8 up to the bytes that are pending, no beginning of which is. Once there are four of them no character begins there,
-- and what follows isn't kept.
pub record HasChecked (pending : List ℕ) (count : ℕ) (text : List ℕ) : Type 0 where
  pub front : List ℕ
  pub more : List ℕ
  pub parts : text ≡ front ++ (take count pending ++ more)
  pub good : IsUtf8 front
  pub all : count < 4 → more ≡ []
  pub none : (k : ℕ) → 0 < k → k ≤ count → IsUtf8 (take k pending) → ⊥
