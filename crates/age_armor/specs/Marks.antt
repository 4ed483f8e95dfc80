-- What is known of a text that was read before: where some of its lines begin, and how many bytes it carries.
use Rattle.std.specs.Prelude.{Bool, IsTrue, None, Option, Some, false, true, ℕ, ◌≤◌}
use Rattle.age_armor.specs.declared.marks.Marks.{Marks}

abbrev pub is_known : Option ℕ → Bool
is_known None = false
is_known (Some n) = true

-- what is known of a text only grows, and once memory for a mark was refused none is noted
pub record LearnsMore (old new : Marks) : Type 0 where
  pub further : old.furthest ≤ new.furthest
  pub end : IsTrue (is_known old.length) → IsTrue (is_known new.length)
  pub noting : IsTrue new.noting → IsTrue old.noting
