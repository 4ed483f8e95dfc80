-- What a reader of armor keeps of its text, as its type says.
use Rattle.std.specs.Prelude.{Bool, IsTrue, None, Option, Some, false, length, slice_get, true, ℕ, ◌%◌, ◌*◌, ◌+◌, ◌<◌, ◌≡◌, ◌≤◌}
use Rattle.age_io.specs.Stretch.{Stretch, from_place}
use Rattle.age_armor.specs.declared.stages.Stage.{Stage}
use Rattle.age_armor.specs.declared.stages.Stage.TheVariants.{Lines}
use Rattle.age_armor.specs.declared.marks.Marks.{Marks}
use Rattle.age_v1.specs.DeliveredArmor.{begins_armor, stretch_of, text_delivers}
use Rattle.age_armor.specs.Stages.{ahead, has_lines, is_start}
use Rattle.age_armor.specs.PrivateStages.{FindsForm}

-- what a text carries before its end
abbrev pub carried : Stretch → Stretch
carried text = stretch_of (text_delivers text.bytes text.ends_well)

-- Behind so many bytes of the text a reader at this stage delivers what the text carries from this place on, and comes to the same end.
pub record Resumes (text : Stretch) (stage : Stage) (place taken : ℕ) : Type 0 where
  pub rest : stretch_of (ahead stage (from_place taken text)) ≡ from_place place (carried text)
  pub ending : (ahead stage (from_place taken text)).ending ≡ (text_delivers text.bytes text.ends_well).ending
  pub within : place ≤ length (carried text).bytes
  pub reaches : taken ≤ length text.bytes
  pub form : is_start stage ≡ false → FindsForm (has_lines stage) text.bytes

-- the text carries so many bytes, and ends well
pub record IsLength (text : Stretch) (n : ℕ) : Type 0 where
  pub well : IsTrue (carried text).ends_well
  pub same : n ≡ length (carried text).bytes

-- a text can be resumed there; the numbers are in order also where the reader that gives it isn't steady
abbrev pub CanResume : Bool → Stretch → Stage → ℕ → ℕ → Type 0
CanResume steady text stage place taken = (place ≤ taken) × (IsTrue steady → Resumes text stage place taken)

-- the end is known, and stands before a place
abbrev pub KnowsEndBefore : Option ℕ → ℕ → Type 0
KnowsEndBefore None place = ⊥
KnowsEndBefore (Some n) place = n < place

-- how far so many marks reach: 1,024 full lines behind the last of them, or behind the front
abbrev pub reach : ℕ → ℕ
reach count = 49152 * (count + 1)

-- What a reader knows of its text: it can be resumed at each mark, of which the k-th is of the line that begins after 1,024 k full ones, and
-- has the length that is kept. The furthest place that was come to is behind each mark, and, as long as marks are noted, near the last.
pub record Knows (steady : Bool) (text : Stretch) (marks : Marks) : Type 0 where
  pub each : (index taken : ℕ) → slice_get marks.taken.items index ≡ Some taken → CanResume steady text (Lines false) (49152 * (index + 1)) taken
  pub end : (n : ℕ) → marks.length ≡ Some n → IsTrue steady → IsLength text n
  pub met : (n : ℕ) → marks.length ≡ Some n → n ≤ marks.furthest
  pub passed : 49152 * length marks.taken.items ≤ marks.furthest
  pub inside : IsTrue steady → marks.furthest ≤ length (carried text).bytes
  pub near : IsTrue steady → marks.noting ≡ true → IsTrue (begins_armor text.bytes) → marks.furthest ≤ reach (length marks.taken.items)

-- how a reader gets on: it holds nothing beyond the furthest place, and a full line is behind full ones alone
pub record IsPaced (stage : Stage) (place held furthest : ℕ) : Type 0 where
  pub within : place + held ≤ furthest
  pub first : is_start stage ≡ true → place ≡ 0
  pub lines : stage ≡ Lines false → (place + held) % 48 ≡ 0
