-- What seeks in armor do.
use Rattle.std.specs.Prelude.{Bool, None, Some, drop, true, ℕ, ⊤, ◌<◌, ◌≡◌, ◌≤◌}
use Rattle.age_io.specs.Stretch.{Stretch}
use Rattle.age_io.specs.Cursor.{OrFailed, OrTooLong, place_at}
use Rattle.age_error.specs.declared.io.Error.{Error}
use Rattle.age_error.specs.declared.io.SeekFrom.{SeekFrom}
use Rattle.age_error.specs.declared.io.SeekFrom.TheVariants.{Current, End, Start}
use Rattle.age_v1.specs.DeliveredArmor.{Outcome, text_delivers}

-- What only seeks in a text refuse with: its place or its length is past what a place may be, what was read before is outside of what the
-- inner reader has now, or what only seeks of that one refuse with.
abbrev pub OrAstray : (Error → Type 0) → Error → Type 0
OrAstray below = OrTooLong (OrFailed below)

-- what a text delivers that begins here in the content of the reader that gives it, and how it ends
abbrev pub text_outcome : Stretch → ℕ → Outcome
text_outcome content origin = text_delivers (drop origin content.bytes) content.ends_well

-- the target is known without the length and lies past this one, or it is counted from the end
abbrev pub AsksPast : SeekFrom → ℕ → ℕ → Type 0
AsksPast (Start n) place len = len < n
AsksPast (End d) place len = ⊤
AsksPast (Current d) place len = (n : ℕ) → place_at place d ≡ Some n → len < n

-- the target is counted from the place and lies below 0
abbrev pub IsEarly : SeekFrom → ℕ → Type 0
IsEarly (Start n) place = ⊥
IsEarly (End d) place = ⊥
IsEarly (Current d) place = place_at place d ≡ None

-- the target is counted from the end
abbrev pub IsFromEnd : SeekFrom → Type 0
IsFromEnd (Start n) = ⊥
IsFromEnd (End d) = ⊤
IsFromEnd (Current d) = ⊥

-- The target is known not to lie beyond the furthest place that was come to: by itself, by the place, or, once the end was read, by the end.
abbrev pub IsNear : SeekFrom → ℕ → ℕ → Bool → Type 0
IsNear (Start n) place furthest ended = n ≤ furthest
IsNear (End d) place furthest ended = ended ≡ true
IsNear (Current d) place furthest ended = (n : ℕ) → place_at place d ≡ Some n → n ≤ furthest

-- the target is this place, which it is counted from, or by itself
abbrev pub IsTo : SeekFrom → ℕ → Type 0
IsTo (Start n) place = n ≡ place
IsTo (End d) place = ⊥
IsTo (Current d) place = place_at place d ≡ Some place
