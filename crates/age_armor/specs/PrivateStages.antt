-- What the private steps from stage to stage say.
use Rattle.std.specs.Prelude.{Bool, List, [], false, length, not, true, ℕ, ◌<◌, ◌≡◌, ◌≤◌}
use Rattle.age_error.specs.declared.io.Error.{Error}
use Rattle.age_armor.specs.declared.stages.Stage.{Stage}
use Rattle.age_armor.specs.declared.stages.Piece.{Piece}
use Rattle.age_armor.specs.declared.stages.Stage.TheVariants.{Binary, Ended, Lines, Start}
use Rattle.age_v1.specs.DeliveredArmor.{Outcome, begins_armor, outcome_after}
use Rattle.age_armor.specs.Stages.{NamesEnding}

-- the end marker and all that follows it were read
abbrev pub is_ended : Stage → Bool
is_ended Ended = true
is_ended _ = false

-- bytes may come next: neither a short line was found nor the end
abbrev pub is_open : Stage → Bool
is_open (Lines after_short) = not after_short
is_open Ended = false
is_open _ = true

-- the bytes come first
pub record Advances (before : Outcome) (bytes : List ℕ) (after : Outcome) : Type 0 where
  pub same : before ≡ outcome_after bytes after

-- nothing comes before this error
pub record StopsWith (before : Outcome) (e : Error) : Type 0 where
  pub nothing : before.bytes ≡ []
  pub named : NamesEnding before.ending e

-- the text has as many bytes as it takes to find out whether it begins as armor does
pub record FindsForm (armored : Bool) (text : List ℕ) : Type 0 where
  pub long : 36 ≤ length text
  pub same : armored ≡ begins_armor text

-- a binary text that begins with so many bytes, or lines that are still to be read
abbrev pub IsAfterDetection : Stage → ℕ → Type 0
IsAfterDetection Start count = ⊥
IsAfterDetection Binary count = 0 < count
IsAfterDetection (Lines after_short) count = count ≡ 0
IsAfterDetection Ended count = ⊥

abbrev pub IsFound : Piece → Type 0
IsFound piece = IsAfterDetection piece.next piece.count
