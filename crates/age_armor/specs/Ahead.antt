-- What a reader of armor can still deliver, over its parts.
use Rattle.std.specs.Prelude.{ℕ, Bool, List}
use Rattle.age_io.specs.Stretch.{Stretch}
use Rattle.age_io.specs.Buffering.{rest_behind, shown_behind}
use Rattle.age_armor.specs.declared.stages.Stage.{Stage}
use Rattle.age_armor.specs.Stages.{ahead}
use Rattle.age_v1.specs.DeliveredArmor.{Outcome, outcome_after, stretch_of}

-- what is held, and then what the rest of the inner reader delivers
unfoldable pub outcome_ahead : List ℕ → Stage → Stretch → Outcome
outcome_ahead held stage rest = outcome_after held (ahead stage rest)

-- the rest: that, and nothing of a failed reader
unfoldable pub rest_ahead : Bool → List ℕ → Stage → Stretch → Stretch
rest_ahead failed held stage rest = rest_behind failed held (stretch_of (ahead stage rest))

-- what it shows
unfoldable pub shown_ahead : Bool → List ℕ → List ℕ
shown_ahead failed held = shown_behind failed held
