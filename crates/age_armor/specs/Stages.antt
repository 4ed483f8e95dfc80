-- What a reader of armor has before it, by what it has found so far.
use Rattle.std.specs.Prelude.{Bool, false, true, ◌≡◌}
use Rattle.age_io.specs.Stretch.{Stretch}
use Rattle.age_error.specs.declared.io.Error.{Error}
use Rattle.age_armor.specs.declared.stages.Stage.{Stage}
use Rattle.age_armor.specs.declared.stages.Stage.TheVariants.{Binary, Ended, Lines, Start}
use Rattle.age_v1.specs.DeliveredArmor.{Clean, Ending, InnerFault, Outcome, Refused, at_end, ends_in, raw_lines, section, text_delivers}

-- what the rest of the inner reader delivers
abbrev pub ahead : Stage → Stretch → Outcome
ahead Start rest = text_delivers rest.bytes rest.ends_well
ahead Binary rest = record { bytes = rest.bytes; ending = at_end rest.ends_well Clean }
ahead (Lines after_short) rest = section after_short (raw_lines rest.bytes) rest.ends_well
ahead Ended rest = ends_in Clean

-- nothing was read yet
abbrev pub is_start : Stage → Bool
is_start Start = true
is_start _ = false

-- lines of armor were found
abbrev pub has_lines : Stage → Bool
has_lines (Lines _) = true
has_lines Ended = true
has_lines _ = false

-- the error is that of this end
abbrev pub NamesEnding : Ending → Error → Type 0
NamesEnding Clean e = ⊥
NamesEnding (Refused f) e = e ≡ f
NamesEnding InnerFault e = Unit {0}
