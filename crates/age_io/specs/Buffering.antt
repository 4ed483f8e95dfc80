-- What a reader with a buffer holds, shows and can still deliver, over its parts.
use Rattle.std.specs.Prelude.{ℕ, Bool, true, false, List, [], ◌++◌, take, drop}
use Rattle.age_io.specs.Stretch.{Stretch, nothing}

-- the bytes of the buffer that were read and not given yet
abbrev pub held : List ℕ → ℕ → ℕ → List ℕ
held buffer given filled = drop given (take filled buffer)

-- the rest of a reader that holds these bytes before that of the inner reader
abbrev pub rest_behind : Bool → List ℕ → Stretch → Stretch
rest_behind true front rest = nothing
rest_behind false front rest = record { bytes = front ++ rest.bytes; ends_well = rest.ends_well }

-- what a reader with a buffer shows
abbrev pub shown_behind : Bool → List ℕ → List ℕ
shown_behind true front = []
shown_behind false front = front
