-- What a reader with a limit delivers and shows, over its parts. It is past its limit once it met a byte behind it.
use Rattle.std.specs.Prelude.{ℕ, ◌-◌, Bool, true, false, ◌&&◌, nat_le, List, [], length, take}
use Rattle.age_io.specs.Stretch.{Stretch, nothing}

-- the first bytes of a stretch, as many as the limit says; it ends well where the stretch does and has no more
abbrev pub limited : ℕ → Stretch → Stretch
limited limit s = record { bytes = take limit s.bytes; ends_well = s.ends_well && nat_le (length s.bytes) limit }

-- what is left of a reader that may give so many bytes more
abbrev pub rest_within : Bool → ℕ → Stretch → Stretch
rest_within true left rest = nothing
rest_within false left rest = limited left rest

-- where it stands: the byte behind its limit was taken and isn't given
abbrev pub place_within : Bool → ℕ → ℕ
place_within true place = place - 1
place_within false place = place

-- what it shows of what is shown to it
abbrev pub shown_within : Bool → ℕ → List ℕ → List ℕ
shown_within true left shown = []
shown_within false left shown = take left shown
