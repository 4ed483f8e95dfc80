-- Why reading a text refuses of which it isn't known how it ends.
use Rattle.std.specs.Prelude.{◌⊎◌, Bool, IsTrue}
use Rattle.age_error.specs.declared.io.Error.{Error}
use Rattle.age_error.specs.declared.io.Error.TheVariants.{UnexpectedEof, TooLong, Armor, OutOfMemory}
use Rattle.age_io.specs.Reading.{TriedAgain}
use Rattle.age_io.specs.declared.traits.Read.{Ghosts}

-- What it refuses with of itself: a fault of the armor, or want of memory. Where the reader that gives the text tells its bytes and is
-- steady it says only of one that ends well that it ends early, and where that tells its bytes it calls none too long.
abbrev pub IsTextRefusal : Bool → Bool → Bool → Error → Type 0
IsTextRefusal tells steady ends_well (Armor fault) = Unit {0}
IsTextRefusal tells steady ends_well OutOfMemory = Unit {0}
IsTextRefusal tells steady ends_well UnexpectedEof = IsTrue tells → IsTrue steady → IsTrue ends_well
IsTextRefusal tells steady ends_well TooLong = IsTrue tells → ⊥
IsTextRefusal tells steady ends_well _ = ⊥

-- that, or as the reader that gives the text does, whose interruptions are tried again
abbrev pub OrTextRefusal : {R : Type 0} → Ghosts R → R → Error → Type 0
OrTextRefusal read r e = IsTextRefusal (read.tells r) (read.steady r) (read.content r).ends_well e ⊎ TriedAgain read.refuses r e
