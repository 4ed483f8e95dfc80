-- Why reading a text refuses.
use Rattle.std.specs.Prelude.{◌≡◌, ◌⊎◌, Bool, IsTrue}
use Rattle.age_error.specs.declared.io.Error.{Error}
use Rattle.age_error.specs.declared.io.Error.TheVariants.{UnexpectedEof, TooLong, Armor, OutOfMemory}
use Rattle.age_io.specs.Reading.{TriedAgain}
use Rattle.age_io.specs.declared.traits.Read.{Ghosts}
use Rattle.age_v1.specs.DeliveredArmor.{Ending, Outcome, Refused, ends_in}
use Rattle.age_armor.specs.Seeking.{text_outcome}

-- What it refuses with of itself, where its text ends so: for want of memory, or with a fault of the text. Where the reader that gives the text
-- tells its bytes and is steady, that is the fault in which the text ends, and where that tells its bytes it calls none too long.
abbrev pub IsOwnRefusal : Bool → Bool → Ending → Error → Type 0
IsOwnRefusal tells steady ending (Armor fault) = IsTrue tells → IsTrue steady → ending ≡ Refused (Armor fault)
IsOwnRefusal tells steady ending OutOfMemory = Unit {0}
IsOwnRefusal tells steady ending UnexpectedEof = IsTrue tells → IsTrue steady → ending ≡ Refused UnexpectedEof
IsOwnRefusal tells steady ending TooLong = IsTrue tells → ⊥
IsOwnRefusal tells steady ending _ = ⊥

-- that of the text that begins where the reader that gives it stands in its content, or as that reader does, whose interruptions are tried again
abbrev pub OrText : {R : Type 0} → Ghosts R → R → Error → Type 0
OrText read r e = IsOwnRefusal (read.tells r) (read.steady r) (text_outcome (read.content r) (read.place r)).ending e ⊎ TriedAgain read.refuses r e

-- for want of memory, or as the reader that gives the text does
abbrev pub OrWant : {R : Type 0} → Ghosts R → R → Error → Type 0
OrWant read r e = (e ≡ OutOfMemory) ⊎ TriedAgain read.refuses r e

-- Why it refuses where this is left of the text, whether or not the device failed: for want of memory, as the reader that gives the text does,
-- or since nothing is left but the end that has this error.
abbrev pub OrEnd : {R : Type 0} → Ghosts R → R → Outcome → Error → Type 0
OrEnd read r left e = (e ≡ OutOfMemory) ⊎ (left ≡ ends_in (Refused e)) ⊎ TriedAgain read.refuses r e
