-- The form of a file, as a C caller says it.
use Rattle.std.specs.Prelude.{Bool, true, false}
use Rattle.age.specs.FormatVariants.{Binary, AsciiArmor}
use Rattle.age.specs.Types.{Format}

-- armor where it is asked for
abbrev pub form : Bool → Format
form true = AsciiArmor
form false = Binary
