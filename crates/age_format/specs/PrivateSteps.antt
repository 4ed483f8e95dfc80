-- What one more byte says.
use Rattle.std.specs.Prelude.{◌≡◌, Bool, List, ℕ}
use Rattle.age_v1.specs.HeaderTexts.{IsHeaderText}
use Rattle.age_v1.specs.HeaderVerdict.{IsUnknownVersion, IsBadFront}
use Rattle.age_format.specs.declared.bytewise.Step.{Step}
use Rattle.age_format.specs.declared.bytewise.Step.TheVariants.{More, Header, UnknownVersion, Bad}

-- what the text says that ends with the byte; a reader means the text that it read, which decides nothing
abbrev pub IsStep : Bool → Step → List ℕ → Type 0
IsStep legacy (More reader) text = reader ≡ record { legacy = legacy; text = text }
IsStep legacy (Header stanzas mac read) text = (read.items ≡ text) × IsHeaderText legacy text stanzas.items mac
IsStep legacy UnknownVersion text = IsUnknownVersion text
IsStep legacy Bad text = IsBadFront legacy text
