-- What the code says of a line.
use Rattle.std.specs.Prelude.{ℕ, List}
use Rattle.age_identity.specs.Entries.{IsPassedOver, IsEntry, IsBadLine, entry_of}
use Rattle.age_identity.specs.declared.judging.Judged.{Judged}
use Rattle.age_identity.specs.declared.judging.Judged.TheVariants.{Passed, Found, Bad}

abbrev pub IsJudged : {S : Type 0} → Judged S → List ℕ → Type 0
IsJudged Passed line = IsPassedOver line
IsJudged (Found entry) line = IsEntry line (entry_of entry)
IsJudged Bad line = IsBadLine line
