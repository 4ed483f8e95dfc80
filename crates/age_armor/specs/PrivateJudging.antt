-- The code's verdict on a line.
use Rattle.std.specs.Prelude.{◌≡◌, ℕ, ◌≤◌, Bool, List, take}
use Rattle.age_v1.specs.ArmorLineVerdict as lines
use Rattle.age_v1.specs.ArmorLineVerdict.{LineVerdict}
use Rattle.age_armor.specs.declared.judging.Judged.{Judged}
use Rattle.age_armor.specs.declared.judging.Judged.TheVariants.{Refuses, Ends, Holds}

-- it is this verdict; the bytes of a good line stand in front of `bytes`, and it is short or not
abbrev pub IsJudged : LineVerdict → Bool → List ℕ → Judged → Type 0
IsJudged v short bytes (Refuses e) = v ≡ lines.Refuses e
IsJudged v short bytes Ends = v ≡ lines.Ends
IsJudged v short bytes (Holds n is) = (v ≡ lines.Holds (take n bytes)) × (is ≡ short) × (n ≤ 48)
