-- An identity file: the lines of its text, each ended by LF or CRLF, the last one perhaps by the end of the input.
use Rattle.std.specs.Prelude.{◌≡◌, ◌⊎◌, ℕ, ◌+◌, IsTrue, List, [], ◌∷◌, ◌++◌, length}
use Rattle.std.specs.Str.Lines.{lines}
use Rattle.age_base64.specs.Lines.{line, Lacks}
use Rattle.age_io.specs.Stretch.{Stretch}
use Rattle.age_identity.specs.Entries.{Entry, AreEntries, IsBadLine}

-- the text ends with a line feed, or is empty
abbrev pub IsEnded : List ℕ → Type 0
IsEnded text = (text ≡ []) ⊎ ((before : List ℕ) × (text ≡ line before))

-- no line of the text that a line feed ends is bad
pub record HasGoodLines (text : List ℕ) : Type 0 where
  pub done : List ℕ
  pub last : List ℕ
  pub parts : text ≡ done ++ last
  pub ended : IsEnded done
  pub lacks : Lacks 10 last
  pub entries : List Entry
  pub good : AreEntries (lines done) entries

-- the last line of the text is bad, the one of this number, counted from 1, and none before it is
pub record EndsInBad (text : List ℕ) (number : ℕ) : Type 0 where
  pub before : List (List ℕ)
  pub entries : List Entry
  pub good : AreEntries before entries
  pub last : List ℕ
  pub bad : IsBadLine last
  pub all : lines text ≡ before ++ last ∷ []
  pub counted : number ≡ length before + 1

-- the first bad line of what a reader delivers is that of this number: a line feed or a clean end stands behind it
pub record IsFirstBad (rest : Stretch) (number : ℕ) : Type 0 where
  pub front : List ℕ
  pub more : List ℕ
  pub whole : rest.bytes ≡ front ++ more
  pub finished : IsEnded front ⊎ ((more ≡ []) × IsTrue rest.ends_well)
  pub ends : EndsInBad front number

-- all that a reader delivers is an identity file of these entries
pub record IsIdentityFileOf (rest : Stretch) (entries : List Entry) : Type 0 where
  pub well : IsTrue rest.ends_well
  pub good : AreEntries (lines rest.bytes) entries
