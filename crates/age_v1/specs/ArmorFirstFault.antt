-- The first fault of a text that carries nothing, by what a reader meets in it from the front.
use Rattle.std.specs.Prelude.{◌≡◌, ℕ, Bool, false, ◌≤◌, ◌<◌, List, [], ◌∷◌, ◌++◌, length, ◌⊎◌}
use Rattle.std.specs.List.{AllByRecursion, concat}
use Rattle.age_error.specs.declared.io.Error.{Error}
use Rattle.age_error.specs.declared.io.Error.TheVariants.{Armor, UnexpectedEof}
use Rattle.age_error.specs.declared.io.ArmoredReadError.{ArmoredReadError}
use Rattle.age_error.specs.declared.io.ArmoredReadError.TheVariants.{InvalidBeginMarker, TrailingGarbage}
use Rattle.age_base64.specs.Lines.{line, Lacks}
use Rattle.age_v1.specs.Armor.{begin_marker, IsEndedLine, IsSpace}
use Rattle.age_v1.specs.ArmorLineVerdict.{Refuses, Ends, Holds, IsLineVerdict, line_columns, is_short}

-- The first line of a text is all up to its first LF or, without one, to the end of input: at the end of input an empty line.
pub record IsFirstLine (text raw rest : List ℕ) : Type 0 where
  pub whole : text ≡ raw ++ rest
  pub stops : ((columns : List ℕ) × (raw ≡ line columns) × Lacks 10 columns) ⊎ (Lacks 10 raw × (rest ≡ []))

-- the line is at fault, or it is the end marker and not white space alone follows
abbrev pub IsFaultAt : Bool → List ℕ → List ℕ → ArmoredReadError → Type 0
IsFaultAt after_short raw rest e = IsLineVerdict after_short raw (Refuses e)
    ⊎ (IsLineVerdict after_short raw Ends × (AllByRecursion IsSpace rest → ⊥) × (e ≡ TrailingGarbage))

-- first good lines, which hold these pieces, and then the fault
abbrev pub IsFaultAfter : Bool → List (List ℕ) → List ℕ → ArmoredReadError → Type 0
IsFaultAfter after_short [] text e = (raw : List ℕ) × (rest : List ℕ) × IsFirstLine text raw rest × IsFaultAt after_short raw rest e
IsFaultAfter after_short (piece ∷ pieces) text e = (raw : List ℕ) × (rest : List ℕ) × IsFirstLine text raw rest
    × IsLineVerdict after_short raw (Holds piece) × IsFaultAfter (is_short (line_columns raw)) pieces rest e

-- good lines hold the bytes, and the line after them is at fault; after_short says whether a short line came before them
pub record HasBadLine (after_short : Bool) (text bytes : List ℕ) (e : Error) : Type 0 where
  pub pieces : List (List ℕ)
  pub held : bytes ≡ concat pieces
  pub fault : ArmoredReadError
  pub after : IsFaultAfter after_short pieces text fault
  pub named : e ≡ Armor fault

-- the text is long enough to be looked at, and begins with the begin marker and neither LF nor CRLF after it
pub record HasOpenMarker (text : List ℕ) : Type 0 where
  pub size : 36 ≤ length text
  pub after : List ℕ
  pub marker : text ≡ begin_marker ++ after
  pub unended : (first rest : List ℕ) → text ≡ first ++ rest → IsEndedLine begin_marker first → ⊥

-- it is long enough, and begins with the begin marker's line
pub record HasMarkerLine (text : List ℕ) : Type 0 where
  pub size : 36 ≤ length text
  pub first : List ℕ
  pub rest : List ℕ
  pub whole : text ≡ first ++ rest
  pub marker : IsEndedLine begin_marker first

-- e is the first fault of the text, and the good lines before it hold these bytes
abbrev pub IsFirstFault : List ℕ → List ℕ → Error → Type 0
IsFirstFault text bytes e = ((length text < 36) × (bytes ≡ []) × (e ≡ UnexpectedEof))
    ⊎ (HasOpenMarker text × (bytes ≡ []) × (e ≡ Armor InvalidBeginMarker))
    ⊎ ((marked : HasMarkerLine text) × HasBadLine false marked.rest bytes e)
