-- A reader of an identity file that takes one byte after another.
use Rattle.std.specs.Prelude.{◌≡◌, ◌≢◌, ◌⊎◌, ℕ, ◌≤◌, Bool, true, false, List, ◌∷◌, ◌++◌, length, map}
use Rattle.std.specs.Str.Lines.{lines, strip_carriage_return}
use Rattle.age_error.specs.declared.io.Error.{Error}
use Rattle.age_error.specs.declared.io.Error.TheVariants.{OutOfMemory, NotIdentity}
use Rattle.age_base64.specs.Lines.{Lacks}
use Rattle.age_identity.specs.Entries.{AreEntries, entry_of}
use Rattle.age_identity.specs.Files.{IsEnded, EndsInBad}
use Rattle.age_identity.specs.Comments.{HasChecked}
use Rattle.age_identity.specs.declared.line.Line.{Line}
use Rattle.age_identity.specs.declared.line.Line.TheVariants.{Kept, Comment}
use Rattle.age_identity.specs.declared.parser.Parser.{Parser}

-- what is kept of a line so far: its bytes, or of a comment whether it is UTF-8
abbrev pub IsLine : Line → List ℕ → Type 0
IsLine (Kept bytes) last = (bytes.items ≡ last) × ((rest : List ℕ) → last ≢ 35 ∷ rest)
IsLine (Comment check) last = ((rest : List ℕ) × (last ≡ 35 ∷ rest)) × HasChecked check.pending check.count last

-- a line without what ends it: where a line feed does, a carriage return before that too
abbrev pub without_end : Bool → List ℕ → List ℕ
without_end true last = strip_carriage_return last
without_end false last = last

-- the text was read, and no line of it is bad that a line feed ends
pub record IsAt {S : Type 0} (p : Parser S) (text : List ℕ) : Type 0 where
  pub done : List ℕ
  pub last : List ℕ
  pub parts : text ≡ done ++ last
  pub ended : IsEnded done
  pub lacks : Lacks 10 last
  pub good : AreEntries (lines done) (map entry_of p.entries.items)
  pub counted : p.finished ≡ length (lines done)
  pub few : p.finished ≤ length done
  pub kept : IsLine p.line last

-- why reading ends with the text: its last line is bad, or memory was refused
abbrev pub RefusesLastLine : Error → List ℕ → Type 0
RefusesLastLine e text = (e ≡ OutOfMemory) ⊎ ((number : ℕ) × (e ≡ NotIdentity number) × EndsInBad text number)

-- why reading ends at the end of a line: the line is bad, or memory was refused
abbrev pub RefusesLine : Error → List ℕ → Type 0
RefusesLine e text = (e ≡ OutOfMemory) ⊎ ((number : ℕ) × (e ≡ NotIdentity number) × IsEnded text × EndsInBad text number)
