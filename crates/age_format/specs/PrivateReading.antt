-- What the private steps of the machine that reads headers say.
use Rattle.std.specs.Prelude.{Bool, List, ℕ, ◌++◌}
use Rattle.age_base64.specs.Lines.{line}
use Rattle.age_v1.specs.HeaderTexts.{IsHeaderText}
use Rattle.age_v1.specs.Stanza.{StanzaValue}
use Rattle.age_v1.specs.HeaderVerdict.{EndsInBadLine, IsUnknownVersion}
use Rattle.age_format.specs.declared.state.State.{State}
use Rattle.age_format.specs.declared.state.Judged.{Judged}
use Rattle.age_format.specs.declared.state.Judged.TheVariants.{Allowed, Bad, Header, UnknownVersion}
use Rattle.age_format.specs.Reading.{IsAt, MakesHeader, WasRead}

-- the same, before the line next
pub record StandsBeforeLine (legacy : Bool) (state : State) (next text : List ℕ) : Type 0 where
  pub read : WasRead legacy state text
  pub goes : (more : List ℕ) (stanzas : List StanzaValue) (mac : List ℕ) → IsHeaderText legacy (text ++ (line next ++ more)) stanzas mac
      → MakesHeader legacy state (line next ++ more) stanzas mac

-- what the text says that ends with the judged line
abbrev pub IsJudged : Bool → Judged → List ℕ → Type 0
IsJudged legacy (Allowed state) text = IsAt legacy state text
IsJudged legacy Bad text = EndsInBadLine legacy text
IsJudged legacy UnknownVersion text = IsUnknownVersion text
IsJudged legacy (Header stanzas mac) text = IsHeaderText legacy text stanzas.items mac
