-- Where a reader of a header stands between two lines.
use Rattle.std.specs.Prelude.{Bool, List, [], ℕ, ◌++◌, ◌∷◌, ◌≡◌, ◌≢◌}
use Rattle.age_error.specs.Bytes.{AreBytesOf}
use Rattle.age_base64.specs.Lines.{line}
use Rattle.age_v1.specs.HeaderTexts.{AreStanzaTexts, IsBody, IsHeaderText, grown}
use Rattle.age_v1.specs.Stanza.{IsStanza, StanzaValue, first_line}
use Rattle.age_v1.specs.Header.{mac_line, version_line}
use Rattle.age_format.specs.declared.state.State.{State}
use Rattle.age_format.specs.declared.state.State.TheVariants.{AfterBody, Body, FirstStanza, Version}

-- texts of stanzas, and the line of a MAC
pub record IsTail (legacy : Bool) (text : List ℕ) (stanzas : List StanzaValue) (mac : List ℕ) : Type 0 where
  pub middle : List ℕ
  pub texts : AreStanzaTexts legacy middle stanzas
  pub is_mac : AreBytesOf 32 mac
  pub spelled : text ≡ middle ++ line (mac_line mac)

-- the rest of a body, and a tail: the stanza s is known so far
pub record IsBodyAndTail (legacy : Bool) (s : StanzaValue) (more : List ℕ) (done stanzas : List StanzaValue) (mac : List ℕ) : Type 0 where
  pub rest : List ℕ
  pub others : List StanzaValue
  pub count : ℕ
  pub text : List ℕ
  pub after : List ℕ
  pub lines : IsBody legacy count text rest
  pub tail : IsTail legacy after others mac
  pub whole : more ≡ text ++ after
  pub stanza : IsStanza (grown s rest)
  pub told : stanzas ≡ done ++ grown s rest ∷ others

-- what follows makes a header of these stanzas and this MAC
abbrev pub MakesHeader : Bool → State → List ℕ → List StanzaValue → List ℕ → Type 0
MakesHeader legacy Version more stanzas mac = IsHeaderText legacy more stanzas mac
MakesHeader legacy FirstStanza more stanzas mac = (stanzas ≢ []) × IsTail legacy more stanzas mac
MakesHeader legacy (Body done s) more stanzas mac = IsBodyAndTail legacy s more done.items stanzas mac
MakesHeader legacy (AfterBody done) more stanzas mac = (others : List StanzaValue) × (stanzas ≡ done.items ++ others) × IsTail legacy more others mac

-- what was read so far: texts of stanzas, the first line of s, and whole lines for its body
pub record IsInBody (legacy : Bool) (s : StanzaValue) (text : List ℕ) (done : List StanzaValue) : Type 0 where
  pub middle : List ℕ
  pub whole : List ℕ
  pub texts : AreStanzaTexts legacy middle done
  pub stanza : IsStanza s
  pub grows : (x b : List ℕ) (k : ℕ) → IsBody legacy k x b → (l : ℕ) × IsBody legacy l (whole ++ x) (s.body ++ b)
  pub spelled : text ≡ line version_line ++ (middle ++ (line (first_line s) ++ whole))

abbrev pub WasRead : Bool → State → List ℕ → Type 0
WasRead legacy Version text = text ≡ []
WasRead legacy FirstStanza text = text ≡ line version_line
WasRead legacy (Body done s) text = IsInBody legacy s text done.items
WasRead legacy (AfterBody done) text = (middle : List ℕ) × (done.items ≢ []) × AreStanzaTexts legacy middle done.items
    × (text ≡ line version_line ++ middle)

-- after the text the reader is in this state
pub record IsAt (legacy : Bool) (state : State) (text : List ℕ) : Type 0 where
  pub read : WasRead legacy state text
  pub goes : (more : List ℕ) (stanzas : List StanzaValue) (mac : List ℕ) → IsHeaderText legacy (text ++ more) stanzas mac
      → MakesHeader legacy state more stanzas mac
