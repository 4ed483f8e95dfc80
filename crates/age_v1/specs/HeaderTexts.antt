-- The texts of stanzas and headers that are read: the canonical ones of age-encryption.org/v1, and where `legacy` is true those too in which
-- the body of a stanza has the legacy form, which files from before the standard have.
use Rattle.std.specs.Prelude.{Bool, List, [], codes, false, length, nat_eq, suc, take, true, zero, ℕ, ◌%◌, ◌++◌, ◌-◌, ◌<◌, ◌∷◌, ◌≡◌, ◌≢◌, ◌⊎◌}
use Rattle.age_error.specs.Bytes.{AreBytesOf}
use Rattle.age_base64.specs.Lines.{line}
use Rattle.age_base64.specs.Base64.{columns}
use Rattle.age_v1.specs.Stanza.{IsStanza, StanzaValue, stanza_text}
use Rattle.age_v1.specs.Header.{mac_line, version_line}
use Rattle.std.specs.Cmp.Lexicographic.{pointwise}
use Rattle.std.specs.Ordering.{eq_of_both, on}

-- whether two stanzas have the same tag, arguments and body
abbrev pub stanza_eq : StanzaValue → StanzaValue → Bool
stanza_eq = eq_of_both (eq_of_both (on (λ s. s.tag) (pointwise nat_eq)) (on (λ s. s.args) (pointwise (pointwise nat_eq))))
    (on (λ s. s.body) (pointwise nat_eq))

-- a tag of stanzas that mean nothing
abbrev pub IsGreaseTag : List ℕ → Type 0
IsGreaseTag tag = (front : List ℕ) × (tag ≡ front ++ codes "-grease")

-- the legacy form: the final line of the body is left out where it would be empty
-- standard: none; files of early implementations have it
abbrev pub IsLegacyText : List ℕ → StanzaValue → Type 0
IsLegacyText text s = (length (columns s.body) % 64 ≡ 0) × (line text ≡ stanza_text s)

-- Which texts of a stanza are meant: the canonical one alone, or the legacy form too, as in files from before the standard.
abbrev pub canonical : Bool
canonical = false

abbrev pub or_legacy : Bool
or_legacy = true

-- text is a text of the stanza
-- standard: the canonical text and no other
pub record IsStanzaText (legacy : Bool) (text : List ℕ) (s : StanzaValue) : Type 0 where
  pub stanza : IsStanza s
  pub spelled : (text ≡ stanza_text s) ⊎ ((legacy ≡ true) × IsLegacyText text s)

-- the stanza with more bytes in its body
abbrev pub grown : StanzaValue → List ℕ → StanzaValue
grown s bytes = record { tag = s.tag; args = s.args; body = s.body ++ bytes }

-- the beginning of each file, whatever its version
-- standard: the version line begins with it, and a version follows
abbrev pub magic : List ℕ
magic = codes "age-encryption.org/"

-- text is texts of the stanzas, one after another
abbrev pub AreStanzaTexts : Bool → List ℕ → List StanzaValue → Type 0
AreStanzaTexts legacy text [] = text ≡ []
AreStanzaTexts legacy text (s ∷ stanzas) = (first : List ℕ) × (rest : List ℕ) × (text ≡ first ++ rest)
    × IsStanzaText legacy first s × AreStanzaTexts legacy rest stanzas

-- text is the version's line, the texts of one or more stanzas, and the line of the MAC
-- standard: a header is a version line, one or more stanzas, and the line of the MAC
pub record IsHeaderText (legacy : Bool) (text : List ℕ) (stanzas : List StanzaValue) (mac : List ℕ) : Type 0 where
  pub middle : List ℕ
  pub texts : AreStanzaTexts legacy middle stanzas
  pub some : stanzas ≢ []
  pub is_mac : AreBytesOf 32 mac
  pub spelled : text ≡ line version_line ++ (middle ++ line (mac_line mac))

-- the front of a header's text that the MAC covers: all but the last 45 bytes, a space, 43 columns and LF
-- standard: the MAC is over the header up to and with `---`, without the space after it
abbrev pub covered : List ℕ → List ℕ
covered text = take (length text - 45) text

-- the text of a body by lines: so many of 48 bytes, and a last one, which the legacy form leaves out where it is empty
abbrev pub IsBody : Bool → ℕ → List ℕ → List ℕ → Type 0
IsBody legacy zero x b = (length b < 48) × ((x ≡ line (columns b)) ⊎ ((legacy ≡ true) × (b ≡ []) × (x ≡ [])))
IsBody legacy (suc k) x b = (p : List ℕ) × (c : List ℕ) × (y : List ℕ) × (length p ≡ 48) × (b ≡ p ++ c) × (x ≡ line (columns p) ++ y)
    × IsBody legacy k y c
