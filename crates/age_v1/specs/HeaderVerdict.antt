-- What the shortest deciding front of an input says. age-encryption.org/v1, section "Header", says which texts are headers;
-- what comes earliest that no header goes on from is refused at once, so that nothing past it is taken.
use Rattle.std.specs.Prelude.{◌≡◌, ◌≢◌, ℕ, ◌<◌, ◌≤◌, Bool, List, [], ◌∷◌, ◌++◌, length, slice_index, codes, ◌⊎◌}
use Rattle.age_base64.specs.Lines.{line}
use Rattle.age_v1.specs.Stanza.{IsString, StanzaValue}
use Rattle.age_v1.specs.HeaderTexts.{magic, IsHeaderText}

-- another string than v1 stands where the version is told
-- standard: the version line ends with an arbitrary string, its version; this document is about v1
pub record IsUnknownVersion (text : List ℕ) : Type 0 where
  pub version : List ℕ
  pub string : IsString version
  pub other : version ≢ codes "v1"
  pub spelled : text ≡ line (magic ++ version)

-- its last byte departs from the magic at its place
-- standard: each version line begins with the magic
abbrev pub DepartsFromMagic : List ℕ → Type 0
DepartsFromMagic text = (before : List ℕ) × (b : ℕ) × (text ≡ before ++ b ∷ [])
    × (length before < length magic) × (b ≢ slice_index magic (length before))

-- its last byte, after the magic, is neither a line feed nor 32 to 126
-- standard: a header is made of strings, single spaces and line feeds; a CR stands nowhere
abbrev pub EndsUnprintable : List ℕ → Type 0
EndsUnprintable text = (before : List ℕ) × (b : ℕ) × (text ≡ before ++ b ∷ [])
    × (length magic ≤ length before) × (b ≢ 10) × ((b < 32) ⊎ (126 < b))

-- it ends with a finished line that its place doesn't allow: no header goes on from there
pub record EndsInBadLine (legacy : Bool) (text : List ℕ) : Type 0 where
  pub finished : (before : List ℕ) × (text ≡ line before)
  pub hopeless : (more : List ℕ) (stanzas : List StanzaValue) (mac : List ℕ) → IsHeaderText legacy (text ++ more) stanzas mac → ⊥
  pub known : IsUnknownVersion text → ⊥

-- a front that no header and no unknown version begins with, and that is told at its last byte
abbrev pub IsBadFront : Bool → List ℕ → Type 0
IsBadFront legacy text = DepartsFromMagic text ⊎ EndsUnprintable text ⊎ EndsInBadLine legacy text

pub data Verdict : Type 0 where
  -- these stanzas and this MAC
  Header : List StanzaValue → List ℕ → Verdict
  UnknownVersion : Verdict
  Bad : Verdict

-- what a front decides by itself
abbrev pub FrontDecides : Bool → List ℕ → Verdict → Type 0
FrontDecides legacy front (Header stanzas mac) = IsHeaderText legacy front stanzas mac
FrontDecides legacy front UnknownVersion = IsUnknownVersion front
FrontDecides legacy front Bad = IsBadFront legacy front

-- no front of the text decides, itself among them
abbrev pub IsUndecided : Bool → List ℕ → Type 0
IsUndecided legacy text = (front more : List ℕ) (v : Verdict) → text ≡ front ++ more → FrontDecides legacy front v → ⊥

-- the shortest front of the input that decides, and what it says
pub record IsVerdict (legacy : Bool) (input front : List ℕ) (v : Verdict) : Type 0 where
  pub more : List ℕ
  pub whole : input ≡ front ++ more
  pub decides : FrontDecides legacy front v
  pub shortest : (shorter : List ℕ) (b : ℕ) (rest : List ℕ) (w : Verdict) → front ≡ shorter ++ b ∷ rest → FrontDecides legacy shorter w → ⊥
