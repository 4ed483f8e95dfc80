-- The text of a header: age-encryption.org/v1, section "Header". Under "standard" stands what it asks, in our words.
use Rattle.std.specs.Prelude.{List, [], codes, length, ℕ, ◌++◌, ◌≡◌, ◌≢◌, ◌⊎◌}
use Rattle.std.specs.List.{AllByRecursion, flat_map}
use Rattle.age_error.specs.Bytes.{AreBytesOf}
use Rattle.age_base64.specs.Lines.{line}
use Rattle.age_base64.specs.Base64.{columns}
use Rattle.age_v1.specs.Stanza.{IsStanza, StanzaValue, stanza_text}

-- the first line of a header
-- standard: the version of this format is v1
abbrev pub version_line : List ℕ
version_line = codes "age-encryption.org/v1"

-- the last line of a header
-- standard: it is `---`, a space, and the base64 of the MAC, without padding: 43 characters for 32 bytes
unfoldable pub mac_line : List ℕ → List ℕ
mac_line mac = codes "--- " ++ columns mac

-- what the MAC covers: the beginning of the canonical text up to and with `---`, without the space after it
unfoldable pub covered_text : List StanzaValue → List ℕ
covered_text stanzas = line version_line ++ (flat_map stanza_text stanzas ++ codes "---")

-- the one canonical text: the version line, the stanzas in order, and the line of the MAC
unfoldable pub header_text : List StanzaValue → List ℕ → List ℕ
header_text stanzas mac = line version_line ++ (flat_map stanza_text stanzas ++ line (mac_line mac))

-- what can stand in a header: one or more stanzas, and a MAC of 32 bytes
-- standard: a header has one or more stanzas
pub record IsHeader (stanzas : List StanzaValue) (mac : List ℕ) : Type 0 where
  pub each : AllByRecursion IsStanza stanzas
  pub some : stanzas ≢ []
  pub is_mac : AreBytesOf 32 mac

-- a stanza with the tag scrypt is the only one
-- standard: section "The scrypt recipient type": a stanza of that type must be the only one of its header
abbrev pub KeepsScryptRule : List StanzaValue → Type 0
KeepsScryptRule stanzas = AllByRecursion (λ s. s.tag ≢ codes "scrypt") stanzas ⊎ (length stanzas ≡ 1)
