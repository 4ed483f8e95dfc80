-- Recipient stanzas: age-encryption.org/v1, sections "Conventions used in this document" and "Recipient stanza". Under "standard" stands
-- what they ask, in our words.
use Rattle.std.specs.Prelude.{Bool, List, [], codes, length, nat_le, nat_lt, ℕ, ◌&&◌, ◌++◌, ◌/◌, ◌∷◌, ◌≢◌, ◌≤◌}
use Rattle.std.specs.List.{AllByRecursion, flat_map, join_with_byte, list_all}
use Rattle.age_error.specs.Bytes.{AreBytes}
use Rattle.age_base64.specs.Lines.{line, pieces_and_rest}
use Rattle.age_base64.specs.Base64.{columns}

-- a printable byte that is no space
-- standard: VCHAR of RFC 5234
abbrev pub IsGraphic : ℕ → Type 0
IsGraphic b = (33 ≤ b) × (b ≤ 126)

-- a string of the format: one or more bytes of 33 to 126
-- standard: an arbitrary string is one or more ASCII characters of values 33 to 126
abbrev pub IsString : List ℕ → Type 0
IsString s = (s ≢ []) × AllByRecursion IsGraphic s

-- whether a byte is one of 33 to 126
abbrev pub is_graphic : ℕ → Bool
is_graphic b = nat_le 33 b && nat_le b 126

-- whether a list is a string of the format: `IsString` as a test
abbrev pub is_string_of : List ℕ → Bool
is_string_of s = nat_lt 0 (length s) && list_all is_graphic s

-- what a stanza says
-- standard: a type, which is called its tag here, arguments, and a body of bytes
pub record StanzaValue : Type 0 where
  pub tag : List ℕ
  pub args : List (List ℕ)
  pub body : List ℕ

-- a tag and arguments that are strings, and a body of bytes
-- standard: the type and each argument is an arbitrary string; there may be no argument, and the body may be empty
pub record IsStanza (s : StanzaValue) : Type 0 where
  pub tag : IsString s.tag
  pub args : AllByRecursion IsString s.args
  pub body : AreBytes s.body

-- the arrow, then the tag and the arguments with one space between two
-- standard: the first line is `->`, a space, and one or more strings that are separated by single spaces
unfoldable pub first_line : StanzaValue → List ℕ
first_line s = codes "-> " ++ join_with_byte 32 (s.tag ∷ s.args)

-- the base64 of the body, without padding: whole lines of 64 characters, and a final one of 0 to 63, each with LF
-- standard: the base64 of the body is wrapped at exactly 64 columns; the last line is shorter than 64, possibly empty
unfoldable pub body_text : List ℕ → List ℕ
body_text body = flat_map line (pieces_and_rest (length (columns body) / 64) 64 (columns body))

-- the canonical text of a stanza: its first line, then the lines of its body
-- standard: a stanza is its first line, whole lines of the body, and its final line
unfoldable pub stanza_text : StanzaValue → List ℕ
stanza_text s = line (first_line s) ++ body_text s.body
