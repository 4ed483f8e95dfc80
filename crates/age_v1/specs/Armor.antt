-- Armor: the ASCII form of a file, and the texts that carry one. Under "standard" stands what age-encryption.org/v1, section
-- "ASCII armor", asks, in our words.
use Rattle.std.specs.Prelude.{List, [], codes, length, ℕ, ◌++◌, ◌/◌, ◌∷◌, ◌≡◌, ◌≢◌, ◌≤◌, ◌⊎◌}
use Rattle.age_base64.specs.Lines.{line, pieces_and_rest}
use Rattle.age_v1.specs.declared.format.Format.{Format}
use Rattle.age_v1.specs.declared.format.Format.TheVariants.{AsciiArmor, Binary}
use Rattle.age_base64.specs.Base64.{padded_columns}
use Rattle.age_error.specs.Bytes.{AreBytes}
use Rattle.std.specs.List.{AllByRecursion, flat_map}

-- the first line of an armor, without its line ending
abbrev pub begin_marker : List ℕ
begin_marker = codes "-----BEGIN AGE ENCRYPTED FILE-----"

-- the last line of an armor, without its line ending
abbrev pub end_marker : List ℕ
end_marker = codes "-----END AGE ENCRYPTED FILE-----"

-- base64 characters in lines of 64 and a last one of 1 to 64, so of n characters the first (n - 1) / 64 lines are whole; of no characters there is
-- no line (a stanza's body ends with a line of 0 to 63)
unfoldable pub armor_lines : List ℕ → List (List ℕ)
armor_lines [] = []
armor_lines (c ∷ cols) = pieces_and_rest (length cols / 64) 64 (c ∷ cols)

-- the begin marker, the base64 of the whole in lines of 64 columns, the end marker, each with LF
-- standard: the strict encoding of RFC 7468, section 3, with the label `AGE ENCRYPTED FILE`, and base64 with padding in lines of 64 columns
unfoldable pub armor : List ℕ → List ℕ
armor bytes = line begin_marker ++ (flat_map line (armor_lines (padded_columns bytes)) ++ line end_marker)

-- the line with LF or CRLF
abbrev pub IsEndedLine : List ℕ → List ℕ → Type 0
IsEndedLine l text = (text ≡ l ++ 10 ∷ []) ⊎ (text ≡ l ++ 13 ∷ 10 ∷ [])

-- the lines one after another, each with LF or CRLF
abbrev pub AreEndedLines : List (List ℕ) → List ℕ → Type 0
AreEndedLines [] text = text ≡ []
AreEndedLines (l ∷ ls) text = (first : List ℕ) × (rest : List ℕ) × (text ≡ first ++ rest) × IsEndedLine l first × AreEndedLines ls rest

-- space, tab, LF, FF or CR
abbrev pub IsSpace : ℕ → Type 0
IsSpace b = (b ≡ 32) ⊎ (b ≡ 9) ⊎ (b ≡ 10) ⊎ (b ≡ 12) ⊎ (b ≡ 13)

-- The end marker and no more; or it with LF or CRLF, and then any white space. A CR alone ends no line here, though it may stand in that white space.
-- Nothing is taken before the begin marker. The armor that is written ends with the marker and LF.
-- standard: the strict form of RFC 7468 has one line end here, LF, CRLF or CR, and nothing after it
abbrev pub IsArmorEnd : List ℕ → Type 0
IsArmorEnd text = (text ≡ end_marker)
    ⊎ ((ended : List ℕ) × (space : List ℕ) × (text ≡ ended ++ space) × IsEndedLine end_marker ended × AllByRecursion IsSpace space)

-- the lines of the armor of the bytes before the end marker, each with LF or CRLF, and then an end
pub record CarriesArmored (text bytes : List ℕ) : Type 0 where
  pub front : List ℕ
  pub end : List ℕ
  pub whole : text ≡ front ++ end
  pub lines : AreEndedLines (begin_marker ∷ armor_lines (padded_columns bytes)) front
  pub ends : IsArmorEnd end

-- The bytes themselves: at least 36, and no begin marker in front. A reader takes 36 bytes, those
-- of the marker and CRLF, to tell the two forms apart. Every file has more.
pub record CarriesBinary (text bytes : List ℕ) : Type 0 where
  pub size : 36 ≤ length text
  pub no_marker : (rest : List ℕ) → text ≢ begin_marker ++ rest
  pub same : text ≡ bytes

-- the text carries the bytes: it is an armor of them, or the bytes themselves
pub record Carries (text bytes : List ℕ) : Type 0 where
  pub each : AreBytes bytes
  pub way : CarriesArmored text bytes ⊎ CarriesBinary text bytes

-- the text in this form that carries the bytes
abbrev pub text_of : Format → List ℕ → List ℕ
text_of Binary bytes = bytes
text_of AsciiArmor bytes = armor bytes
