-- What a reader delivers of a text, and how it ends.
use Rattle.std.specs.Prelude.{ℕ, Bool, true, false, ◌==◌, nat_lt, nat_eq, ◌||◌, if◌then◌else◌, List, [], ◌∷◌, ◌++◌, length, drop}
use Rattle.std.specs.List.{concat, starts_with}
use Rattle.age_error.specs.declared.io.Error.{Error}
use Rattle.age_error.specs.declared.io.Error.TheVariants.{Armor, UnexpectedEof}
use Rattle.age_error.specs.declared.io.ArmoredReadError.TheVariants.{InvalidBeginMarker, NotWrappedAt64Chars, TrailingGarbage}
use Rattle.age_io.specs.Stretch.{Stretch}
use Rattle.age_v1.specs.Armor.{begin_marker}
use Rattle.age_v1.specs.ArmorLineVerdict.{LineVerdict, Refuses, Ends, Holds, verdict, line_columns, is_short, last_is}

-- how a text ends: well, by a fault of its own, or by that of the reader that gives it
pub data Ending : Type 0 where
  Clean : Ending
  Refused : Error → Ending
  InnerFault : Ending

-- the bytes before the end, and the end
pub record Outcome : Type 0 where
  pub bytes : List ℕ
  pub ending : Ending

abbrev pub ends_in : Ending → Outcome
ends_in e = record { bytes = []; ending = e }

abbrev pub outcome_after : List ℕ → Outcome → Outcome
outcome_after bytes o = record { bytes = bytes ++ o.bytes; ending = o.ending }

-- this end where the text ends well
abbrev pub at_end : Bool → Ending → Ending
at_end ends_well e = if ends_well then e else InnerFault

-- a byte before the first of these lines
abbrev pub push_front : ℕ → List (List ℕ) → List (List ℕ)
push_front c [] = (c ∷ []) ∷ []
push_front c (l ∷ ls) = (c ∷ l) ∷ ls

-- the lines of a text, each with its LF; the last one perhaps without
abbrev pub raw_lines : List ℕ → List (List ℕ)
raw_lines [] = []
raw_lines (c ∷ text) = if c == 10 then (c ∷ []) ∷ raw_lines text else push_front c (raw_lines text)

-- space, tab, LF, FF or CR
abbrev pub is_space : ℕ → Bool
is_space b = b == 32 || b == 9 || b == 10 || b == 12 || b == 13

-- the end, with this text after the end marker's line
abbrev pub trailing : List ℕ → Bool → Ending
trailing [] ends_well = at_end ends_well Clean
trailing (b ∷ text) ends_well = if is_space b then trailing text ends_well else Refused (Armor TrailingGarbage)

-- by the verdict on a line: what the lines after it deliver, or the end after the end marker
abbrev pub after_line : LineVerdict → Outcome → Ending → Outcome
after_line (Refuses e) next end = ends_in (Refused (Armor e))
after_line Ends next end = ends_in end
after_line (Holds bytes) next end = outcome_after bytes next

-- What lines after the begin marker's deliver. An input that ends before the end marker has one more line, an empty one.
abbrev pub section : Bool → List (List ℕ) → Bool → Outcome
section after_short [] ends_well = ends_in (at_end ends_well (Refused (Armor NotWrappedAt64Chars)))
section after_short (raw ∷ more) ends_well =
    if ends_well || last_is 10 raw
    then after_line (verdict after_short raw) (section (is_short (line_columns raw)) more ends_well) (trailing (concat more) ends_well)
    else ends_in InnerFault

-- what a text after the begin marker delivers
abbrev pub after_marker : List ℕ → Bool → Outcome
after_marker text ends_well =
    if starts_with nat_eq text (10 ∷ []) then section false (raw_lines (drop 1 text)) ends_well
    else if starts_with nat_eq text (13 ∷ 10 ∷ []) then section false (raw_lines (drop 2 text)) ends_well
    else ends_in (Refused (Armor InvalidBeginMarker))

-- What a text delivers; ends_well says whether a clean end follows it, or a fault of the reader that gives it.
unfoldable pub text_delivers : List ℕ → Bool → Outcome
text_delivers text ends_well =
    if nat_lt (length text) 36 then ends_in (at_end ends_well (Refused UnexpectedEof))
    else if starts_with nat_eq text begin_marker then after_marker (drop 34 text) ends_well
    else record { bytes = text; ending = at_end ends_well Clean }

-- the text begins as armor does, with the begin marker
abbrev pub begins_armor : List ℕ → Bool
begins_armor text = starts_with nat_eq text begin_marker

abbrev pub is_clean : Ending → Bool
is_clean Clean = true
is_clean _ = false

-- as a stretch of bytes that ends well or badly
abbrev pub stretch_of : Outcome → Stretch
stretch_of o = record { bytes = o.bytes; ends_well = is_clean o.ending }
