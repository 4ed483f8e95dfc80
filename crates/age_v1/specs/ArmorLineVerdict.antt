-- The verdict on one line of armor after the begin marker's.
use Rattle.std.specs.Prelude.{◌≡◌, ◌≢◌, ℕ, Bool, true, false, ◌==◌, ◌%◌, ◌≤◌, ◌<◌, nat_lt, ◌&&◌, ◌||◌, not, if◌then◌else◌, List, [], ◌∷◌, length, ◌⊎◌, Option, Some, None}
use Rattle.std.specs.List.{list_any, list_all}
use Rattle.std.specs.Str.{IsUtf8, is_utf8, bytes_eq}
use Rattle.base64.specs.GeneralPurpose.{decoded_of}
use Rattle.base64.specs.Engines.{standard}
use Rattle.age_error.specs.declared.io.ArmoredReadError.{ArmoredReadError}
use Rattle.age_error.specs.declared.io.ArmoredReadError.TheVariants.{Base64, InvalidBeginMarker, InvalidUtf8, LineContainsCr, MissingPadding, NotWrappedAt64Chars, ShortLineInMiddle, TrailingGarbage}
use Rattle.age_error.specs.Bytes.{AreBytes}
use Rattle.age_base64.specs.Lines.{Lacks}
use Rattle.age_base64.specs.Base64.{padded_columns}
use Rattle.age_v1.specs.Armor.{end_marker}

-- whether the last byte is c
abbrev pub last_is : ℕ → List ℕ → Bool
last_is c [] = false
last_is c (d ∷ []) = d == c
last_is c (d ∷ e ∷ xs) = last_is c (e ∷ xs)

-- all but the last byte
abbrev pub but_last : List ℕ → List ℕ
but_last [] = []
but_last (d ∷ []) = []
but_last (d ∷ e ∷ xs) = d ∷ but_last (e ∷ xs)

-- without a last byte c, if there is one
abbrev pub without_last : ℕ → List ℕ → List ℕ
without_last c xs = if last_is c xs then but_last xs else xs

-- the columns of a line: the line without its LF or CRLF, if it has one
abbrev pub line_columns : List ℕ → List ℕ
line_columns raw = if last_is 10 raw then without_last 13 (but_last raw) else raw

-- these bytes, where the columns are their base64
abbrev pub if_encoded : List ℕ → Option (List ℕ) → Option (List ℕ)
if_encoded l None = None
if_encoded l (Some bytes) = if list_all (λ b. nat_lt b 256) bytes && bytes_eq l (padded_columns bytes) then Some bytes else None

-- the bytes whose base64, with padding, the columns are, if there are any
unfoldable pub decoded : List ℕ → Option (List ℕ)
decoded l = if_encoded l (decoded_of standard l)

-- after such a line no other may hold bytes: fewer than 64 columns, or padding
abbrev pub is_short : List ℕ → Bool
is_short l = nat_lt (length l) 64 || last_is 61 l

pub data LineVerdict : Type 0 where
  Refuses : ArmoredReadError → LineVerdict
  -- the end marker
  Ends : LineVerdict
  -- a good line stands for these bytes
  Holds : List ℕ → LineVerdict

abbrev pub decoded_verdict : Option (List ℕ) → LineVerdict
decoded_verdict None = Refuses Base64
decoded_verdict (Some bytes) = Holds bytes

-- of columns that are neither the end marker nor hold a CR, after no short line
abbrev pub first_verdict : List ℕ → LineVerdict
first_verdict l =
    if not (length l % 4 == 0) then Refuses MissingPadding
    else if length l == 0 || nat_lt 64 (length l) then Refuses NotWrappedAt64Chars
    else decoded_verdict (decoded l)

-- the tests of columns in their order
abbrev pub columns_verdict : Bool → List ℕ → LineVerdict
columns_verdict after_short l =
    if list_any (λ c. c == 13) l then Refuses LineContainsCr
    else if bytes_eq l end_marker then Ends
    else if after_short then (if length l == 64 then Refuses ShortLineInMiddle else Refuses NotWrappedAt64Chars)
    else first_verdict l

-- the verdict on a line with its ending; after_short says that a short line came before
unfoldable pub verdict : Bool → List ℕ → LineVerdict
verdict after_short raw = if is_utf8 raw then columns_verdict after_short (line_columns raw) else Refuses InvalidUtf8

-- ---- the same, by what each verdict means

-- the tests before that of the end marker let it pass
abbrev pub IsClear : List ℕ → Type 0
IsClear raw = IsUtf8 raw × Lacks 13 (line_columns raw)

-- it is no end marker either, and no short line came before
abbrev pub IsFirst : Bool → List ℕ → Type 0
IsFirst after_short raw = IsClear raw × (line_columns raw ≢ end_marker) × (after_short ≡ false)

-- The first case that applies.
abbrev pub IsLineVerdict : Bool → List ℕ → LineVerdict → Type 0
IsLineVerdict after_short raw (Refuses InvalidUtf8) = ¬ (IsUtf8 raw)
IsLineVerdict after_short raw (Refuses LineContainsCr) = IsUtf8 raw × ¬ (Lacks 13 (line_columns raw))
IsLineVerdict after_short raw Ends = IsClear raw × (line_columns raw ≡ end_marker)
IsLineVerdict after_short raw (Refuses ShortLineInMiddle) =
    IsClear raw × (line_columns raw ≢ end_marker) × (after_short ≡ true) × (length (line_columns raw) ≡ 64)
IsLineVerdict after_short raw (Refuses NotWrappedAt64Chars) =
    (IsClear raw × (line_columns raw ≢ end_marker) × (after_short ≡ true) × (length (line_columns raw) ≢ 64))
    ⊎ (IsFirst after_short raw × (length (line_columns raw) % 4 ≡ 0) × ((length (line_columns raw) ≡ 0) ⊎ (64 < length (line_columns raw))))
IsLineVerdict after_short raw (Refuses MissingPadding) = IsFirst after_short raw × (length (line_columns raw) % 4 ≢ 0)
IsLineVerdict after_short raw (Refuses Base64) = IsFirst after_short raw × (length (line_columns raw) % 4 ≡ 0)
    × (0 < length (line_columns raw)) × (length (line_columns raw) ≤ 64)
    × ((bytes : List ℕ) → AreBytes bytes → line_columns raw ≢ padded_columns bytes)
IsLineVerdict after_short raw (Holds bytes) = IsFirst after_short raw × (0 < length (line_columns raw)) × (length (line_columns raw) ≤ 64)
    × AreBytes bytes × (line_columns raw ≡ padded_columns bytes)
IsLineVerdict after_short raw (Refuses InvalidBeginMarker) = ⊥
IsLineVerdict after_short raw (Refuses TrailingGarbage) = ⊥
