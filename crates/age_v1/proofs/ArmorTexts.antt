-- Armor is ASCII, so that it is a text.
use Rattle.std.proofs.Common.{◌≡◌, ℕ, zero, suc, List, [], ◌∷◌, ◌++◌, take, drop, true, nat_le, arith, refl}
use Rattle.std.proofs.lemmas.Bool.{and_parts, leb-true}
use Rattle.std.proofs.lemmas.Str.{IsAscii-append, IsAscii-take, IsAscii-drop, IsUtf8-from_ascii}
use Rattle.std.proofs.lemmas.Str.Ascii.{IsAscii-cons}
use Rattle.std.specs.List.{flat_map, list_all}
use Rattle.std.specs.Str.{IsAscii, IsUtf8}
use Rattle.age_base64.specs.Lines.{line, pieces_and_rest}
use Rattle.age_base64.specs.Base64.{padded_columns}
use Rattle.age_base64.proofs.PaddedColumns.{IsAscii-padded_columns}
use Rattle.age_v1.specs.Armor.{armor, armor_lines, begin_marker, end_marker}

-- by a test
ascii_tested : (xs : List ℕ) → list_all (λ b. nat_le b 127) xs ≡ true → IsAscii xs
ascii_tested [] h = λ i. omega arith
ascii_tested (b ∷ bs) h =
    let both = and_parts (nat_le b 127) (list_all (λ c. nat_le c 127) bs) h in
    IsAscii-cons b bs (omega (arith, leb-true b 127 both.0)) (ascii_tested bs both.1)

ascii_line : (xs : List ℕ) → IsAscii xs → IsAscii (line xs)
ascii_line xs h = IsAscii-append xs (10 ∷ []) h (ascii_tested (10 ∷ []) refl)

ascii_pieces : (count n : ℕ) (xs : List ℕ) → IsAscii xs → IsAscii (flat_map line (pieces_and_rest count n xs))
unfolding pieces_and_rest
ascii_pieces zero n xs h = IsAscii-append (line xs) [] (ascii_line xs h) (ascii_tested [] refl)
ascii_pieces (suc count) n xs h =
    IsAscii-append (line (take n xs)) (flat_map line (pieces_and_rest count n (drop n xs)))
    (ascii_line (take n xs) (IsAscii-take xs n h)) (ascii_pieces count n (drop n xs) (IsAscii-drop xs n h))

ascii_lines : (xs : List ℕ) → IsAscii xs → IsAscii (flat_map line (armor_lines xs))
unfolding armor_lines
ascii_lines [] h = ascii_tested [] refl
ascii_lines (c ∷ cols) h = ascii_pieces _ 64 (c ∷ cols) h

ascii_armor : (bytes : List ℕ) → IsAscii (armor bytes)
unfolding armor
ascii_armor bytes =
    let lines = flat_map line (armor_lines (padded_columns bytes)) in
    IsAscii-append (line begin_marker) (lines ++ line end_marker) (ascii_line begin_marker (ascii_tested begin_marker refl))
    (IsAscii-append lines (line end_marker) (ascii_lines (padded_columns bytes) (IsAscii-padded_columns bytes))
    (ascii_line end_marker (ascii_tested end_marker refl)))

pub armor_utf8 : (bytes : List ℕ) → IsUtf8 (armor bytes)
armor_utf8 bytes = IsUtf8-from_ascii (armor bytes) (ascii_armor bytes)
