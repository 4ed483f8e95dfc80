-- The lines of armor, and their length.
use Rattle.std.proofs.Common.{◌≡◌, ℕ, zero, suc, ◌+◌, ◌*◌, ◌/◌, ◌<◌, ◌≤◌, List, [], ◌∷◌, ◌++◌, length, take, drop, refl, ap, sym, arith, append_assoc, ◌∙◌, length-drop}
use Rattle.std.proofs.lemmas.List.{append-nil, length-append, nil_from_length, take-append-drop}
use Rattle.std.specs.List.{flat_map}
use Rattle.age_base64.specs.Lines.{line, pieces_and_rest}
use Rattle.age_base64.specs.Base64.{padded_columns}
use Rattle.age_base64.proofs.PaddedColumns.{length-padded_columns}
use Rattle.age_v1.specs.Armor.{armor_lines, armor, begin_marker, end_marker}

pub armor_lines_short : (xs : List ℕ) → 0 < length xs → length xs ≤ 64 → armor_lines xs ≡ xs ∷ []
unfolding armor_lines pieces_and_rest
armor_lines_short [] some small = absurd (omega arith)
armor_lines_short (c ∷ cols) some small =
    let none : length cols / 64 ≡ 0 = omega arith in
    ap (λ n. pieces_and_rest n 64 (c ∷ cols)) none

pub armor_lines_long : (xs : List ℕ) → 64 < length xs → armor_lines xs ≡ take 64 xs ∷ armor_lines (drop 64 xs)
unfolding armor_lines pieces_and_rest
armor_lines_long [] long = absurd (omega arith)
armor_lines_long (c ∷ cols) long = next (drop 64 (c ∷ cols)) refl
  where
    next : (rest : List ℕ) → drop 64 (c ∷ cols) ≡ rest → pieces_and_rest (length cols / 64) 64 (c ∷ cols) ≡ take 64 (c ∷ cols) ∷ armor_lines rest
    next [] e = absurd (omega (arith, ap length e, length-drop 64 (c ∷ cols)))
    next (d ∷ ds) e =
        let count : length cols / 64 ≡ suc (length ds / 64) = omega (arith, ap length e, length-drop 64 (c ∷ cols)) in
        ap (λ n. pieces_and_rest n 64 (c ∷ cols)) count ∙ ap (λ r. take 64 (c ∷ cols) ∷ pieces_and_rest (length ds / 64) 64 r) e

pub armor_step : (before after rest p m whole : List ℕ) → before ++ flat_map line (armor_lines rest) ≡ whole → after ≡ before ++ line p
    → p ≡ take 64 rest → m ≡ drop 64 rest → 64 < length rest → after ++ flat_map line (armor_lines m) ≡ whole
armor_step before after rest p m whole h a ep em long =
    ap (λ x. x ++ flat_map line (armor_lines m)) a ∙ append_assoc before (line p) (flat_map line (armor_lines m))
    ∙ ap (λ x. before ++ (line x ++ flat_map line (armor_lines m))) ep ∙ ap (λ x. before ++ (line (take 64 rest) ++ flat_map line (armor_lines x))) em
    ∙ ap (λ x. before ++ flat_map line x) (sym (armor_lines_long rest long)) ∙ h

pub armor_end : (before after rest whole : List ℕ) → before ++ flat_map line (armor_lines rest) ≡ whole → 0 < length rest → length rest ≤ 64
    → after ≡ before ++ line rest → after ≡ whole
armor_end before after rest whole h some small a =
    a ∙ ap (λ x. before ++ x) (sym (append-nil (line rest))) ∙ ap (λ x. before ++ flat_map line x) (sym (armor_lines_short rest some small)) ∙ h

pub armor_over : (before rest whole : List ℕ) → before ++ flat_map line (armor_lines rest) ≡ whole → length rest ≡ 0 → before ≡ whole
unfolding armor_lines
armor_over before rest whole h none = sym (append-nil before)
    ∙ ap (λ x. before ++ flat_map line (armor_lines x)) (sym (nil_from_length rest none)) ∙ h

pub armor_written : (bytes cols start first middle last : List ℕ) → start ≡ [] → cols ≡ padded_columns bytes → first ≡ start ++ line begin_marker
    → middle ≡ first ++ flat_map line (armor_lines cols) → last ≡ middle ++ line end_marker → last ≡ armor bytes
unfolding armor
armor_written bytes cols start first middle last es ec ef em el =
    el ∙ ap (λ x. x ++ line end_marker) (em ∙ ap (λ x. x ++ flat_map line (armor_lines cols)) (ef ∙ ap (λ x. x ++ line begin_marker) es))
    ∙ append_assoc (line begin_marker) (flat_map line (armor_lines cols)) (line end_marker)
    ∙ ap (λ x. line begin_marker ++ (flat_map line (armor_lines x) ++ line end_marker)) ec

-- ---- its length

length_line : (l : List ℕ) → length (line l) ≡ length l + 1
length_line l = length-append l (10 ∷ [])

length_pieces : (count n : ℕ) (xs : List ℕ) → length (flat_map line (pieces_and_rest count n xs)) ≡ length xs + suc count
unfolding pieces_and_rest
length_pieces zero n xs = ap length (append-nil (line xs)) ∙ length_line xs
length_pieces (suc count) n xs =
    let whole : length (line (take n xs) ++ flat_map line (pieces_and_rest count n (drop n xs)))
    ≡ length (line (take n xs)) + length (flat_map line (pieces_and_rest count n (drop n xs))) =
    length-append (line (take n xs)) (flat_map line (pieces_and_rest count n (drop n xs))) in
    let parts : length (take n xs) + length (drop n xs) ≡ length xs =
    sym (length-append (take n xs) (drop n xs)) ∙ ap length (take-append-drop n xs) in
    let rest : length (flat_map line (pieces_and_rest count n (drop n xs))) ≡ length (drop n xs) + suc count = length_pieces count n (drop n xs) in
    whole ∙ omega (arith, length_line (take n xs), parts, rest)

length_lines : (xs : List ℕ) → length (flat_map line (armor_lines xs)) ≡ length xs + (length xs + 63) / 64
unfolding armor_lines
length_lines [] = refl
length_lines (c ∷ cols) =
    let lines : length (flat_map line (pieces_and_rest (length cols / 64) 64 (c ∷ cols))) ≡ suc (length cols) + suc (length cols / 64) =
    length_pieces (length cols / 64) 64 (c ∷ cols) in
    lines ∙ omega arith

pub length_armor : (bytes : List ℕ) → length (armor bytes) ≡ 68 + 4 * ((length bytes + 2) / 3) + (length bytes + 47) / 48
unfolding armor
length_armor bytes =
    let lines = flat_map line (armor_lines (padded_columns bytes)) in
    let front : length (line begin_marker) ≡ 35 = refl in
    let end : length (line end_marker) ≡ 33 = refl in
    let whole : length (line begin_marker ++ (lines ++ line end_marker)) ≡ length (line begin_marker) + length (lines ++ line end_marker) =
    length-append (line begin_marker) (lines ++ line end_marker) in
    let back : length (lines ++ line end_marker) ≡ length lines + length (line end_marker) = length-append lines (line end_marker) in
    let middle : length lines ≡ length (padded_columns bytes) + (length (padded_columns bytes) + 63) / 64 = length_lines (padded_columns bytes) in
    whole ∙ omega (arith, front, end, back, middle, length-padded_columns bytes)
