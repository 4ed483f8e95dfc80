-- Full lines, some and then others.
use Rattle.std.specs.Prelude.{◌≡◌, ℕ, zero, suc, ◌+◌, ◌*◌, ◌≤◌, List, ◌++◌, length, take, drop}
use Rattle.std.proofs.Common.{refl, sym, ◌∙◌, arith, zero-add, append_assoc, length-drop}
use Rattle.std.proofs.lemmas.List.{take-append-le, drop-append-le, drop-drop}
use Rattle.age_base64.specs.Lines.{line}
use Rattle.age_base64.specs.Base64.{padded_columns}
use Rattle.age_v1.specs.ArmorFullLines.{full_lines}

-- the first lines stay when more bytes follow
pub full_lines-front : (m : ℕ) (t y : List ℕ) → 48 * m ≤ length t → full_lines m (t ++ y) ≡ full_lines m t
unfolding full_lines
full_lines-front zero t y fit = refl
full_lines-front (suc m) t y fit =
    let piece : 48 ≤ length t = omega arith in
    rw (take-append-le 48 t y piece, drop-append-le 48 t y piece, full_lines-front m (drop 48 t) y (omega (arith, length-drop 48 t))) refl

-- the first lines, and then those of the rest
pub full_lines-both : (m n : ℕ) (p : List ℕ) → full_lines (m + n) p ≡ full_lines m p ++ full_lines n (drop (48 * m) p)
unfolding full_lines
full_lines-both zero n p = rw zero-add refl
full_lines-both (suc m) n p =
    let count : suc m + n ≡ suc (m + n) = omega arith in
    let place : 48 + 48 * m ≡ 48 * suc m = omega arith in
    let more : full_lines (m + n) (drop 48 p) ≡ full_lines m (drop 48 p) ++ full_lines n (drop (48 * suc m) p) =
    full_lines-both m n (drop 48 p) ∙ rw (drop-drop (48 * m) 48 p, place) refl in
    rw (count, more) (sym (append_assoc (line (padded_columns (take 48 p))) (full_lines m (drop 48 p)) (full_lines n (drop (48 * suc m) p))))
