-- The lines of armor.
use Rattle.std.proofs.Common.{◌≡◌, ℕ, zero, suc, ◌+◌, ◌*◌, ◌/◌, ◌<◌, List, [], ◌∷◌, ◌++◌, length, take, drop, refl, ap, sym, arith, append_assoc, ◌∙◌, length-drop, length-take}
use Rattle.std.proofs.lemmas.List.{append-nil, nil_from_length, take-append-drop, drop-drop}
use Rattle.std.specs.List.{flat_map}
use Rattle.age_base64.specs.Lines.{line}
use Rattle.age_base64.specs.Base64.{padded_columns}
use Rattle.age_v1.specs.Armor.{armor_lines}
use Rattle.age_v1.specs.ArmorFullLines.{full_lines}
use Rattle.age_v1.proofs.RawLines.{lines_nil, lines_one, lines_more}

-- the lines of bytes: the full ones, and that of what is left
pub lines_parts : (n : ℕ) (x : List ℕ) → n ≡ length x / 48 →
    flat_map line (armor_lines (padded_columns x)) ≡ full_lines n x ++ flat_map line (armor_lines (padded_columns (drop (48 * n) x)))
unfolding full_lines
lines_parts zero x e = refl
lines_parts (suc n) x e =
    let size : length (take 48 x) ≡ 48 = rw length-take (omega arith) in
    let more : armor_lines (padded_columns x) ≡ padded_columns (take 48 x) ∷ armor_lines (padded_columns (drop 48 x)) =
    ap (λ y. armor_lines (padded_columns y)) (sym (take-append-drop 48 x)) ∙ lines_more (take 48 x) (drop 48 x) size in
    let place : 48 + 48 * n ≡ 48 * suc n = omega arith in
    let ih = lines_parts n (drop 48 x) (omega (arith, length-drop 48 x)) in
    let onward : drop (48 * n) (drop 48 x) ≡ drop (48 * suc n) x = drop-drop (48 * n) 48 x ∙ ap (λ k. drop k x) place in
    ap (flat_map line) more ∙ ap (λ y. line (padded_columns (take 48 x)) ++ y) ih
    ∙ sym (append_assoc (line (padded_columns (take 48 x))) (full_lines n (drop 48 x))
    (flat_map line (armor_lines (padded_columns (drop (48 * n) (drop 48 x))))))
    ∙ ap (λ y. (line (padded_columns (take 48 x)) ++ full_lines n (drop 48 x)) ++ flat_map line (armor_lines (padded_columns y))) onward

-- bytes that don't fill a line
pub last_line : (b : List ℕ) → 0 < length b → length b < 48 → flat_map line (armor_lines (padded_columns b)) ≡ line (padded_columns b)
last_line b some part = ap (flat_map line) (lines_one b some (omega arith)) ∙ append-nil (line (padded_columns b))

pub no_line : (b : List ℕ) → length b ≡ 0 → flat_map line (armor_lines (padded_columns b)) ≡ []
no_line b none = ap (λ y. flat_map line (armor_lines (padded_columns y))) (nil_from_length b none) ∙ ap (flat_map line) lines_nil
