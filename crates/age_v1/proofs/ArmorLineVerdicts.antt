-- Each line has exactly one verdict.
use Rattle.std.proofs.Common.{◌≡◌, ◌≢◌, ℕ, ◌%◌, ◌^◌, ◌<◌, ◌≤◌, ◌==◌, ◌⊎◌, inl, inr, Bool, true, false, List, [], ◌∷◌, length, refl, ap, sym, arith, ◌∙◌, Option, Some, None, if◌then◌else◌, ◌||◌, nat_lt}
use Rattle.std.specs.List.{list_any, list_all}
use Rattle.std.specs.Str.{IsUtf8, is_utf8, bytes_eq}
use Rattle.std.specs.Cmp.Lexicographic.{bytes_decides}
use Rattle.std.proofs.lemmas.Bool.{true≢false, cases_Bool, and_from, or_cases, or_parts, or_from, eqb-true, eqb-false, eq-eqb, ne_eqb, ltb-true, ltb-false, lt-ltb, le-ltb, false_from_ne_true, or_right}
use Rattle.std.proofs.lemmas.Str.{IsUtf8-from_is_utf8, is_utf8-from_IsUtf8}
use Rattle.base64.specs.GeneralPurpose.{decoded_of}
use Rattle.base64.specs.Engines.{standard}
use Rattle.age_error.specs.declared.io.ArmoredReadError.TheVariants.{Base64, InvalidBeginMarker, InvalidUtf8, LineContainsCr, MissingPadding, NotWrappedAt64Chars, ShortLineInMiddle, TrailingGarbage}
use Rattle.age_error.specs.Bytes.{AreBytes}
use Rattle.age_base64.specs.Lines.{Lacks}
use Rattle.std.proofs.lemmas.List.Elements.{All-head, All-tail}
use Rattle.age_base64.specs.Base64.{padded_columns}
use Rattle.age_v1.specs.Armor.{end_marker}
use Rattle.age_v1.specs.ArmorLineVerdict.{LineVerdict, Refuses, Ends, Holds, verdict, columns_verdict, first_verdict, decoded_verdict, decoded, line_columns, IsClear, IsFirst, IsLineVerdict}
use Rattle.age_v1.proofs.DeliveredArmors.{decoded_is}
use Rattle.age_base64.proofs.PaddedColumns.{decodes_padded, length-padded_columns}

-- ---- decoding

below_all : (b : List ℕ) → AreBytes b → list_all (λ x. nat_lt x 256) b ≡ true
below_all [] h = refl
below_all (x ∷ b) h =
    let fits : x < 2 ^ 8 = All-head (λ d. d < 2 ^ 8) x b h in
    and_from _ _ (lt-ltb x 256 (omega (arith, fits))) (below_all b (All-tail (λ d. d < 2 ^ 8) x b h))

standard_decodes : (b : List ℕ) → AreBytes b → decoded_of standard (padded_columns b) ≡ Some b
unfolding decoded_of
standard_decodes b h = rw (decodes_padded b h) refl

pub is_decoded : (l b : List ℕ) → AreBytes b → l ≡ padded_columns b → decoded l ≡ Some b
unfolding decoded
is_decoded l b h e =
    let from : decoded_of standard l ≡ Some b = ap (decoded_of standard) e ∙ standard_decodes b h in
    let test = and_from _ _ (below_all b h) ((bytes_decides l (padded_columns b)).1 e) in
    rw (from, test) refl

option_cases : (o : Option (List ℕ)) → (o ≡ None) ⊎ ((b : List ℕ) × (o ≡ Some b))
option_cases None = inl refl
option_cases (Some b) = inr (b, refl)

pub none_decoded : (l : List ℕ) → ((b : List ℕ) → AreBytes b → l ≢ padded_columns b) → decoded l ≡ None
none_decoded l h = elim (option_cases (decoded l)) [
  | inl e ↦ e
  | inr (b, e) ↦ let p = decoded_is l b e in absurd (h b p.0 p.1)
]

-- ---- tests

pub has_none : (c : ℕ) (l : List ℕ) → list_any (λ d. d == c) l ≡ false → Lacks c l
has_none c [] e = tt
has_none c (d ∷ l) e = let p = or_parts _ _ e in (eqb-false d c p.0, has_none c l p.1)

pub none_has : (c : ℕ) (l : List ℕ) → Lacks c l → list_any (λ d. d == c) l ≡ false
none_has c [] h = refl
none_has c (d ∷ l) h = or_from _ _ (ne_eqb d c h.0) (none_has c l h.1)

has_some : (c : ℕ) (l : List ℕ) → list_any (λ d. d == c) l ≡ true → Lacks c l → ⊥
has_some c l e h = true≢false (sym e ∙ none_has c l h)

is_marker : (l : List ℕ) → bytes_eq l end_marker ≡ true → l ≡ end_marker
is_marker l = (bytes_decides l end_marker).0

no_marker : (l : List ℕ) → l ≢ end_marker → bytes_eq l end_marker ≡ false
no_marker l h = false_from_ne_true _ (λ e. h (is_marker l e))

not_marker : (l : List ℕ) → bytes_eq l end_marker ≡ false → l ≢ end_marker
not_marker l e h = true≢false (sym ((bytes_decides l end_marker).1 h) ∙ e)

-- ---- at least one

none_some : (b : List ℕ) → Path (Option (List ℕ)) None (Some b) → ⊥
none_some b e = cc e

first_one : (s : Bool) (raw : List ℕ) → IsFirst s raw → IsLineVerdict s raw (first_verdict (line_columns raw))
first_one s raw first =
    let l = line_columns raw in
    elim (cases_Bool (length l % 4 == 0)) [
      | inr e ↦ rw e (first, eqb-false (length l % 4) 0 e)
      | inl e ↦ rw e (elim (cases_Bool (length l == 0 || nat_lt 64 (length l))) [
        | inl f ↦ rw f (inr (
          first,
          eqb-true (length l % 4) 0
              e,
          elim (or_cases _ _ f) [ inl z ↦ inl (eqb-true (length l) 0 z) | inr g ↦ inr (ltb-true 64 (length l) g) ],
        ))
        | inr f ↦ rw f (
            let p = or_parts (length l == 0) (nat_lt 64 (length l)) f in
            let some : 0 < length l = omega (arith, eqb-false (length l) 0 p.0) in
            let fits : length l ≤ 64 = ltb-false 64 (length l) p.1 in
            elim (option_cases (decoded l)) [
              | inl d ↦ rw d (first, eqb-true (length l % 4) 0 e, some, fits, λ b h same. none_some b (sym d ∙ is_decoded l b h same))
              | inr (b, d) ↦ rw d (let p = decoded_is l b d in (first, some, fits, p.0, p.1))
            ])
      ])
    ]

columns_one : (s : Bool) (raw : List ℕ) → IsUtf8 raw → IsLineVerdict s raw (columns_verdict s (line_columns raw))
columns_one s raw u =
    let l = line_columns raw in
    elim (cases_Bool (list_any (λ c. c == 13) l)) [
      | inl e ↦ rw e (u, has_some 13 l e)
      | inr e ↦ rw e (
          let clear : IsClear raw = (u, has_none 13 l e) in
          elim (cases_Bool (bytes_eq l end_marker)) [
            | inl m ↦ rw m (clear, is_marker l m)
            | inr m ↦ rw m (shorts s clear (not_marker l m))
          ])
    ]
  where
    shorts : (s : Bool) → IsClear raw → line_columns raw ≢ end_marker →
        IsLineVerdict s raw (if s then (if length (line_columns raw)
        == 64 then Refuses ShortLineInMiddle else Refuses NotWrappedAt64Chars) else first_verdict (line_columns raw))
    shorts true clear other = elim (cases_Bool (length (line_columns raw) == 64)) [
      | inl e ↦ rw e (clear, other, refl, eqb-true (length (line_columns raw)) 64 e)
      | inr e ↦ rw e (inl (clear, other, refl, eqb-false (length (line_columns raw)) 64 e))
    ]
    shorts false clear other = first_one false raw (clear, other, refl)

pub one_verdict : (s : Bool) (raw : List ℕ) → IsLineVerdict s raw (verdict s raw)
unfolding verdict
one_verdict s raw = elim (cases_Bool (is_utf8 raw)) [
  | inl u ↦ rw u (columns_one s raw (IsUtf8-from_is_utf8 raw u))
  | inr u ↦ rw u (λ h. true≢false (sym (is_utf8-from_IsUtf8 raw h) ∙ u))
]

-- ---- at most one

pub passes_to : (s : Bool) (raw : List ℕ) → IsUtf8 raw → verdict s raw ≡ columns_verdict s (line_columns raw)
unfolding verdict
passes_to s raw u = rw (is_utf8-from_IsUtf8 raw u) refl

clear_to : (s : Bool) (raw : List ℕ) → IsClear raw → line_columns raw ≢ end_marker → verdict s raw
    ≡ (if s then (if length (line_columns raw) == 64 then Refuses ShortLineInMiddle else Refuses NotWrappedAt64Chars) else first_verdict
    (line_columns raw))
clear_to s raw h other = passes_to s raw h.0 ∙ rw (none_has 13 (line_columns raw) h.1, no_marker (line_columns raw) other) refl

first_to : (s : Bool) (raw : List ℕ) → IsFirst s raw → verdict s raw ≡ first_verdict (line_columns raw)
first_to s raw (clear, other, first) = clear_to s raw clear other ∙ rw first refl

fits_to : (l : List ℕ) → length l % 4 ≡ 0 → 0 < length l → length l ≤ 64 → first_verdict l ≡ decoded_verdict (decoded l)
fits_to l four some fits =
    let zero_not : (length l == 0) ≡ false = ne_eqb (length l) 0 (λ e. omega arith) in
    let long_not : nat_lt 64 (length l) ≡ false = le-ltb 64 (length l) fits in
    rw (eq-eqb (length l % 4) 0 four, zero_not, long_not) refl

long_to : (l : List ℕ) → length l % 4 ≡ 0 → (length l ≡ 0) ⊎ (64 < length l) → first_verdict l ≡ Refuses NotWrappedAt64Chars
long_to l four (inl e) = rw (eq-eqb (length l % 4) 0 four, eq-eqb (length l) 0 e) refl
long_to l four (inr e) =
    let some : (length l == 0 || nat_lt 64 (length l)) ≡ true = or_right _ _ (lt-ltb 64 (length l) e) in
    rw (eq-eqb (length l % 4) 0 four, some) refl

four_padded : (l b : List ℕ) → l ≡ padded_columns b → length l % 4 ≡ 0
four_padded l b e = omega (arith, ap length e, length-padded_columns b)

pub verdict_is : (s : Bool) (raw : List ℕ) (v : LineVerdict) → IsLineVerdict s raw v → verdict s raw ≡ v
unfolding verdict
verdict_is s raw (Refuses InvalidUtf8) h = rw (false_from_ne_true (is_utf8 raw) (λ e. h (IsUtf8-from_is_utf8 raw e))) refl
verdict_is s raw (Refuses LineContainsCr) h =
    let some : list_any (λ c. c == 13) (line_columns raw) ≡ true =
    elim (cases_Bool (list_any (λ c. c == 13) (line_columns raw))) [ inl e ↦ e | inr e ↦ absurd (h.1 (has_none 13 (line_columns raw) e)) ] in
    passes_to s raw h.0 ∙ rw some refl
verdict_is s raw Ends h = passes_to s raw h.0.0 ∙ rw (none_has 13 (line_columns raw) h.0.1, (bytes_decides (line_columns raw) end_marker).1 h.1) refl
verdict_is s raw (Refuses ShortLineInMiddle) (clear, other, after, whole) =
    clear_to s raw clear other ∙ rw (after, eq-eqb (length (line_columns raw)) 64 whole) refl
verdict_is s raw (Refuses NotWrappedAt64Chars) (inl (clear, other, after, part)) =
    clear_to s raw clear other ∙ rw (after, ne_eqb (length (line_columns raw)) 64 part) refl
verdict_is s raw (Refuses NotWrappedAt64Chars) (inr (first, four, long)) = first_to s raw first ∙ long_to (line_columns raw) four long
verdict_is s raw (Refuses MissingPadding) h = first_to s raw h.0 ∙ rw (ne_eqb (length (line_columns raw) % 4) 0 h.1) refl
verdict_is s raw (Refuses Base64) (first, four, some, fits, none) =
    first_to s raw first ∙ fits_to (line_columns raw) four some fits ∙ ap decoded_verdict (none_decoded (line_columns raw) none)
verdict_is s raw (Holds bytes) (first, some, fits, each, same) =
    first_to s raw first ∙ fits_to (line_columns raw) (four_padded (line_columns raw) bytes same) some fits
    ∙ ap decoded_verdict (is_decoded (line_columns raw) bytes each same)
verdict_is s raw (Refuses InvalidBeginMarker) h = absurd h
verdict_is s raw (Refuses TrailingGarbage) h = absurd h
