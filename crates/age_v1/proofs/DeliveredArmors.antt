-- The laws of what a text delivers.
use Rattle.std.specs.Prelude.{◌≡◌, ℕ, ◌+◌, ◌%◌, ◌≤◌, ◌<◌, ◌==◌, ◌^◌, Bool, true, false, nat_lt, nat_eq, ◌&&◌, ◌||◌, not, if◌then◌else◌, List, [], ◌∷◌, length, drop, Option, Some, None, refl, ◌⊎◌}
use Rattle.std.proofs.Common.{arith, sym, ap, subst, ◌∙◌, inl, inr, length-append, length-drop}
use Rattle.std.proofs.lemmas.Bool.{ltb-true, and_parts, true≢false}
use Rattle.std.proofs.lemmas.List.Elements.{All-nil, All-cons, All-append, All-drop}
use Rattle.std.specs.List.{list_all, list_any, concat, starts_with}
use Rattle.std.specs.Str.{is_utf8, bytes_eq}
use Rattle.std.specs.Cmp.Lexicographic.{bytes_decides}
use Rattle.base64.specs.GeneralPurpose.{decoded_of}
use Rattle.base64.specs.Engines.{standard}
use Rattle.age_error.specs.declared.io.Error.TheVariants.{Armor, UnexpectedEof}
use Rattle.age_error.specs.declared.io.ArmoredReadError.TheVariants.{InvalidBeginMarker, InvalidUtf8, LineContainsCr, MissingPadding, NotWrappedAt64Chars, ShortLineInMiddle}
use Rattle.age_error.specs.declared.io.ArmoredReadError.{ArmoredReadError}
use Rattle.age_error.specs.Bytes.{AreBytes}
use Rattle.age_io.specs.Stretch.{Stretch, nothing, from_place, stretch-ext}
use Rattle.age_io.specs.Reading.{StandsIn}
use Rattle.age_base64.specs.Base64.{padded_columns}
use Rattle.age_base64.proofs.PaddedColumns.{length-padded_columns}
use Rattle.age_v1.specs.Armor.{begin_marker, end_marker}
use Rattle.age_v1.specs.ArmorLineVerdict.{LineVerdict, Refuses, Ends, Holds, verdict, columns_verdict, decoded_verdict, decoded, if_encoded, line_columns, is_short, last_is, but_last, without_last}
use Rattle.age_v1.specs.DeliveredArmor.{Outcome, Ending, Refused, InnerFault, ends_in, at_end, raw_lines, push_front, section, after_line, text_delivers, stretch_of}

if-either : {X : Type 0} (P : X → Type 0) (c : Bool) (x y : X) → P x → P y → P (if c then x else y)
if-either P true x y p q = p
if-either P false x y p q = q

-- ---- a line's bytes

all_bytes : (b : List ℕ) → list_all (λ x. nat_lt x 256) b ≡ true → AreBytes b
all_bytes [] h = All-nil (λ x. x < 2 ^ 8)
all_bytes (x ∷ b) h =
    let below : x < 2 ^ 8 = let lt = ltb-true x 256 (and_parts _ _ h).0 in omega (arith, lt) in
    All-cons (λ x. x < 2 ^ 8) x b below (all_bytes b (and_parts _ _ h).1)

checked : (l c b : List ℕ) (t : Bool) → (list_all (λ x. nat_lt x 256) c && bytes_eq l (padded_columns c)) ≡ t
    → (if t then Some c else None) ≡ Some b → AreBytes b × (l ≡ padded_columns b)
checked l c b true t e =
    let same : c ≡ b = cc e in
    let parts = and_parts _ _ t in
    (subst AreBytes same (all_bytes c parts.0), (bytes_decides l (padded_columns c)).0 parts.1 ∙ ap padded_columns same)
checked l c b false t e = cc e

encoded : (l : List ℕ) (o : Option (List ℕ)) (b : List ℕ) → if_encoded l o ≡ Some b → AreBytes b × (l ≡ padded_columns b)
encoded l None b e = cc e
encoded l (Some c) b e = checked l c b _ refl e

-- what is decoded is bytes, and their base64 is what was there
pub decoded_is : (l b : List ℕ) → decoded l ≡ Some b → AreBytes b × (l ≡ padded_columns b)
unfolding decoded
decoded_is l b e = encoded l (decoded_of standard l) b e

-- what holds of a good line
IsSmall : ℕ → LineVerdict → Type 0
IsSmall n v = (b : List ℕ) → v ≡ Holds b → AreBytes b × (length b ≤ n)

refuses_small : (n : ℕ) (e : ArmoredReadError) → IsSmall n (Refuses e)
unfolding IsSmall
refuses_small n e b p = cc p

ends_small : (n : ℕ) → IsSmall n Ends
unfolding IsSmall
ends_small n b p = cc p

by_decoded : (l : List ℕ) (o : Option (List ℕ)) → ((b : List ℕ) → o ≡ Some b → AreBytes b × (length b ≤ length l))
    → IsSmall (length l) (decoded_verdict o)
unfolding IsSmall
by_decoded l None h b p = cc p
by_decoded l (Some c) h b p = let same : c ≡ b = cc p in h b (ap (λ x. Some x) same)

decoded_small : (l b : List ℕ) → decoded l ≡ Some b → AreBytes b × (length b ≤ length l)
decoded_small l b e = let p = decoded_is l b e in (p.0, omega (arith, ap length p.1, length-padded_columns b))

columns_small : (s : Bool) (l : List ℕ) → IsSmall (length l) (columns_verdict s l)
columns_small s l =
    let P = IsSmall (length l) in
    if-either P (list_any (λ c. c == 13) l) _ _ (refuses_small _ LineContainsCr)
    (if-either P (bytes_eq l end_marker) _ _ (ends_small _)
    (if-either P s _ _ (if-either P (length l == 64) _ _ (refuses_small _ ShortLineInMiddle) (refuses_small _ NotWrappedAt64Chars))
    (if-either P (not (length l % 4 == 0)) _ _ (refuses_small _ MissingPadding)
    (if-either P (length l == 0 || nat_lt 64 (length l)) _ _ (refuses_small _ NotWrappedAt64Chars)
    (by_decoded l (decoded l) (decoded_small l))))))

pub length_but_last : (xs : List ℕ) → length (but_last xs) ≤ length xs
length_but_last [] = omega arith
length_but_last (x ∷ []) = omega arith
length_but_last (x ∷ y ∷ xs) = omega (arith, length_but_last (y ∷ xs))

length_if : (b : Bool) (xs ys : List ℕ) → length xs ≤ length ys → length (if b then xs else ys) ≤ length ys
length_if true xs ys h = h
length_if false xs ys h = omega arith

pub length_line_columns : (raw : List ℕ) → length (line_columns raw) ≤ length raw
length_line_columns raw =
    let a : length (without_last 13 (but_last raw)) ≤ length (but_last raw) =
    length_if (last_is 13 (but_last raw)) (but_last (but_last raw)) (but_last raw) (length_but_last (but_last raw)) in
    length_if (last_is 10 raw) (without_last 13 (but_last raw)) raw (omega (arith, a, length_but_last raw))

verdict_small : (s : Bool) (raw : List ℕ) → IsSmall (length (line_columns raw)) (verdict s raw)
unfolding verdict
verdict_small s raw = if-either (IsSmall (length (line_columns raw))) (is_utf8 raw) _ _ (columns_small s (line_columns raw))
    (refuses_small _ InvalidUtf8)

-- ---- lines

IsWithin : ℕ → Outcome → Type 0
IsWithin n o = AreBytes o.bytes × (length o.bytes ≤ n)

no_bytes : AreBytes []
no_bytes = All-nil (λ x. x < 2 ^ 8)

ends_within : (n : ℕ) (e : Ending) → IsWithin n (ends_in e)
unfolding IsWithin
ends_within n e = (no_bytes, omega arith)

line_within : (v : LineVerdict) (k n : ℕ) (next : Outcome) (end : Ending) → IsSmall k v → IsWithin n next → IsWithin (k + n) (after_line v next end)
unfolding IsSmall IsWithin
line_within (Refuses e) k n next end small h = (no_bytes, omega arith)
line_within Ends k n next end small h = (no_bytes, omega arith)
line_within (Holds b) k n next end small h =
    let p = small b refl in
    (All-append (λ x. x < 2 ^ 8) b next.bytes p.0 h.0, omega (arith, length-append b next.bytes, p.1, h.1))

more_within : (n m : ℕ) (o : Outcome) → n ≤ m → IsWithin n o → IsWithin m o
unfolding IsWithin
more_within n m o fits h = (h.0, omega (arith, h.1))

section_within : (ls : List (List ℕ)) (s w : Bool) → IsWithin (length (concat ls)) (section s ls w)
section_within [] s w = ends_within 0 _
section_within (raw ∷ more) s w =
    if-either (IsWithin (length (concat (raw ∷ more)))) (w || last_is 10 raw) _ _
    (more_within (length (line_columns raw) + length (concat more)) (length (concat (raw ∷ more))) _
    (omega (arith, length-append raw (concat more), length_line_columns raw))
    (line_within (verdict s raw) (length (line_columns raw)) (length (concat more)) _ _ (verdict_small s raw)
    (section_within more (is_short (line_columns raw)) w)))
    (ends_within _ InnerFault)

concat_push : (c : ℕ) (ls : List (List ℕ)) → concat (push_front c ls) ≡ c ∷ concat ls
concat_push c [] = refl
concat_push c (l ∷ ls) = refl

pub concat_raw : (text : List ℕ) → concat (raw_lines text) ≡ text
concat_raw [] = refl
concat_raw (c ∷ text) = if-either (λ ls. concat ls ≡ c ∷ text) (c == 10) _ _ (ap (λ l. c ∷ l) (concat_raw text))
    (concat_push c (raw_lines text) ∙ ap (λ l. c ∷ l) (concat_raw text))

lines_within : (text : List ℕ) (s w : Bool) → IsWithin (length text) (section s (raw_lines text) w)
lines_within text s w = rw concat_raw at (section_within (raw_lines text) s w)

delivered_within : (text : List ℕ) (w : Bool) → AreBytes text → IsWithin (length text) (text_delivers text w)
unfolding text_delivers IsWithin
delivered_within text w h =
    if-either (IsWithin (length text)) (nat_lt (length text) 36) _ _ (ends_within (length text) (at_end w (Refused UnexpectedEof)))
    (if-either (IsWithin (length text)) (starts_with nat_eq text begin_marker) _ _
    (if-either (IsWithin (length text)) (starts_with nat_eq (drop 34 text) (10 ∷ [])) _ _
    (more_within (length (drop 1 (drop 34 text))) (length text) (section false (raw_lines (drop 1 (drop 34 text))) w)
    (omega (arith, length-drop 1 (drop 34 text), length-drop 34 text)) (lines_within (drop 1 (drop 34 text)) false w))
    (if-either (IsWithin (length text)) (starts_with nat_eq (drop 34 text) (13 ∷ 10 ∷ [])) _ _
    (more_within (length (drop 2 (drop 34 text))) (length text) (section false (raw_lines (drop 2 (drop 34 text))) w)
    (omega (arith, length-drop 2 (drop 34 text), length-drop 34 text)) (lines_within (drop 2 (drop 34 text)) false w))
    (ends_within (length text) (Refused (Armor InvalidBeginMarker)))))
    (h, omega arith))

-- what the content of a reader delivers from a place on
abbrev pub content_of : Stretch → ℕ → Stretch
content_of content origin = stretch_of (text_delivers (drop origin content.bytes) content.ends_well)

pub content_bytes : (content : Stretch) (origin : ℕ) → AreBytes content.bytes → AreBytes (content_of content origin).bytes
unfolding IsWithin
content_bytes content origin h = (delivered_within (drop origin content.bytes) content.ends_well (All-drop (λ x. x < 2 ^ 8) origin content.bytes h)).0

pub content_short : (content : Stretch) (origin : ℕ) → AreBytes content.bytes → length content.bytes < 2 ^ 63
    → length (content_of content origin).bytes < 2 ^ 63
unfolding IsWithin
content_short content origin h short =
    omega (
      arith,
      short,
      length-drop origin content.bytes,
      (delivered_within (drop origin content.bytes) content.ends_well (All-drop (λ x. x < 2 ^ 8) origin content.bytes h)).1,
    )

-- ---- standing in a content

nothing_or : (s : Stretch) → (s ≡ nothing) ⊎ (s ≡ nothing → ⊥)
nothing_or s = go s.bytes s.ends_well refl refl
  where
    go : (bytes : List ℕ) (w : Bool) → s.bytes ≡ bytes → s.ends_well ≡ w → (s ≡ nothing) ⊎ (s ≡ nothing → ⊥)
    go [] false p q = inl (stretch-ext s nothing p q)
    go bytes true p q = inr (λ e. true≢false (sym q ∙ ap (λ x. x.ends_well) e))
    go (b ∷ bytes) w p q = inr (λ e. let none : b ∷ bytes ≡ [] = sym p ∙ ap (λ x. x.bytes) e in cc)

pub stands_by : (content rest : Stretch) (place : ℕ) → place ≤ length content.bytes → ((rest ≡ nothing → ⊥) → rest ≡ from_place place content) →
    StandsIn content place rest
stands_by content rest place inside follows = record {
  within = inside;
  reaches = elim (nothing_or rest) [ inl gone ↦ inr gone | inr some ↦ inl (follows some) ];
}

pub stands_follows : (content rest : Stretch) (place : ℕ) → StandsIn content place rest → (rest ≡ nothing → ⊥) → rest ≡ from_place place content
stands_follows content rest place stands some = elim stands.reaches [ inl same ↦ same | inr gone ↦ absurd (some gone) ]
