-- The lines of a text and their columns.
use Rattle.std.proofs.Common.{◌≡◌, ◌≢◌, ℕ, suc, zero, ◌<◌, ◌≤◌, ◌==◌, ◌⊎◌, inl, inr, true, false, List, [], ◌∷◌, ◌++◌, length, replicate, refl, ap, sym, subst, arith, ◌∙◌, append_assoc}
use Rattle.std.specs.List.{concat}
use Rattle.std.proofs.lemmas.Bool.{true≢false, cases_Bool, or_parts, eqb-true, eqb-false, eq-eqb, ne_eqb, ltb-false, le-ltb}
use Rattle.std.proofs.lemmas.List.{append-nil, length-append, take_at, drop_at}
use Rattle.base64.specs.Rfc4648.{encode_symbols, padding_len}
use Rattle.age_error.specs.Bytes.{AreBytes}
use Rattle.age_base64.specs.Lines.{Lacks}
use Rattle.age_base64.specs.Base64.{padded_columns, symbols}
use Rattle.age_v1.specs.Armor.{armor_lines, IsEndedLine}
use Rattle.age_v1.specs.ArmorLineVerdict.{last_is, but_last, without_last, line_columns, is_short}
use Rattle.age_v1.specs.DeliveredArmor.{raw_lines, push_front}
use Rattle.age_v1.specs.ArmorFirstFault.{IsFirstLine}
use Rattle.age_v1.proofs.ArmorLines.{armor_lines_short, armor_lines_long}
use Rattle.age_base64.proofs.PaddedColumns.{Lacks_equals, length-padded_columns, padded_columns-append, padded_columns-nil}

-- ---- the last byte

pub last_is_end : (k : List ℕ) (c d : ℕ) → last_is d (k ++ c ∷ []) ≡ (c == d)
last_is_end [] c d = refl
last_is_end (x ∷ []) c d = refl
last_is_end (x ∷ y ∷ k) c d = last_is_end (y ∷ k) c d

pub but_last_end : (k : List ℕ) (c : ℕ) → but_last (k ++ c ∷ []) ≡ k
but_last_end [] c = refl
but_last_end (x ∷ []) c = refl
but_last_end (x ∷ y ∷ k) c = ap (λ l. x ∷ l) (but_last_end (y ∷ k) c)

pub last_lacks : (c : ℕ) (k : List ℕ) → Lacks c k → last_is c k ≡ false
last_lacks c [] h = refl
last_lacks c (x ∷ []) h = ne_eqb x c h.0
last_lacks c (x ∷ y ∷ k) h = last_lacks c (y ∷ k) h.1

pub last_back : (c : ℕ) (k : List ℕ) → last_is c k ≡ true → k ≡ but_last k ++ c ∷ []
last_back c [] e = absurd (true≢false (sym e))
last_back c (x ∷ []) e = ap (λ y. y ∷ []) (eqb-true x c e)
last_back c (x ∷ y ∷ k) e = ap (λ l. x ∷ l) (last_back c (y ∷ k) e)

last_append : (c : ℕ) (xs : List ℕ) (y : ℕ) (ys : List ℕ) → last_is c (xs ++ y ∷ ys) ≡ last_is c (y ∷ ys)
last_append c [] y ys = refl
last_append c (x ∷ []) y ys = refl
last_append c (x ∷ z ∷ xs) y ys = last_append c (z ∷ xs) y ys

last_replicate : (c n : ℕ) → last_is c (replicate (suc n) c) ≡ true
last_replicate c zero = eq-eqb c c refl
last_replicate c (suc n) = last_replicate c n

-- ---- columns

pub columns_ended : (k : List ℕ) → line_columns (k ++ 10 ∷ []) ≡ without_last 13 k
columns_ended k = rw (last_is_end k 10 10, but_last_end k 10) refl

pub columns_lf : (l : List ℕ) → Lacks 13 l → line_columns (l ++ 10 ∷ []) ≡ l
columns_lf l h = columns_ended l ∙ rw (last_lacks 13 l h) refl

pub columns_crlf : (l : List ℕ) → line_columns (l ++ 13 ∷ 10 ∷ []) ≡ l
columns_crlf l = ap line_columns (sym (append_assoc l (13 ∷ []) (10 ∷ []))) ∙ columns_ended (l ++ 13 ∷ [])
    ∙ rw (last_is_end l 13 13, but_last_end l 13) refl

pub columns_none : (l : List ℕ) → Lacks 10 l → line_columns l ≡ l
columns_none l h = rw (last_lacks 10 l h) refl

pub columns_of_ended : (l raw : List ℕ) → Lacks 13 l → IsEndedLine l raw → line_columns raw ≡ l
columns_of_ended l raw h (inl e) = ap line_columns e ∙ columns_lf l h
columns_of_ended l raw h (inr e) = ap line_columns e ∙ columns_crlf l

-- a line with its LF is its columns, ended
pub ended_back : (k : List ℕ) → IsEndedLine (line_columns (k ++ 10 ∷ [])) (k ++ 10 ∷ [])
ended_back k = rw (columns_ended k) (elim (cases_Bool (last_is 13 k)) [
  | inl e ↦ rw e (inr (ap (λ x. x ++ 10 ∷ []) (last_back 13 k e) ∙ append_assoc (but_last k) (13 ∷ []) (10 ∷ [])))
  | inr e ↦ rw e (inl refl)
])

-- ---- lines

pub raw_lines_ended : (k text : List ℕ) → Lacks 10 k → raw_lines (k ++ 10 ∷ text) ≡ (k ++ 10 ∷ []) ∷ raw_lines text
raw_lines_ended [] text h = refl
raw_lines_ended (c ∷ k) text h = rw (ne_eqb c 10 h.0, raw_lines_ended k text h.1) refl

pub raw_lines_last : (c : ℕ) (k : List ℕ) → Lacks 10 (c ∷ k) → raw_lines (c ∷ k) ≡ (c ∷ k) ∷ []
raw_lines_last c [] h = rw (ne_eqb c 10 h.0) refl
raw_lines_last c (d ∷ k) h = rw (ne_eqb c 10 h.0) (ap (push_front c) (raw_lines_last d k h.1))

-- each line has a LF at its end and nowhere else, but for the last, which may have none
abbrev pub AreRaw : List (List ℕ) → Type 0
AreRaw [] = Unit {0}
AreRaw (raw ∷ more) = (((k : List ℕ) × (raw ≡ k ++ 10 ∷ []) × Lacks 10 k) × AreRaw more) ⊎ (Lacks 10 raw × (more ≡ []))

raw_push : (c : ℕ) (ls : List (List ℕ)) → c ≢ 10 → AreRaw ls → AreRaw (push_front c ls)
raw_push c [] h a = inr ((h, tt), refl)
raw_push c (l ∷ ls) h (inl (k, a)) = inl ((c ∷ k.0, ap (λ x. c ∷ x) k.1, (h, k.2)), a)
raw_push c (l ∷ ls) h (inr (a, e)) = inr ((h, a), e)

pub are_raw : (text : List ℕ) → AreRaw (raw_lines text)
are_raw [] = tt
are_raw (c ∷ text) = elim (cases_Bool (c == 10)) [
  | inl e ↦ rw e (inl (([], ap (λ x. x ∷ []) (eqb-true c 10 e), tt), are_raw text))
  | inr e ↦ rw e (raw_push c (raw_lines text) (eqb-false c 10 e) (are_raw text))
]

-- such a line is the first line of the text that it begins
pub raw_line : (raw : List ℕ) (more : List (List ℕ)) → AreRaw (raw ∷ more) → IsFirstLine (raw ++ concat more) raw (concat more) × AreRaw more
raw_line raw more (inl (k, a)) = (record { whole = refl; stops = inl k }, a)
raw_line raw more (inr (lacks, over)) = (record { whole = refl; stops = inr (lacks, ap concat over) }, subst AreRaw (sym over) tt)

-- ---- base64 with padding

-- a full line has 48 bytes, 64 columns and no padding
pub full_length : (b : List ℕ) → length b ≡ 48 → length (padded_columns b) ≡ 64
full_length b e = omega (arith, e, length-padded_columns b)

pub full_not_short : (b : List ℕ) → AreBytes b → length b ≡ 48 → is_short (padded_columns b) ≡ false
full_not_short b h e =
    let lacks : Lacks 61 (padded_columns b) = Lacks_equals b h (omega (arith, e)) in
    rw (le-ltb (length (padded_columns b)) 64 (omega (arith, full_length b e)), last_lacks 61 (padded_columns b) lacks) refl

unpadded : (b : List ℕ) (n : ℕ) → padding_len (length b) ≡ n → last_is 61 (padded_columns b) ≡ false → n ≡ 0
unfolding padded_columns
unpadded b zero f g = refl
unpadded b (suc n) f g = absurd (true≢false (sym (last_append 61 (encode_symbols symbols b) 61 (replicate n 61) ∙ last_replicate 61 n) ∙ (rw f at g)))

pub not_short_full : (b : List ℕ) → length (padded_columns b) ≤ 64 → is_short (padded_columns b) ≡ false → length b ≡ 48
not_short_full b fits e =
    let p = or_parts _ _ e in
    let long : 64 ≤ length (padded_columns b) = ltb-false (length (padded_columns b)) 64 p.0 in
    let len = length-padded_columns b in
    let none : padding_len (length b) ≡ 0 = unpadded b (padding_len (length b)) refl p.1 in
    omega (arith, len, none)

pub lines_nil : armor_lines (padded_columns []) ≡ []
unfolding armor_lines
lines_nil = rw padded_columns-nil refl

pub lines_one : (b : List ℕ) → 0 < length b → length b ≤ 48 → armor_lines (padded_columns b) ≡ padded_columns b ∷ []
lines_one b some fits = armor_lines_short (padded_columns b) (omega (arith, length-padded_columns b)) (omega (arith, length-padded_columns b))

pub lines_more : (b x : List ℕ) → length b ≡ 48 → armor_lines (padded_columns (b ++ x)) ≡ padded_columns b ∷ armor_lines (padded_columns x)
lines_more b [] e = rw append-nil (lines_one b (omega arith) (omega arith) ∙ ap (λ l. padded_columns b ∷ l) (sym lines_nil))
lines_more b (c ∷ x) e =
    let both = padded_columns-append b (c ∷ x) (omega (arith, e)) in
    let full = full_length b e in
    let long : 64 < length (padded_columns b ++ padded_columns (c ∷ x)) = rw length-append (omega (arith, full, length-padded_columns (c ∷ x))) in
    rw both (armor_lines_long (padded_columns b ++ padded_columns (c ∷ x)) long
    ∙ rw (take_at (padded_columns b) (padded_columns (c ∷ x)) 64 full, drop_at (padded_columns b) (padded_columns (c ∷ x)) 64 full) refl)
