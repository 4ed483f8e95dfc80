-- The lines of a text, as it grows.
use Rattle.std.proofs.Common.{◌≡◌, ◌≢◌, ◌∙◌, ◌⊎◌, inl, inr, refl, ℕ, ◌+◌, ◌-◌, ◌<◌, ◌++◌, ap, append_assoc, append-nil, true, false, Bool, List, [], ◌∷◌, sym, arith, length, take, length-append, map, cond, All}
use Rattle.std.specs.Prelude.{if◌then◌else◌, ◌==◌, slice_index}
use Rattle.std.specs.List.{slice_split, onto_first}
use Rattle.std.specs.Str.Lines.{lines, lines_of_parts, strip_carriage_return}
use Rattle.std.proofs.lemmas.Bool.{ne_eqb, eqb-true}
use Rattle.std.proofs.lemmas.List.{take_all, take_more}
use Rattle.std.proofs.lemmas.List.Elements.{All-nil, All-cons}
use Rattle.std.proofs.lemmas.List.Splits.{slice_split_none, slice_split_at}
use Rattle.age_base64.specs.Lines.{line, Lacks}
use Rattle.age_identity.specs.Files.{IsEnded}

-- ---- parts between line feeds

-- a part that goes on before others
onto_first-append : (x : ℕ) (parts more : List (List ℕ)) → 0 < length parts → onto_first x (parts ++ more) ≡ onto_first x parts ++ more
onto_first-append x [] more some = absurd (omega (arith, some))
onto_first-append x (part ∷ parts) more some = refl

onto_first-some : (x : ℕ) (parts : List (List ℕ)) → 0 < length (onto_first x parts)
onto_first-some x [] = omega arith
onto_first-some x (part ∷ parts) = omega arith

split_step : (b : Bool) (x : ℕ) (parts : List (List ℕ)) → 0 < length (cond b ([] ∷ parts) (onto_first x parts))
split_step true x parts = omega arith
split_step false x parts = onto_first-some x parts

-- there is a part
pub some_part : (xs : List ℕ) → 0 < length (slice_split (λ b. b == 10) xs)
some_part [] = omega arith
some_part (x ∷ xs) = split_step (x == 10) x (slice_split (λ b. b == 10) xs)

parts_step : (b : Bool) (x : ℕ) (parts more : List (List ℕ)) → 0 < length parts →
    cond b ([] ∷ (parts ++ more)) (onto_first x (parts ++ more)) ≡ cond b ([] ∷ parts) (onto_first x parts) ++ more
parts_step true x parts more some = refl
parts_step false x parts more some = onto_first-append x parts more some

-- the parts before and after a line feed
split_at : (xs ys : List ℕ) → slice_split (λ b. b == 10) (xs ++ 10 ∷ ys) ≡ slice_split (λ b. b == 10) xs ++ slice_split (λ b. b == 10) ys
split_at [] ys = refl
split_at (x ∷ xs) ys =
    ap (λ p. cond (x == 10) ([] ∷ p) (onto_first x p)) (split_at xs ys)
    ∙ parts_step (x == 10) x (slice_split (λ b. b == 10) xs) (slice_split (λ b. b == 10) ys) (some_part xs)

-- ---- lines

parts_before : (parts more : List (List ℕ)) → 0 < length more
    → lines_of_parts (parts ++ more) ≡ map strip_carriage_return parts ++ lines_of_parts more
parts_before [] more some = refl
parts_before (x ∷ parts) more some = one_before x (parts ++ more) (omega (arith, length-append parts more, some))
    ∙ ap (λ ls. strip_carriage_return x ∷ ls) (parts_before parts more some)
  where
    one_before : (x : List ℕ) (parts : List (List ℕ)) → 0 < length parts → lines_of_parts (x ∷ parts) ≡ strip_carriage_return x ∷ lines_of_parts parts
    one_before x [] some = absurd (omega (arith, some))
    one_before x (y ∷ more) some = refl

-- the lines before and after a line feed
lines_at : (xs ys : List ℕ) → lines (xs ++ 10 ∷ ys) ≡ map strip_carriage_return (slice_split (λ b. b == 10) xs) ++ lines ys
lines_at xs ys = ap lines_of_parts (split_at xs ys) ∙ parts_before (slice_split (λ b. b == 10) xs) (slice_split (λ b. b == 10) ys) (some_part ys)

-- the lines of a text that is ended, and of what follows
pub lines_more : (done more : List ℕ) → IsEnded done → lines (done ++ more) ≡ lines done ++ lines more
lines_more done more (inl none) = ap (λ d. lines (d ++ more)) none ∙ ap (λ d. lines d ++ lines more) (sym none)
lines_more done more (inr ended) =
    let (before, is) = ended in
    let here = lines_at before more in
    let alone : lines (before ++ 10 ∷ []) ≡ map strip_carriage_return (slice_split (λ b. b == 10) before) =
    lines_at before [] ∙ append-nil (map strip_carriage_return (slice_split (λ b. b == 10) before)) in
    ap (λ d. lines (d ++ more)) is ∙ ap lines (append_assoc before (10 ∷ []) more) ∙ here
    ∙ ap (λ ls. ls ++ lines more) (sym alone ∙ ap lines (sym is))

no_lf : (last : List ℕ) → Lacks 10 last → All (λ b. (b == 10) ≡ false) last
no_lf [] lacks = All-nil (λ b. (b == 10) ≡ false)
no_lf (x ∷ last) lacks = All-cons (λ b. (b == 10) ≡ false) x last (ne_eqb x 10 lacks.0) (no_lf last lacks.1)

-- the line that a line feed ends
pub line_alone : (last : List ℕ) → Lacks 10 last → lines (line last) ≡ strip_carriage_return last ∷ []
line_alone last lacks = ap lines_of_parts (slice_split_at (λ b. b == 10) last 10 [] (no_lf last lacks) refl)

-- the line that the end of a text ends
pub last_alone : (last : List ℕ) → Lacks 10 last → last ≢ [] → lines last ≡ last ∷ []
last_alone [] lacks some = absurd (some refl)
last_alone (x ∷ last) lacks some =
    let one : length (x ∷ last) ≢ 0 = λ none. omega (arith, none) in
    ap lines_of_parts (slice_split_none (λ b. b == 10) (x ∷ last) (no_lf (x ∷ last) lacks))
    ∙ ap (λ t. cond t [] ((x ∷ last) ∷ [])) (ne_eqb (length (x ∷ last)) 0 one)

-- ---- the carriage return at the end of a line

strip_by : (b : Bool) (l : List ℕ) → (slice_index l (length l - 1) == 13) ≡ b →
    (strip_carriage_return l ≡ l) ⊎ (l ≡ strip_carriage_return l ++ 13 ∷ [])
strip_by false l is = inl (ap (λ b. if b then take (length l - 1) l else l) is)
strip_by true [] is = inl refl
strip_by true (x ∷ xs) is =
    let l = x ∷ xs in
    let at : slice_index l (length l - 1) ≡ 13 = eqb-true (slice_index l (length l - 1)) 13 is in
    let n : length l - 1 + 1 ≡ length l = omega arith in
    let whole : l ≡ take (length l - 1) l ++ slice_index l (length l - 1) ∷ [] =
    sym (take_all (length l - 1 + 1) l (omega (arith, n))) ∙ take_more l (length l - 1) 0 (omega arith) in
    inr (whole ∙ ap (λ c. take (length l - 1) l ++ c ∷ []) at ∙ ap (λ b. (if b then take (length l - 1) l else l) ++ 13 ∷ []) (sym is))

-- a line without its carriage return is the line, or the line is that and one
pub strip_cases : (l : List ℕ) → (strip_carriage_return l ≡ l) ⊎ (l ≡ strip_carriage_return l ++ 13 ∷ [])
strip_cases l = strip_by (slice_index l (length l - 1) == 13) l refl
