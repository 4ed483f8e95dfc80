-- A text carries at most one list of bytes, and its armor carries it.
use Rattle.std.proofs.Common.{◌≡◌, ◌≢◌, ℕ, suc, zero, ◌/◌, ◌⊎◌, inl, inr, List, [], ◌∷◌, ◌++◌, length, take, drop, refl, ap, sym, arith, append_assoc, subst, ◌∙◌}
use Rattle.std.proofs.lemmas.List.{append-nil, take-append-drop}
use Rattle.std.specs.List.{AllByRecursion, flat_map, concat}
use Rattle.age_error.specs.Bytes.{AreBytes}
use Rattle.age_base64.specs.Lines.{line, Lacks, pieces_and_rest}
use Rattle.age_base64.specs.Base64.{padded_columns}
use Rattle.age_v1.specs.Armor.{armor_lines, armor, begin_marker, end_marker, IsEndedLine, AreEndedLines, IsArmorEnd, CarriesArmored, CarriesBinary, Carries}
use Rattle.age_base64.proofs.Lines.{split_at, Lacks-append, Lacks_left, Lacks_right, lacks_tested}
use Rattle.age_base64.proofs.PaddedColumns.{Lacks_padded_columns, Lacks_hyphen, padded_columns_same}

-- ---- the armor carries the bytes

pub ended_lines : (ls : List (List ℕ)) → AreEndedLines ls (flat_map line ls)
ended_lines [] = refl
ended_lines (l ∷ ls) = (line l, flat_map line ls, refl, inl refl, ended_lines ls)

-- these lines with LF or CRLF, and the end marker as it may end
pub ended_carries : (bytes front end : List ℕ) → AreBytes bytes → AreEndedLines (begin_marker ∷ armor_lines (padded_columns bytes)) front
    → IsArmorEnd end → Carries (front ++ end) bytes
ended_carries bytes front end h lines ends = record {
  each = h;
  way = inl (record { front = front; end = end; whole = refl; lines = lines; ends = ends });
}

pub armor_carries : (bytes : List ℕ) → AreBytes bytes → Carries (armor bytes) bytes
unfolding armor
armor_carries bytes h =
    let ls = begin_marker ∷ armor_lines (padded_columns bytes) in
    let whole : flat_map line ls ++ line end_marker ≡ line begin_marker ++ (flat_map line (armor_lines (padded_columns bytes)) ++ line end_marker) =
    append_assoc (line begin_marker) (flat_map line (armor_lines (padded_columns bytes))) (line end_marker) in
    subst (λ text. Carries text bytes) whole
    (ended_carries bytes (flat_map line ls) (line end_marker) h (ended_lines ls)
    (inr (line end_marker, [], sym (append-nil (line end_marker)), inl refl, tt)))

-- ---- at most one

pieces_lack : (c count n : ℕ) (xs : List ℕ) → Lacks c xs → AllByRecursion (Lacks c) (pieces_and_rest count n xs)
unfolding pieces_and_rest
pieces_lack c zero n xs h = (h, tt)
pieces_lack c (suc count) n xs h =
    let both : Lacks c (take n xs ++ drop n xs) = subst (Lacks c) (sym (take-append-drop n xs)) h in
    (Lacks_left c (take n xs) (drop n xs) both, pieces_lack c count n (drop n xs) (Lacks_right c (take n xs) (drop n xs) both))

lines_lack : (c : ℕ) (xs : List ℕ) → Lacks c xs → AllByRecursion (Lacks c) (armor_lines xs)
unfolding armor_lines
lines_lack c [] h = tt
lines_lack c (x ∷ xs) h = pieces_lack c (length xs / 64) 64 (x ∷ xs) h

pieces_join : (count n : ℕ) (xs : List ℕ) → concat (pieces_and_rest count n xs) ≡ xs
unfolding pieces_and_rest
pieces_join zero n xs = append-nil xs
pieces_join (suc count) n xs = ap (λ r. take n xs ++ r) (pieces_join count n (drop n xs)) ∙ take-append-drop n xs

lines_join : (xs : List ℕ) → concat (armor_lines xs) ≡ xs
unfolding armor_lines
lines_join [] = refl
lines_join (x ∷ xs) = pieces_join (length xs / 64) 64 (x ∷ xs)

-- a line up to its LF: itself, or with a CR
pub up_to_feed : (l first : List ℕ) → IsEndedLine l first → (k : List ℕ) × (first ≡ k ++ 10 ∷ []) × ((k ≡ l) ⊎ (k ≡ l ++ 13 ∷ []))
up_to_feed l first (inl e) = (l, e, inl refl)
up_to_feed l first (inr e) = (l ++ 13 ∷ [], e ∙ sym (append_assoc l (13 ∷ []) (10 ∷ [])), inr refl)

same_line : (l m k j : List ℕ) → Lacks 13 l → Lacks 13 m → (k ≡ l) ⊎ (k ≡ l ++ 13 ∷ []) → (j ≡ m) ⊎ (j ≡ m ++ 13 ∷ []) → k ≡ j → l ≡ m
same_line l m k j hl hm (inl a) (inl b) e = sym a ∙ e ∙ b
same_line l m k j hl hm (inr a) (inr b) e = (split_at 13 l m [] [] hl hm (sym a ∙ e ∙ b)).0
same_line l m k j hl hm (inl a) (inr b) e = absurd ((Lacks_right 13 m (13 ∷ []) (subst (Lacks 13) (sym a ∙ e ∙ b) hl)).0 refl)
same_line l m k j hl hm (inr a) (inl b) e = absurd ((Lacks_right 13 l (13 ∷ []) (subst (Lacks 13) (sym (sym a ∙ e ∙ b)) hm)).0 refl)

pub lacks_feed : (l k : List ℕ) → Lacks 10 l → (k ≡ l) ⊎ (k ≡ l ++ 13 ∷ []) → Lacks 10 k
lacks_feed l k h (inl e) = subst (Lacks 10) (sym e) h
lacks_feed l k h (inr e) = subst (Lacks 10) (sym e) (Lacks-append 10 l (13 ∷ []) h (λ x. omega arith, tt))

first_same : (x y : ℕ) (xs ys : List ℕ) → x ∷ xs ≡ y ∷ ys → x ≡ y
first_same x y xs ys e = cc

other_first : (l u v : List ℕ) (x : ℕ) → x ≢ 45 → Lacks 45 l → l ++ x ∷ u ≡ 45 ∷ v → ⊥
other_first [] u v x other h e = other (first_same x 45 u v e)
other_first (y ∷ l) u v x other h e = h.0 (first_same y 45 (l ++ x ∷ u) v e)

-- a line without a hyphen, ended, doesn't begin with one
no_hyphen : (l k : List ℕ) → Lacks 45 l → (k ≡ l) ⊎ (k ≡ l ++ 13 ∷ []) → (u v : List ℕ) → k ++ 10 ∷ u ≡ 45 ∷ v → ⊥
no_hyphen l k h (inl a) u v e = other_first l u v 10 (λ x. omega arith) h (ap (λ x. x ++ 10 ∷ u) (sym a) ∙ e)
no_hyphen l k h (inr a) u v e =
    other_first l (10 ∷ u) v 13 (λ x. omega arith) h (sym (append_assoc l (13 ∷ []) (10 ∷ u)) ∙ ap (λ x. x ++ 10 ∷ u) (sym a) ∙ e)

pub record AreLines (ls : List (List ℕ)) : Type 0 where
  pub feeds : AllByRecursion (Lacks 10) ls
  pub returns : AllByRecursion (Lacks 13) ls
  pub hyphens : AllByRecursion (Lacks 45) ls

regroup : (k rest u : List ℕ) → ((k ++ 10 ∷ []) ++ rest) ++ u ≡ k ++ 10 ∷ (rest ++ u)
regroup k rest u = simp append_assoc

same_lines : (ls ms : List (List ℕ)) (a b u v u' v' : List ℕ) → AreLines ls → AreLines ms → AreEndedLines ls a → AreEndedLines ms b
    → u ≡ 45 ∷ u' → v ≡ 45 ∷ v' → a ++ u ≡ b ++ v → ls ≡ ms
same_lines [] [] a b u v u' v' hl hm ha hb eu ev e = refl
same_lines [] (m ∷ ms) a b u v u' v' hl hm ha (first, rest, parts, here, more) eu ev e =
    let f = up_to_feed m first here in
    let g : f.0 ++ 10 ∷ (rest ++ v) ≡ 45 ∷ u' =
    sym (regroup f.0 rest v) ∙ ap (λ x. (x ++ rest) ++ v) (sym f.1) ∙ ap (λ x. x ++ v) (sym parts) ∙ sym e ∙ ap (λ x. x ++ u) ha ∙ eu in
    absurd (no_hyphen m f.0 hm.hyphens.0 f.2 (rest ++ v) u' g)
same_lines (l ∷ ls) [] a b u v u' v' hl hm (first, rest, parts, here, more) hb eu ev e =
    let f = up_to_feed l first here in
    let g : f.0 ++ 10 ∷ (rest ++ u) ≡ 45 ∷ v' =
    sym (regroup f.0 rest u) ∙ ap (λ x. (x ++ rest) ++ u) (sym f.1) ∙ ap (λ x. x ++ u) (sym parts) ∙ e ∙ ap (λ x. x ++ v) hb ∙ ev in
    absurd (no_hyphen l f.0 hl.hyphens.0 f.2 (rest ++ u) v' g)
same_lines (l ∷ ls) (m ∷ ms) a b u v u' v' hl hm (first, rest, parts, here, more) (first', rest', parts', here', more') eu ev e =
    let f = up_to_feed l first here in
    let g = up_to_feed m first' here' in
    let h : f.0 ++ 10 ∷ (rest ++ u) ≡ g.0 ++ 10 ∷ (rest' ++ v) =
    sym (regroup f.0 rest u) ∙ ap (λ x. (x ++ rest) ++ u) (sym f.1) ∙ ap (λ x. x ++ u) (sym parts) ∙ e
    ∙ ap (λ x. x ++ v) parts' ∙ ap (λ x. (x ++ rest') ++ v) g.1 ∙ regroup g.0 rest' v in
    let s = split_at 10 f.0 g.0 (rest ++ u) (rest' ++ v) (lacks_feed l f.0 hl.feeds.0 f.2) (lacks_feed m g.0 hm.feeds.0 g.2) h in
    let one : l ≡ m = same_line l m f.0 g.0 hl.returns.0 hm.returns.0 f.2 g.2 s.0 in
    let others : ls ≡ ms = same_lines ls ms rest rest' u v u' v'
    (record { feeds = hl.feeds.1; returns = hl.returns.1; hyphens = hl.hyphens.1 })
    (record { feeds = hm.feeds.1; returns = hm.returns.1; hyphens = hm.hyphens.1 }) more more' eu ev s.1 in
    ap (λ x. x ∷ ls) one ∙ ap (λ xs. m ∷ xs) others

end_start : (t : List ℕ) → IsArmorEnd t → (rest : List ℕ) × (t ≡ 45 ∷ rest)
end_start t (inl e) = (_, e)
end_start t (inr (ended, space, parts, inl e, spaces)) = (_, parts ∙ ap (λ x. x ++ space) e)
end_start t (inr (ended, space, parts, inr e, spaces)) = (_, parts ∙ ap (λ x. x ++ space) e)

good_lines : (b : List ℕ) → AreBytes b → AreLines (armor_lines (padded_columns b))
good_lines b h = record {
  feeds = lines_lack 10 (padded_columns b) (Lacks_padded_columns 10 (omega arith) b h);
  returns = lines_lack 13 (padded_columns b) (Lacks_padded_columns 13 (omega arith) b h);
  hyphens = lines_lack 45 (padded_columns b) (Lacks_hyphen b h);
}

begin_lacks : Lacks 10 begin_marker
begin_lacks = lacks_tested 10 begin_marker refl

one_armored : (t x y : List ℕ) → AreBytes x → AreBytes y → CarriesArmored t x → CarriesArmored t y → x ≡ y
one_armored t x y hx hy p q =
    let (first, rest, parts, here, more) = p.lines in
    let (first', rest', parts', here', more') = q.lines in
    let f = up_to_feed begin_marker first here in
    let g = up_to_feed begin_marker first' here' in
    let h : f.0 ++ 10 ∷ (rest ++ p.end) ≡ g.0 ++ 10 ∷ (rest' ++ q.end) =
    sym (regroup f.0 rest p.end) ∙ ap (λ z. (z ++ rest) ++ p.end) (sym f.1) ∙ ap (λ z. z ++ p.end) (sym parts) ∙ sym p.whole
    ∙ q.whole ∙ ap (λ z. z ++ q.end) parts' ∙ ap (λ z. (z ++ rest') ++ q.end) g.1 ∙ regroup g.0 rest' q.end in
    let s = split_at 10 f.0 g.0 (rest ++ p.end) (rest' ++ q.end) (lacks_feed begin_marker f.0 begin_lacks f.2)
    (lacks_feed begin_marker g.0 begin_lacks g.2) h in
    let u = end_start p.end p.ends in
    let v = end_start q.end q.ends in
    let lines = same_lines (armor_lines (padded_columns x)) (armor_lines (padded_columns y)) rest rest' p.end q.end u.0 v.0 (good_lines x hx)
    (good_lines y hy) more more' u.1 v.1 s.1 in
    padded_columns_same x y hx hy (sym (lines_join (padded_columns x)) ∙ ap concat lines ∙ lines_join (padded_columns y))

armored_begins : (t x : List ℕ) → CarriesArmored t x → (rest : List ℕ) × (t ≡ begin_marker ++ rest)
armored_begins t x p =
    let (first, rest, parts, here, more) = p.lines in
    elim here [
      | inl e ↦ (10 ∷ [] ++ (rest ++ p.end), p.whole ∙ ap (λ z. z ++ p.end) (parts ∙ ap (λ z. z ++ rest) e) ∙ simp append_assoc)
      | inr e ↦ (13 ∷ 10 ∷ [] ++ (rest ++ p.end), p.whole ∙ ap (λ z. z ++ p.end) (parts ∙ ap (λ z. z ++ rest) e) ∙ simp append_assoc)
    ]

ways : (t x y : List ℕ) → AreBytes x → AreBytes y → CarriesArmored t x ⊎ CarriesBinary t x → CarriesArmored t y ⊎ CarriesBinary t y → x ≡ y
ways t x y hx hy (inl p) (inl q) = one_armored t x y hx hy p q
ways t x y hx hy (inl p) (inr q) = let b = armored_begins t x p in absurd (q.no_marker b.0 b.1)
ways t x y hx hy (inr p) (inl q) = let b = armored_begins t y q in absurd (p.no_marker b.0 b.1)
ways t x y hx hy (inr p) (inr q) = sym p.same ∙ q.same

pub carries_one : (text x y : List ℕ) → Carries text x → Carries text y → x ≡ y
carries_one text x y p q = ways text x y p.each q.each p.way q.way
