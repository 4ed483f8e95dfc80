-- Lines that are decoded.
use Rattle.std.proofs.Common.{◌≡◌, ◌∙◌, ap, sym, subst, refl, arith, ℕ, suc, ◌+◌, ◌*◌, ◌%◌, ◌<◌, ◌≤◌, List, [], ◌∷◌, ◌++◌, length, take, drop, map, length-drop}
use Rattle.std.proofs.Math.Seq.{take-add}
use Rattle.std.proofs.lemmas.List.{append_assoc, length-append, length-take-le, take_all, take_at, drop_at, take-append-drop, take-take, take-append-le, drop-append-le}
use Rattle.std.proofs.lemmas.Slice.{take-put_mid}
use Rattle.std.specs.Prelude.{slice_index}
use Rattle.std.proofs.lemmas.Simd.{Each1-chunk, Each1-get_or, Each1-from_get_or, put_chunk_whole, pick_l-range_with_len}
use borrow.Rule.Slice.PartMut.{put_mid, post_of}
use lib.Lanes.{Each1, put_chunk, pick_l}
use Rattle.base64.specs.GeneralPurpose.{IsBytes}
use Rattle.age_base64.specs.Base64.{padded_columns, symbols}
use Rattle.age_base64.proofs.PaddedColumns.{padded_columns-append, length-padded_columns}
use Rattle.base64_vectors.specs.Vectors.{indices, looked_up, IsFaultless, index_of, fault_of}
use Rattle.base64_vectors.proofs.Indices.{below_at}
use Rattle.base64_vectors.proofs.Lines.{columns_of, indices_small, kept}
use Rattle.base64_vectors.proofs.Faults.{symbols_back, symbols_faultless}

-- the columns of a group that was decoded
pub group_decoded : (columns bytes : List ℕ) → length bytes ≡ 16 → Each1 (λ x. x < 256) columns → IsFaultless columns
    → indices (take 12 bytes) ≡ map index_of columns → padded_columns (take 12 bytes) ≡ columns
group_decoded columns bytes size fits right is =
    let twelve : length (take 12 bytes) ≡ 12 = length-take-le 12 bytes (omega (arith, size)) in
    sym (columns_of (take 12 bytes) (omega (arith, twelve))) ∙ ap (looked_up symbols) is ∙ symbols_back columns fits right

-- three vectors that have the bytes of four groups
abbrev first_places : List ℕ
first_places = 0 ∷ 1 ∷ 2 ∷ 3 ∷ 4 ∷ 5 ∷ 6 ∷ 7 ∷ 8 ∷ 9 ∷ 10 ∷ 11 ∷ 16 ∷ 17 ∷ 18 ∷ 19 ∷ []

abbrev middle_places : List ℕ
middle_places = 4 ∷ 5 ∷ 6 ∷ 7 ∷ 8 ∷ 9 ∷ 10 ∷ 11 ∷ 16 ∷ 17 ∷ 18 ∷ 19 ∷ 20 ∷ 21 ∷ 22 ∷ 23 ∷ []

abbrev last_places : List ℕ
last_places = 8 ∷ 9 ∷ 10 ∷ 11 ∷ 16 ∷ 17 ∷ 18 ∷ 19 ∷ 20 ∷ 21 ∷ 22 ∷ 23 ∷ 24 ∷ 25 ∷ 26 ∷ 27 ∷ []

module _ (xs ys : List ℕ) (lx : length xs ≡ 16) (ly : length ys ≡ 16) where
  both : length (xs ++ ys) ≡ 32
  both = length-append xs ys ∙ omega (arith, lx, ly)

  behind : (n : ℕ) → take n (drop 16 (xs ++ ys)) ≡ take n ys
  behind n = ap (take n) (drop_at xs ys 16 lx)

  firsts : pick_l 0 (xs ++ ys) first_places ≡ take 12 xs ++ take 4 ys
  firsts =
      (λ i. pick_l-range_with_len 0 (xs ++ ys) 0 12 (omega (arith, both)) i ++ pick_l-range_with_len 0 (xs ++ ys) 16 4 (omega (arith, both)) i)
      ∙ (λ i. take-append-le 12 xs ys (omega (arith, lx)) i ++ behind 4 i)

  middles : pick_l 0 (xs ++ ys) middle_places ≡ take 8 (drop 4 xs) ++ take 8 ys
  middles =
      (λ i. pick_l-range_with_len 0 (xs ++ ys) 4 8 (omega (arith, both)) i ++ pick_l-range_with_len 0 (xs ++ ys) 16 8 (omega (arith, both)) i)
      ∙ (λ i. (ap (take 8) (drop-append-le 4 xs ys (omega (arith, lx))) ∙ take-append-le 8 (drop 4 xs) ys (omega (arith, length-drop 4 xs, lx))) i
      ++ behind 8 i)

  lasts : pick_l 0 (xs ++ ys) last_places ≡ take 4 (drop 8 xs) ++ take 12 ys
  lasts =
      (λ i. pick_l-range_with_len 0 (xs ++ ys) 8 4 (omega (arith, both)) i ++ pick_l-range_with_len 0 (xs ++ ys) 16 12 (omega (arith, both)) i)
      ∙ (λ i. (ap (take 4) (drop-append-le 8 xs ys (omega (arith, lx))) ∙ take-append-le 4 (drop 8 xs) ys (omega (arith, length-drop 8 xs, lx))) i
      ++ behind 12 i)

-- three vectors that fill a line
three_written : (old x y z : List ℕ) → length old ≡ 48 → length x ≡ 16 → length y ≡ 16 → length z ≡ 16
    → put_mid 32 16 (put_mid 16 16 (put_chunk 0 (take 16 old) x ++ post_of 0 16 old)
    (put_chunk 0 (take 16 (drop 16 (put_chunk 0 (take 16 old) x ++ post_of 0 16 old))) y))
    (put_chunk 0 (take 16 (drop 32 (put_mid 16 16 (put_chunk 0 (take 16 old) x ++ post_of 0 16 old)
    (put_chunk 0 (take 16 (drop 16 (put_chunk 0 (take 16 old) x ++ post_of 0 16 old))) y)))) z)
    ≡ (x ++ y) ++ z
three_written old x y z long lx ly lz =
    let front : put_chunk 0 (take 16 old) x ≡ x = put_chunk_whole (take 16 old) x (length-take-le 16 old (omega (arith, long)) ∙ sym lx) in
    let one : List ℕ = put_chunk 0 (take 16 old) x ++ post_of 0 16 old in
    let l0 : length (put_chunk 0 (take 16 old) x) ≡ 16 = ap length front ∙ lx in
    let l1 : length one ≡ 48 = kept 0 16 old (put_chunk 0 (take 16 old) x) (omega (arith, long)) l0 ∙ long in
    let middle : put_chunk 0 (take 16 (drop 16 one)) y ≡ y =
    put_chunk_whole (take 16 (drop 16 one)) y (length-take-le 16 (drop 16 one) (omega (arith, length-drop 16 one, l1)) ∙ sym ly) in
    let two : List ℕ = put_mid 16 16 one (put_chunk 0 (take 16 (drop 16 one)) y) in
    let lm : length (put_chunk 0 (take 16 (drop 16 one)) y) ≡ 16 = ap length middle ∙ ly in
    let l2 : length two ≡ 48 = kept 16 16 one (put_chunk 0 (take 16 (drop 16 one)) y) (omega (arith, l1)) lm ∙ l1 in
    let back : put_chunk 0 (take 16 (drop 32 two)) z ≡ z =
    put_chunk_whole (take 16 (drop 32 two)) z (length-take-le 16 (drop 32 two) (omega (arith, length-drop 32 two, l2)) ∙ sym lz) in
    let lb : length (put_chunk 0 (take 16 (drop 32 two)) z) ≡ 16 = ap length back ∙ lz in
    let l3 : length (put_mid 32 16 two (put_chunk 0 (take 16 (drop 32 two)) z)) ≡ 48 =
    kept 32 16 two (put_chunk 0 (take 16 (drop 32 two)) z) (omega (arith, l2)) lb ∙ l2 in
    sym (take_all 48 (put_mid 32 16 two (put_chunk 0 (take 16 (drop 32 two)) z)) (omega (arith, l3)))
    ∙ take-put_mid 32 16 two (put_chunk 0 (take 16 (drop 32 two)) z) 48 (omega (arith, lb)) (omega (arith, l2))
    ∙ (λ i. (take-put_mid 16 16 one (put_chunk 0 (take 16 (drop 16 one)) y) 32 (omega (arith, lm)) (omega (arith, l1))
    ∙ (λ j. (take_at (put_chunk 0 (take 16 old) x) (post_of 0 16 old) 16 l0 ∙ front) j ++ middle j)) i ++ back i)

module _ (a b c d old : List ℕ) (la : length a ≡ 16) (lb : length b ≡ 16) (lc : length c ≡ 16) (ld : length d ≡ 16) (long : length old ≡ 48) where
  abbrev x : List ℕ
  x = pick_l 0 (a ++ b) first_places

  abbrev y : List ℕ
  y = pick_l 0 (b ++ c) middle_places

  abbrev z : List ℕ
  z = pick_l 0 (c ++ d) last_places

  groups : (x ++ y) ++ z ≡ ((take 12 a ++ take 12 b) ++ take 12 c) ++ take 12 d
  groups =
      let second : take 12 b ≡ take 4 b ++ take 8 (drop 4 b) = take-add 4 8 b in
      let third : take 12 c ≡ take 8 c ++ take 4 (drop 8 c) = take-add 8 4 c in
      (λ i. (firsts a b la lb i ++ middles b c lb lc i) ++ lasts c d lc ld i)
      ∙ regrouped (take 12 a) (take 4 b) (take 8 (drop 4 b)) (take 8 c) (take 4 (drop 8 c)) (take 12 d)
      ∙ (λ i. ((take 12 a ++ sym second i) ++ sym third i) ++ take 12 d)
    where
      regrouped : (p q r s t u : List ℕ) → ((p ++ q) ++ (r ++ s)) ++ (t ++ u) ≡ ((p ++ (q ++ r)) ++ (s ++ t)) ++ u
      regrouped p q r s t u =
          sym (append_assoc ((p ++ q) ++ (r ++ s)) t u)
          ∙ ap (λ l. l ++ u) (ap (λ l. l ++ t) (sym (append_assoc (p ++ q) r s)) ∙ append_assoc ((p ++ q) ++ r) s t
          ∙ ap (λ l. l ++ (s ++ t)) (append_assoc p q r))

  pub line_written : put_mid 32 16 (put_mid 16 16 (put_chunk 0 (take 16 old) x ++ post_of 0 16 old)
      (put_chunk 0 (take 16 (drop 16 (put_chunk 0 (take 16 old) x ++ post_of 0 16 old))) y))
      (put_chunk 0 (take 16 (drop 32 (put_mid 16 16 (put_chunk 0 (take 16 old) x ++ post_of 0 16 old)
      (put_chunk 0 (take 16 (drop 16 (put_chunk 0 (take 16 old) x ++ post_of 0 16 old))) y)))) z)
      ≡ ((take 12 a ++ take 12 b) ++ take 12 c) ++ take 12 d
  line_written = three_written old x y z long refl refl refl ∙ groups

  pub length-line : length (((take 12 a ++ take 12 b) ++ take 12 c) ++ take 12 d) ≡ 48
  length-line =
      let ta : length (take 12 a) ≡ 12 = length-take-le 12 a (omega (arith, la)) in
      let tb : length (take 12 b) ≡ 12 = length-take-le 12 b (omega (arith, lb)) in
      let tc : length (take 12 c) ≡ 12 = length-take-le 12 c (omega (arith, lc)) in
      let td : length (take 12 d) ≡ 12 = length-take-le 12 d (omega (arith, ld)) in
      rw (length-append, length-append, length-append) (omega (arith, ta, tb, tc, td))

-- the columns of four groups are those of a line
columns_of_groups : (p q r s : List ℕ) → length p ≡ 12 → length q ≡ 12 → length r ≡ 12
    → padded_columns (((p ++ q) ++ r) ++ s) ≡ ((padded_columns p ++ padded_columns q) ++ padded_columns r) ++ padded_columns s
columns_of_groups p q r s lp lq lr =
    padded_columns-append ((p ++ q) ++ r) s (omega (arith, length-append (p ++ q) r, length-append p q, lp, lq, lr))
    ∙ ap (λ l. l ++ padded_columns s) (padded_columns-append (p ++ q) r (omega (arith, length-append p q, lp, lq))
    ∙ ap (λ l. l ++ padded_columns r) (padded_columns-append p q (omega (arith, lp))))

-- the four vectors of a line's columns
quarter : (columns : List ℕ) (n : ℕ) → take 16 (take 16 (drop n columns)) ≡ take 16 (drop n columns)
quarter columns n = take-take 16 16 (drop n columns) (omega arith)

quarters : (columns : List ℕ) → length columns ≡ 64
    → ((take 16 (take 16 columns) ++ take 16 (take 16 (drop 16 columns))) ++ take 16 (take 16 (drop 32 columns)))
    ++ take 16 (take 16 (drop 48 columns)) ≡ columns
quarters columns long =
    (λ i. ((quarter columns 0 i ++ quarter columns 16 i) ++ quarter columns 32 i) ++ quarter columns 48 i)
    ∙ ap (λ l. (l ++ take 16 (drop 32 columns)) ++ take 16 (drop 48 columns)) (sym (take-add 16 16 columns))
    ∙ ap (λ l. l ++ take 16 (drop 48 columns)) (sym (take-add 32 16 columns))
    ∙ sym (take-add 48 16 columns) ∙ take_all 64 columns (omega (arith, long))

pub line_decoded : (columns new a b c d : List ℕ) → length columns ≡ 64 → length a ≡ 16 → length b ≡ 16 → length c ≡ 16
    → new ≡ ((take 12 a ++ take 12 b) ++ take 12 c) ++ take 12 d
    → padded_columns (take 12 a) ≡ take 16 (take 16 columns) → padded_columns (take 12 b) ≡ take 16 (take 16 (drop 16 columns))
    → padded_columns (take 12 c) ≡ take 16 (take 16 (drop 32 columns)) → padded_columns (take 12 d) ≡ take 16 (take 16 (drop 48 columns))
    → padded_columns new ≡ columns
line_decoded columns new a b c d long la lb lc is ia ib ic id =
    ap padded_columns is
    ∙ columns_of_groups (take 12 a) (take 12 b) (take 12 c) (take 12 d) (length-take-le 12 a (omega (arith, la)))
    (length-take-le 12 b (omega (arith, lb))) (length-take-le 12 c (omega (arith, lc)))
    ∙ (λ i. ((ia i ++ ib i) ++ ic i) ++ id i) ∙ quarters columns long

-- base64 of whole groups has no faults
columns_faultless : (content columns : List ℕ) → IsBytes content → length content % 3 ≡ 0 → padded_columns content ≡ columns → IsFaultless columns
columns_faultless content columns bytes whole is =
    let each : Each1 (λ x. x < 256) content = Each1-from_get_or (λ x. x < 256) content 0 (λ i h. bytes i) in
    subst IsFaultless (columns_of content whole ∙ is) (symbols_faultless (indices content) (indices_small content each))

pub quarter_faultless : (content columns : List ℕ) (n : ℕ) → IsBytes content → length content ≡ 48 → padded_columns content ≡ columns
    → IsFaultless (take 16 (take 16 (drop n columns)))
quarter_faultless content columns n bytes long is =
    let all = columns_faultless content columns bytes (omega (arith, long)) is in
    Each1-chunk (λ c. fault_of c ≡ 0) 0 16 (take 16 (drop n columns)) (Each1-chunk (λ c. fault_of c ≡ 0) n 16 columns all)

-- another line, after those before
pub another_decoded : (columns bytes line : List ℕ) (n k : ℕ) → 48 * n ≤ length bytes → length line ≡ 48
    → padded_columns (take (48 * n) bytes) ≡ take (64 * n) columns → padded_columns line ≡ take 64 (drop (64 * n) columns)
    → padded_columns (take (48 * (n + 1)) (put_mid (48 * n) k bytes line)) ≡ take (64 * (n + 1)) columns
another_decoded columns bytes line n k room size before is =
    let front : length (take (48 * n) bytes) ≡ 48 * n = length-take-le (48 * n) bytes room in
    let next : 64 * n + 64 ≡ 64 * (n + 1) = omega arith in
    ap padded_columns (take-put_mid (48 * n) k bytes line (48 * (n + 1)) (omega (arith, size)) room)
    ∙ padded_columns-append (take (48 * n) bytes) line (omega (arith, front))
    ∙ (λ i. before i ++ is i) ∙ sym (take-add (64 * n) 64 columns) ∙ ap (λ m. take m columns) next

-- the line of content whose columns these are
pub line_at : (content columns : List ℕ) (n : ℕ) → 48 * n + 48 ≤ length content → padded_columns content ≡ columns
    → padded_columns (take 48 (drop (48 * n) content)) ≡ take 64 (drop (64 * n) columns)
line_at content columns n fits is =
    let front : List ℕ = take (48 * n) content in
    let rest : List ℕ = drop (48 * n) content in
    let one : List ℕ = take 48 rest in
    let more : List ℕ = padded_columns (drop 48 rest) in
    let before : length front ≡ 48 * n = length-take-le (48 * n) content (omega (arith, fits)) in
    let full : length one ≡ 48 = length-take-le 48 rest (omega (arith, fits, length-drop (48 * n) content)) in
    let columns_before : length (padded_columns front) ≡ 64 * n = omega (arith, before, length-padded_columns front) in
    let columns_full : length (padded_columns one) ≡ 64 = omega (arith, full, length-padded_columns one) in
    let whole : padded_columns content ≡ padded_columns front ++ (padded_columns one ++ more) =
    ap padded_columns (sym (take-append-drop (48 * n) content)) ∙ padded_columns-append front rest (omega (arith, before))
    ∙ ap (λ z. padded_columns front ++ z) (ap padded_columns (sym (take-append-drop 48 rest))
    ∙ padded_columns-append one (drop 48 rest) (omega (arith, full))) in
    sym (ap (λ z. take 64 (drop (64 * n) z)) (sym is ∙ whole)
    ∙ ap (take 64) (drop_at (padded_columns front) (padded_columns one ++ more) (64 * n) columns_before)
    ∙ take_at (padded_columns one) more 64 columns_full)

pub line_bytes : (content : List ℕ) (n : ℕ) → IsBytes content → IsBytes (take 48 (drop n content))
line_bytes content n bytes =
    below_at (take 48 (drop n content)) (Each1-chunk (λ x. x < 256) n 48 content (Each1-from_get_or (λ x. x < 256) content 0 (λ i h. bytes i)))

pub pairs_below : (xs pairs : List ℕ) → length xs ≡ 16 → Each1 (λ index. index < 64) xs
    → ((j : ℕ) → j < 8 → slice_index pairs j ≡ 64 * slice_index xs (2 * j) + slice_index xs (2 * j + 1)) → (j : ℕ) → j < 8
    → slice_index pairs j < 4096
pairs_below xs pairs long small paired j h =
    let one : slice_index xs (2 * j) < 64 = Each1-get_or (λ index. index < 64) xs (2 * j) 0 (omega (arith, long)) small in
    let two : slice_index xs (2 * j + 1) < 64 = Each1-get_or (λ index. index < 64) xs (2 * j + 1) 0 (omega (arith, long)) small in
    let is = paired j h in
    omega (arith, is, one, two)

pub length-mapped : (columns indices : List ℕ) → length columns ≡ 16 → indices ≡ map index_of columns → length indices ≡ 16
length-mapped columns indices long is = ap length is ∙ mapped columns ∙ long
  where
    mapped : (xs : List ℕ) → length (map index_of xs) ≡ length xs
    mapped [] = refl
    mapped (x ∷ xs) = ap suc (mapped xs)
