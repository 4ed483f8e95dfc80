-- Groups of 12 bytes and 16 columns, and lines of 48 bytes and 64 columns.
use Rattle.std.proofs.Common.{◌≡◌, ◌∙◌, ap, sym, refl, arith, ℕ, ◌+◌, ◌*◌, ◌%◌, ◌<◌, ◌≤◌, List, [], ◌∷◌, ◌++◌, length, take, drop, length-drop}
use Rattle.std.proofs.Math.Seq.{take-add}
use Rattle.std.proofs.lemmas.List.{append-nil, length-take-le, take_all, take_at, take-take, drop-drop}
use Rattle.std.proofs.lemmas.Slice.{take-put_mid}
use Rattle.std.proofs.lemmas.Simd.{Each1-chunk, put_chunk_whole, pick_l_left, pick_l-range_with_len}
use borrow.Rule.Slice.PartMut.{put_mid, post_of, same_len_mid}
use lib.Lanes.{Each1, put_chunk, pick_l}
use Rattle.base64.specs.Rfc4648.{encode_symbols, padding_len}
use Rattle.age_base64.specs.Base64.{padded_columns, symbols}
use Rattle.age_base64.proofs.PaddedColumns.{padded_columns-append, length-padded_columns}
use Rattle.base64_vectors.specs.Vectors.{indices, looked_up}

-- an index is below 64
pub indices_small : (bytes : List ℕ) → Each1 (λ x. x < 256) bytes → Each1 (λ index. index < 64) (indices bytes)
unfolding indices
indices_small [] h = tt
indices_small (a ∷ []) h = tt
indices_small (a ∷ b ∷ []) h = tt
indices_small (a ∷ b ∷ c ∷ rest) h =
    let ha = h.0 in
    let hb = h.1.0 in
    let hc = h.1.1.0 in
    (omega arith, (omega arith, (omega arith, (omega arith, indices_small rest h.1.1.1))))

pub group_small : (bytes group : List ℕ) → Each1 (λ x. x < 256) bytes → group ≡ indices (take 12 bytes) → Each1 (λ index. index < 64) group
group_small bytes group h is = rw is (indices_small (take 12 bytes) (Each1-chunk (λ x. x < 256) 0 12 bytes h))

-- symbols at the indices of bytes
symbols_of : (bytes : List ℕ) → length bytes % 3 ≡ 0 → looked_up symbols (indices bytes) ≡ encode_symbols symbols bytes
unfolding indices encode_symbols
symbols_of [] e = refl
symbols_of (a ∷ []) e = absurd (omega arith)
symbols_of (a ∷ b ∷ []) e = absurd (omega arith)
symbols_of (a ∷ b ∷ c ∷ rest) e =
    let more = symbols_of rest (omega arith) in
    rw more refl

pub columns_of : (bytes : List ℕ) → length bytes % 3 ≡ 0 → looked_up symbols (indices bytes) ≡ padded_columns bytes
unfolding padded_columns
columns_of bytes e =
    let none : padding_len (length bytes) ≡ 0 = omega (arith, e) in
    rw (none, append-nil) (symbols_of bytes e)

pub group_written : (bytes old group written : List ℕ) → length bytes ≡ 16 → length old ≡ 16 → group ≡ indices (take 12 bytes)
    → written ≡ looked_up symbols group
    → put_chunk 0 old written ≡ padded_columns (take 12 bytes)
group_written bytes old group written long room is at =
    let twelve : length (take 12 bytes) ≡ 12 = length-take-le 12 bytes (omega (arith, long)) in
    let same : written ≡ padded_columns (take 12 bytes) = at ∙ ap (looked_up symbols) is ∙ columns_of (take 12 bytes) (omega (arith, twelve)) in
    let size : length written ≡ 16 = ap length same ∙ length-padded_columns (take 12 bytes) ∙ omega (arith, twelve) in
    put_chunk_whole old written (room ∙ sym size) ∙ same

-- a part that is written anew keeps the length
pub kept : (a k : ℕ) (xs ys : List ℕ) → a + k ≤ length xs → length ys ≡ k → length (put_mid a k xs ys) ≡ length xs
kept a k xs ys fits e = same_len_mid a k xs ys (e ∙ sym (length-take-le k (drop a xs) (omega (arith, fits, length-drop a xs))))

-- a group more
group_more : (bytes : List ℕ) (n : ℕ) → n % 3 ≡ 0 → n ≤ length bytes
    → padded_columns (take (n + 12) bytes) ≡ padded_columns (take n bytes) ++ padded_columns (take 12 (drop n bytes))
group_more bytes n whole fits =
    let front : length (take n bytes) ≡ n = length-take-le n bytes fits in
    ap padded_columns (take-add n 12 bytes) ∙ padded_columns-append (take n bytes) (take 12 (drop n bytes)) (omega (arith, front, whole))

-- the four groups of a line
line_of_groups : (bytes : List ℕ) → length bytes ≡ 48
    → padded_columns bytes ≡ ((padded_columns (take 12 bytes) ++ padded_columns (take 12 (drop 12 bytes)))
    ++ padded_columns (take 12 (drop 24 bytes))) ++ padded_columns (take 12 (drop 36 bytes))
line_of_groups bytes long =
    ap padded_columns (sym (take_all 48 bytes (omega (arith, long)))) ∙ group_more bytes 36 refl (omega (arith, long))
    ∙ ap (λ l. l ++ padded_columns (take 12 (drop 36 bytes))) (group_more bytes 24 refl (omega (arith, long))
    ∙ ap (λ l. l ++ padded_columns (take 12 (drop 24 bytes))) (group_more bytes 12 refl (omega (arith, long))))

-- the bytes of a group among 16
front_of : (bytes : List ℕ) (n : ℕ) → take 12 (take 16 (take 16 (drop n bytes))) ≡ take 12 (drop n bytes)
front_of bytes n = take-take 12 16 (take 16 (drop n bytes)) (omega arith) ∙ take-take 12 16 (drop n bytes) (omega arith)

-- the last group stands behind the first four of the last 16 bytes
abbrev pub last_places : List ℕ
last_places = 4 ∷ 5 ∷ 6 ∷ 7 ∷ 8 ∷ 9 ∷ 10 ∷ 11 ∷ 12 ∷ 13 ∷ 14 ∷ 15 ∷ 0 ∷ 0 ∷ 0 ∷ 0 ∷ []

last_of : (bytes sixteen : List ℕ) → length bytes ≡ 48 → sixteen ≡ take 16 (take 16 (drop 32 bytes))
    → take 12 (pick_l 0 (sixteen ++ sixteen) last_places) ≡ take 12 (drop 36 bytes)
last_of bytes sixteen long is =
    let rest : length (drop 32 bytes) ≡ 16 = omega (arith, length-drop 32 bytes, long) in
    let same : sixteen ≡ drop 32 bytes = is ∙ take-take 16 16 (drop 32 bytes) (omega arith) ∙ take_all 16 (drop 32 bytes) (omega (arith, rest)) in
    let size : length sixteen ≡ 16 = ap length same ∙ rest in
    ap (take 12) (pick_l_left 0 sixteen sixteen 16 last_places size tt)
    ∙ pick_l-range_with_len 0 sixteen 4 12 (omega (arith, size))
    ∙ ap (λ l. take 12 (drop 4 l)) same ∙ ap (take 12) (drop-drop 4 32 bytes)

-- four groups that fill a line
pub four_written : (old w x y z : List ℕ) → length old ≡ 64 → length w ≡ 16 → length x ≡ 16 → length y ≡ 16 → length z ≡ 16
    → put_mid 48 16 (put_mid 32 16 (put_mid 16 16 (w ++ post_of 0 16 old) x) y) z ≡ ((w ++ x) ++ y) ++ z
four_written old w x y z long lw lx ly lz =
    let one : List ℕ = w ++ post_of 0 16 old in
    let two : List ℕ = put_mid 16 16 one x in
    let three : List ℕ = put_mid 32 16 two y in
    let l1 : length one ≡ 64 = kept 0 16 old w (omega (arith, long)) lw ∙ long in
    let l2 : length two ≡ 64 = kept 16 16 one x (omega (arith, l1)) lx ∙ l1 in
    let l3 : length three ≡ 64 = kept 32 16 two y (omega (arith, l2)) ly ∙ l2 in
    let l4 : length (put_mid 48 16 three z) ≡ 64 = kept 48 16 three z (omega (arith, l3)) lz ∙ l3 in
    sym (take_all 64 (put_mid 48 16 three z) (omega (arith, l4)))
    ∙ take-put_mid 48 16 three z 64 (omega (arith, lz)) (omega (arith, l3))
    ∙ ap (λ l. l ++ z) (take-put_mid 32 16 two y 48 (omega (arith, ly)) (omega (arith, l2))
    ∙ ap (λ l. l ++ y) (take-put_mid 16 16 one x 32 (omega (arith, lx)) (omega (arith, l1))
    ∙ ap (λ l. l ++ x) (take_at w (post_of 0 16 old) 16 lw)))

-- another line, after those before
pub another_line : (bytes columns line : List ℕ) (n k : ℕ) → 48 * n + 48 ≤ length bytes → 64 * n ≤ length columns
    → take (64 * n) columns ≡ padded_columns (take (48 * n) bytes) → line ≡ padded_columns (take 48 (drop (48 * n) bytes))
    → take (64 * (n + 1)) (put_mid (64 * n) k columns line) ≡ padded_columns (take (48 * (n + 1)) bytes)
another_line bytes columns line n k fits room before is =
    let front : length (take (48 * n) bytes) ≡ 48 * n = length-take-le (48 * n) bytes (omega (arith, fits)) in
    let part : List ℕ = take 48 (drop (48 * n) bytes) in
    let full : length part ≡ 48 = length-take-le 48 (drop (48 * n) bytes) (omega (arith, fits, length-drop (48 * n) bytes)) in
    let size : length line ≡ 64 = ap length is ∙ length-padded_columns part ∙ omega (arith, full) in
    let next : 48 * n + 48 ≡ 48 * (n + 1) = omega arith in
    take-put_mid (64 * n) k columns line (64 * (n + 1)) (omega (arith, size)) room
    ∙ ap (λ l. l ++ line) before ∙ ap (λ l. padded_columns (take (48 * n) bytes) ++ l) is
    ∙ sym (padded_columns-append (take (48 * n) bytes) part (omega (arith, front)))
    ∙ ap padded_columns (sym (take-add (48 * n) 48 bytes)) ∙ ap (λ m. padded_columns (take m bytes)) next

pub line_kept : (bytes columns line : List ℕ) (n k : ℕ) → k ≡ 64 → 48 * n + 48 ≤ length bytes → 64 * n + 64 ≤ length columns
    → line ≡ padded_columns (take 48 (drop (48 * n) bytes)) → length (put_mid (64 * n) k columns line) ≡ length columns
line_kept bytes columns line n k width fits room is =
    let part : List ℕ = take 48 (drop (48 * n) bytes) in
    let full : length part ≡ 48 = length-take-le 48 (drop (48 * n) bytes) (omega (arith, fits, length-drop (48 * n) bytes)) in
    let size : length line ≡ 64 = ap length is ∙ length-padded_columns part ∙ omega (arith, full) in
    kept (64 * n) k columns line (omega (arith, width, room)) (size ∙ sym width)

pub line_written : (bytes old w x y z : List ℕ) → length bytes ≡ 48 → length old ≡ 64
    → w ≡ padded_columns (take 12 (take 16 (take 16 bytes))) → x ≡ padded_columns (take 12 (take 16 (take 16 (drop 12 bytes))))
    → y ≡ padded_columns (take 12 (take 16 (take 16 (drop 24 bytes))))
    → z ≡ padded_columns (take 12 (pick_l 0 (take 16 (take 16 (drop 32 bytes)) ++ take 16 (take 16 (drop 32 bytes))) last_places))
    → put_mid 48 16 (put_mid 32 16 (put_mid 16 16 (w ++ post_of 0 16 old) x) y) z ≡ padded_columns bytes
line_written bytes old w x y z long room is_w is_x is_y is_z =
    let pw : w ≡ padded_columns (take 12 bytes) = is_w ∙ ap padded_columns (front_of bytes 0) in
    let px : x ≡ padded_columns (take 12 (drop 12 bytes)) = is_x ∙ ap padded_columns (front_of bytes 12) in
    let py : y ≡ padded_columns (take 12 (drop 24 bytes)) = is_y ∙ ap padded_columns (front_of bytes 24) in
    let pz : z ≡ padded_columns (take 12 (drop 36 bytes)) = is_z ∙ ap padded_columns (last_of bytes _ long refl) in
    four_written old w x y z room (sixteen w 0 (omega arith) pw) (sixteen x 12 (omega arith) px) (sixteen y 24 (omega arith) py)
    (sixteen z 36 (omega arith) pz)
    ∙ (λ i. ((pw i ++ px i) ++ py i) ++ pz i) ∙ sym (line_of_groups bytes long)
  where
    sixteen : (v : List ℕ) (n : ℕ) → n + 12 ≤ 48 → v ≡ padded_columns (take 12 (drop n bytes)) → length v ≡ 16
    sixteen v n fits e =
        let twelve : length (take 12 (drop n bytes)) ≡ 12 = length-take-le 12 (drop n bytes) (omega (arith, fits, length-drop n bytes, long)) in
        ap length e ∙ length-padded_columns (take 12 (drop n bytes)) ∙ omega (arith, twelve)
