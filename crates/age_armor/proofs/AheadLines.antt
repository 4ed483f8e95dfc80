-- Lines that are decoded before they are taken.
use Rattle.std.proofs.Common.{◌≡◌, ℕ, zero, suc, Some, ◌+◌, ◌-◌, ◌*◌, ◌≤◌, ◌<◌, List, [], ◌∷◌, ◌++◌, length, take, drop, slice_index, refl, ap, sym, ◌∙◌, arith, length-append, length-drop}
use Rattle.std.proofs.Math.Seq.{take-add}
use Rattle.std.proofs.lemmas.List.{append-nil, take-append-drop, length-take-le, take_at, drop_at, take_all, take-take, drop-take, drop-drop, drop_more, get_or-drop}
use Rattle.std.proofs.lemmas.Slice.{take-put_mid}
use borrow.Rule.Slice.PartMut.{put_mid}
use Rattle.age_error.specs.Bytes.{AreBytes}
use Rattle.age_io.specs.Stretch.{Stretch}
use Rattle.age_io.specs.Reading.{Delivers}
use Rattle.age_base64.specs.Lines.{line}
use Rattle.age_base64.specs.Base64.{padded_columns}
use Rattle.age_base64.proofs.PaddedColumns.{padded_columns-append, length-padded_columns}
use Rattle.age_v1.specs.ArmorLineVerdict.{decoded}
use Rattle.age_v1.specs.ArmorFullLines.{full_lines}
use Rattle.age_v1.proofs.FullArmorLines.{full_lines-front, full_lines-both}
use Rattle.age_v1.proofs.DeliveredArmors.{decoded_is}
use Rattle.age_armor.specs.Showing.{IsAhead}
use Rattle.age_armor.specs.PrivateShowing.{TakesFull}
use Rattle.age_armor.proofs.Encoded.{columns_at}

-- ---- lines that are gathered

-- the columns of the first bytes
columns_front : (bytes : List ℕ) (n : ℕ) → 48 * n ≤ length bytes → take (64 * n) (padded_columns bytes) ≡ padded_columns (take (48 * n) bytes)
columns_front bytes n fits =
    let front : List ℕ = take (48 * n) bytes in
    let before : length front ≡ 48 * n = length-take-le (48 * n) bytes fits in
    let columns : length (padded_columns front) ≡ 64 * n = omega (arith, before, length-padded_columns front) in
    ap (λ z. take (64 * n) (padded_columns z)) (sym (take-append-drop (48 * n) bytes))
    ∙ ap (take (64 * n)) (padded_columns-append front (drop (48 * n) bytes) (omega (arith, before)))
    ∙ take_at (padded_columns front) (padded_columns (drop (48 * n) bytes)) (64 * n) columns

-- columns and the LF after them
line_shown : (rest columns : List ℕ) → 65 ≤ length rest → slice_index rest 64 ≡ 10 → take 64 rest ≡ columns → take 65 rest ≡ line columns
line_shown rest columns long feed is =
    let next : drop 64 rest ≡ slice_index rest 64 ∷ drop 65 rest = drop_more rest 64 0 (omega (arith, long)) in
    take-add 64 1 rest ∙ ap (λ z. z ++ take 1 (drop 64 rest)) is ∙ ap (λ z. columns ++ take 1 z) next ∙ ap (λ z. columns ++ z ∷ []) feed

-- another line among those that were gathered
pub gathered : (front columns new : List ℕ) (n k : ℕ) → new ≡ put_mid (64 * n) k columns (take 64 (drop (65 * n) front)) →
    64 * n ≤ length columns → 65 * (n + 1) ≤ length front → slice_index front (65 * n + 64) ≡ 10 →
    ((bytes : List ℕ) → length bytes ≡ 48 * n → take (64 * n) columns ≡ padded_columns bytes → take (65 * n) front ≡ full_lines n bytes) →
    (bytes : List ℕ) → length bytes ≡ 48 * (n + 1) → take (64 * (n + 1)) new ≡ padded_columns bytes
    → take (65 * (n + 1)) front ≡ full_lines (n + 1) bytes
unfolding full_lines
gathered front columns new n k is room long feed before bytes size same =
    let rest : List ℕ = drop (65 * n) front in
    let one : List ℕ = take 64 rest in
    let here : List ℕ = take (64 * n) columns in
    let front_bytes : List ℕ = take (48 * n) bytes in
    let line_bytes : List ℕ = take 48 (drop (48 * n) bytes) in
    let rest_long : 65 ≤ length rest = omega (arith, long, length-drop (65 * n) front) in
    let one_size : length one ≡ 64 = length-take-le 64 rest (omega (arith, rest_long)) in
    let here_size : length here ≡ 64 * n = length-take-le (64 * n) columns room in
    let parts : here ++ one ≡ padded_columns bytes =
    sym (take-put_mid (64 * n) k columns one (64 * (n + 1)) (omega (arith, one_size)) room) ∙ ap (take (64 * (n + 1))) (sym is) ∙ same in
    let first : here ≡ padded_columns front_bytes =
    sym (take_at here one (64 * n) here_size) ∙ ap (take (64 * n)) parts ∙ columns_front bytes n (omega (arith, size)) in
    let last : one ≡ padded_columns line_bytes =
    sym (take_all 64 one (omega (arith, one_size))) ∙ ap (take 64) (sym (drop_at here one (64 * n) here_size) ∙ ap (drop (64 * n)) parts)
    ∙ columns_at bytes n (omega (arith, size)) in
    let front_size : length front_bytes ≡ 48 * n = length-take-le (48 * n) bytes (omega (arith, size)) in
    let lines : take (65 * n) front ≡ full_lines n bytes =
    before front_bytes front_size first ∙ sym (full_lines-front n front_bytes (drop (48 * n) bytes) (omega (arith, front_size)))
    ∙ ap (full_lines n) (take-append-drop (48 * n) bytes) in
    let shown : take 65 rest ≡ line (padded_columns line_bytes) =
    line_shown rest (padded_columns line_bytes) rest_long (get_or-drop (65 * n) front 64 0 ∙ feed) last in
    let count : 65 * (n + 1) ≡ 65 * n + 65 = omega arith in
    ap (λ k. take k front) count ∙ take-add (65 * n) 65 front ∙ ap (λ z. z ++ take 65 rest) lines
    ∙ ap (λ z. full_lines n bytes ++ z) (shown ∙ sym (append-nil (line (padded_columns line_bytes)))) ∙ sym (full_lines-both n 1 bytes)

-- ---- lines that are ahead

pub ahead_none : (bytes shown : List ℕ) (next : ℕ) → IsAhead bytes next 0 shown
unfolding full_lines
ahead_none bytes shown next = record { room = omega arith; within = omega arith; lines = refl }

-- lines that were decoded
pub ahead_decoded : (front columns bytes more : List ℕ) (n : ℕ) → 65 * n ≤ length front →
    ((bytes : List ℕ) → length bytes ≡ 48 * n → take (64 * n) columns ≡ padded_columns bytes → take (65 * n) front ≡ full_lines n bytes) →
    length bytes ≡ 48 * n → decoded (take (64 * n) columns) ≡ Some bytes → IsAhead (bytes ++ more) 0 n front
ahead_decoded front columns bytes more n long gathered size stands =
    let is = decoded_is (take (64 * n) columns) bytes stands in
    record {
      room = omega (arith, size, length-append bytes more);
      within = long;
      lines = gathered bytes size is.1 ∙ sym (full_lines-front n bytes more (omega (arith, size)));
    }

-- more bytes after them
pub ahead_wider : (bytes more shown : List ℕ) (n : ℕ) → IsAhead bytes 0 n shown → IsAhead (bytes ++ more) 0 n shown
ahead_wider bytes more shown n h = record {
  room = omega (arith, h.room, length-append bytes more);
  within = h.within;
  lines = h.lines ∙ sym (full_lines-front n bytes more (omega (arith, h.room)));
}

-- ---- lines that are taken

-- the first of them
ahead_first : (bytes shown : List ℕ) (next left : ℕ) → IsAhead bytes next left shown → 0 < left
    → take 65 shown ≡ line (padded_columns (take 48 (drop next bytes)))
unfolding full_lines
ahead_first bytes shown next zero h some = absurd (omega (arith, some))
ahead_first bytes shown next (suc left) h some =
    let one : List ℕ = take 48 (drop next bytes) in
    let size : length one ≡ 48 = length-take-le 48 (drop next bytes) (omega (arith, h.room, length-drop next bytes)) in
    let columns : length (line (padded_columns one)) ≡ 65 =
    omega (arith, length-append (padded_columns one) (10 ∷ []), length-padded_columns one, size) in
    sym (take-take 65 (65 * suc left) shown (omega arith)) ∙ ap (take 65) h.lines
    ∙ take_at (line (padded_columns one)) (full_lines left (drop 48 (drop next bytes))) 65 columns

pub ahead_taken : (bytes shown line_bytes : List ℕ) (next left : ℕ) (old new : Stretch) → IsAhead bytes next left shown → 0 < left →
    line_bytes ≡ take 48 (drop next bytes) → AreBytes line_bytes → Delivers (take 65 shown) old new → TakesFull line_bytes old new
ahead_taken bytes shown line_bytes next left old new h some is each d = record {
  size = ap length is ∙ length-take-le 48 (drop next bytes) (omega (arith, h.room, some, length-drop next bytes));
  each = each;
  delivered = rw (is, ← ahead_first bytes shown next left h some) d;
}

-- those after it
pub ahead_rest : (bytes shown other : List ℕ) (next left : ℕ) → IsAhead bytes next left shown → 0 < left → other ≡ drop 65 shown
    → IsAhead bytes (next + 48) (left - 1) other
unfolding full_lines
ahead_rest bytes shown other next zero h some is = absurd (omega (arith, some))
ahead_rest bytes shown other next (suc left) h some is =
    let one : List ℕ = take 48 (drop next bytes) in
    let size : length one ≡ 48 = length-take-le 48 (drop next bytes) (omega (arith, h.room, length-drop next bytes)) in
    let columns : length (line (padded_columns one)) ≡ 65 =
    omega (arith, length-append (padded_columns one) (10 ∷ []), length-padded_columns one, size) in
    let less : suc left - 1 ≡ left = omega arith in
    let count : 65 + 65 * left ≡ 65 * suc left = omega arith in
    let lines : take (65 * left) other ≡ full_lines left (drop (next + 48) bytes) =
    ap (take (65 * left)) is ∙ sym (drop-take 65 (65 * left) shown) ∙ ap (λ k. drop 65 (take k shown)) count ∙ ap (drop 65) h.lines
    ∙ drop_at (line (padded_columns one)) (full_lines left (drop 48 (drop next bytes))) 65 columns ∙ ap (full_lines left) (drop-drop 48 next bytes) in
    record {
      room = omega (arith, h.room);
      within = omega (arith, h.within, ap length is, length-drop 65 shown);
      lines = rw less lines;
    }
