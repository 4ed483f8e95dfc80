-- Lines that were encoded into a buffer.
use Rattle.std.proofs.Common.{◌≡◌, ℕ, Bool, false, ◌+◌, ◌*◌, ◌/◌, ◌<◌, ◌≤◌, true, List, [], ◌∷◌, ◌++◌, length, take, drop, slice_index, slice_set, refl, ap, sym, ◌∙◌, arith, append_assoc, length-drop, Result, Ok}
use Rattle.std.proofs.lemmas.List.{append-nil, drop_more, drop_all, take-append-drop, length-append, length-replicate, length-take-le, set_at, take_at, drop_at}
use Rattle.std.proofs.lemmas.Slice.{take-put_mid}
use borrow.Rule.Slice.PartMut.{put_mid}
use Rattle.base64.specs.Rfc4648.{encode, encoded_size}
use Rattle.base64.specs.GeneralPurpose.{encode_of, encoded_size_of}
use Rattle.base64.specs.declared.engine.general_purpose.GeneralPurpose.{GeneralPurpose}
use Rattle.base64.specs.declared.encode.EncodeSliceError.{EncodeSliceError}
use Rattle.base64.proofs.RoundTrip.{length-encode_symbols}
use Rattle.age_base64.specs.Lines.{line}
use Rattle.age_base64.specs.Base64.{padded_columns}
use Rattle.age_base64.proofs.PaddedColumns.{padded_columns-append, length-padded_columns}
use Rattle.age_v1.specs.ArmorFullLines.{full_lines}
use Rattle.age_v1.proofs.FullArmorLines.{full_lines-both}

-- the columns of a line among those of many
pub columns_at : (bytes : List ℕ) (n : ℕ) → 48 * n + 48 ≤ length bytes →
    take 64 (drop (64 * n) (padded_columns bytes)) ≡ padded_columns (take 48 (drop (48 * n) bytes))
columns_at bytes n fits =
    let front : List ℕ = take (48 * n) bytes in
    let rest : List ℕ = drop (48 * n) bytes in
    let one : List ℕ = take 48 rest in
    let more : List ℕ = padded_columns (drop 48 rest) in
    let before : length front ≡ 48 * n = length-take-le (48 * n) bytes (omega (arith, fits)) in
    let full : length one ≡ 48 = length-take-le 48 rest (omega (arith, fits, length-drop (48 * n) bytes)) in
    let columns_before : length (padded_columns front) ≡ 64 * n = omega (arith, before, length-padded_columns front) in
    let columns_full : length (padded_columns one) ≡ 64 = omega (arith, full, length-padded_columns one) in
    let whole : padded_columns bytes ≡ padded_columns front ++ (padded_columns one ++ more) =
    ap padded_columns (sym (take-append-drop (48 * n) bytes)) ∙ padded_columns-append front rest (omega (arith, before))
    ∙ ap (λ z. padded_columns front ++ z) (ap padded_columns (sym (take-append-drop 48 rest))
    ∙ padded_columns-append one (drop 48 rest) (omega (arith, full))) in
    ap (λ z. take 64 (drop (64 * n) z)) whole
    ∙ ap (take 64) (drop_at (padded_columns front) (padded_columns one ++ more) (64 * n) columns_before)
    ∙ take_at (padded_columns one) more 64 columns_full

-- columns that fill what they were written over
pub filled : (cols old new : List ℕ) (n : ℕ) → new ≡ cols ++ drop n old → length old ≤ n → new ≡ cols
filled cols old new n is over = is ∙ ap (λ z. cols ++ z) (drop_all n old over) ∙ append-nil cols

-- another line in its place
pub another_line : (bytes text ys : List ℕ) (n k : ℕ) → 65 * n ≤ length text → length ys ≡ 65 →
    take (65 * n) text ≡ full_lines n bytes → ys ≡ line (padded_columns (take 48 (drop (48 * n) bytes))) →
    take (65 * (n + 1)) (put_mid (65 * n) k text ys) ≡ full_lines (n + 1) bytes
unfolding full_lines
another_line bytes text ys n k fits size done is =
    let l : List ℕ = line (padded_columns (take 48 (drop (48 * n) bytes))) in
    take-put_mid (65 * n) k text ys (65 * (n + 1)) (omega (arith, size)) fits
    ∙ ap (λ z. z ++ ys) done ∙ ap (λ z. full_lines n bytes ++ z) (is ∙ sym (append-nil l))
    ∙ sym (full_lines-both n 1 bytes)

length-encode : (t : List ℕ) (pad : ℕ) (padding : Bool) (bytes : List ℕ) → length (encode t pad padding bytes) ≡ encoded_size (length bytes) padding
length-encode t pad true bytes = rw (length-append, length-encode_symbols t bytes, length-replicate) refl
length-encode t pad false bytes = rw append-nil (length-encode_symbols t bytes)

pub encoded_size-is : (e : GeneralPurpose) → ((bytes : List ℕ) → encode_of e bytes ≡ padded_columns bytes) → (bytes : List ℕ) →
    encoded_size_of e (length bytes) ≡ 4 * ((length bytes + 2) / 3)
encoded_size-is e h bytes = sym (length-encode _ _ _ bytes) ∙ ap length (h bytes) ∙ length-padded_columns bytes

-- how many columns were written, where they fit
pub count-is : (e : GeneralPurpose) → ((bytes : List ℕ) → encode_of e bytes ≡ padded_columns bytes)
    → (bytes : List ℕ) (room count : ℕ) (result : Result ℕ EncodeSliceError) →
    result ≡ Ok count → 4 * ((length bytes + 2) / 3) ≤ room
    → (encoded_size_of e (length bytes) ≤ room → result ≡ Ok (encoded_size_of e (length bytes))) →
    count ≡ encoded_size_of e (length bytes)
count-is e h bytes room count result is fits ensured =
    let same : Path (Result ℕ EncodeSliceError) (Ok count) (Ok (encoded_size_of e (length bytes))) =
    sym is ∙ ensured (omega (arith, encoded_size-is e h bytes, fits)) in
    cc

-- LF after columns that were written to the front
pub ended_line : (cols old new : List ℕ) (n : ℕ) → new ≡ cols ++ drop n old → length cols ≡ n → n < length new →
    take (n + 1) (slice_set new n 10) ≡ line cols
ended_line cols old new n is size fits =
    let rest : List ℕ = drop (n + 1) new in
    let front : take n new ≡ cols = ap (take n) is ∙ take_at cols (drop n old) n size in
    let split : new ≡ cols ++ slice_index new n ∷ rest =
    sym (take-append-drop n new) ∙ ap (λ z. z ++ drop n new) front ∙ ap (λ z. cols ++ z) (drop_more new n 0 fits) in
    let set : slice_set (cols ++ slice_index new n ∷ rest) n 10 ≡ cols ++ 10 ∷ rest = set_at cols (slice_index new n) rest 10 n size in
    let long : length (cols ++ 10 ∷ []) ≡ n + 1 = omega (arith, size, length-append cols (10 ∷ [])) in
    ap (λ z. take (n + 1) (slice_set z n 10)) split
    ∙ ap (take (n + 1)) (set ∙ sym (append_assoc cols (10 ∷ []) rest)) ∙ take_at (cols ++ 10 ∷ []) rest (n + 1) long
