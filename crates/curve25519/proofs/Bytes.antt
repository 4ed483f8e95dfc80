-- Numbers and their bytes.
use Rattle.std.proofs.Common.{◌≡◌, ℕ, zero, suc, ◌+◌, ◌*◌, ◌/◌, ◌%◌, ◌^◌, ◌<◌, ◌≤◌, List, [], ◌∷◌, length, All, get_or, set, sym, ap, refl, ◌∙◌, arith, mod-lt, length-set, get_or-set_same}
use Rattle.std.proofs.Math.Nat.{mod-eq_of_lt, mod-add-div, add-mul-mod_self_left}
use Rattle.std.proofs.lemmas.Nat.{pow-add, pow_pos, and_le_l, and_le_r, and_mask, or_lt}
use Rattle.std.proofs.lemmas.List.Elements.{All-cons, All-nil, All-head, All-tail, All-get_or, All-set}
use Rattle.std.specs.Int.Bits.{bit_and, bit_or}
use Rattle.curve25519.specs.Encoding.{decode_little_endian, encode_little_endian, decode_u_coordinate, clamped, decode_scalar}

abbrev pub IsByte : ℕ → Type 0
IsByte x = x < 2 ^ 8

pub power_of_bytes : (n : ℕ) → 2 ^ (8 * suc n) ≡ 256 * 2 ^ (8 * n)
power_of_bytes n = let s : 8 * suc n ≡ 8 + 8 * n = omega arith in ap (λ k. 2 ^ k) s ∙ pow-add 2 8 (8 * n)

pub decode-encode : (n v : ℕ) → v < 2 ^ (8 * n) → decode_little_endian (encode_little_endian n v) ≡ v
unfolding decode_little_endian encode_little_endian
decode-encode zero v h = omega arith
decode-encode (suc n) v h =
    let e = power_of_bytes n in
    let small : v / 256 < 2 ^ (8 * n) = omega arith in
    let i = decode-encode n (v / 256) small in
    omega (arith, i)

pub length-encode : (n v : ℕ) → length (encode_little_endian n v) ≡ n
unfolding encode_little_endian
length-encode zero v = refl
length-encode (suc n) v = ap suc (length-encode n (v / 256))

pub encode-bytes : (n v : ℕ) → All IsByte (encode_little_endian n v)
unfolding encode_little_endian
encode-bytes zero v = All-nil IsByte
encode-bytes (suc n) v =
    let low : v % 256 < 2 ^ 8 = omega arith in
    All-cons IsByte (v % 256) (encode_little_endian n (v / 256)) low (encode-bytes n (v / 256))

-- all bits of n bytes and k bits more
bits_more : (n k : ℕ) → 2 ^ (8 * suc n + k) ≡ 256 * 2 ^ (8 * n + k)
bits_more n k = let s : 8 * suc n + k ≡ 8 + (8 * n + k) = omega arith in ap (λ m. 2 ^ m) s ∙ pow-add 2 8 (8 * n + k)

mod_more : (x d m : ℕ) → x < 256 → 0 < m → x + 256 * (d % m) ≡ (x + 256 * d) % (256 * m)
mod_more x d m hx hm =
    let low : d % m < m = mod-lt d hm in
    let split : d % m + m * (d / m) ≡ d = mod-add-div d m in
    let small : x + 256 * (d % m) < 256 * m = omega arith in
    let whole : x + 256 * (d % m) + 256 * m * (d / m) ≡ x + 256 * d = omega (arith, split) in
    sym (mod-eq_of_lt small) ∙ sym (add-mul-mod_self_left (x + 256 * (d % m)) (256 * m) (d / m)) ∙ ap (λ n. n % (256 * m)) whole

-- with the high bit of the last byte cleared
decode_masked : (n : ℕ) (xs : List ℕ) → length xs ≡ suc n → All IsByte xs
    → decode_little_endian (set xs n (bit_and (get_or xs n 0) 127)) ≡ decode_little_endian xs % 2 ^ (8 * n + 7)
unfolding decode_little_endian
decode_masked n [] e h = absurd (omega arith)
decode_masked zero (x ∷ []) e h = let m = and_mask x 7 in omega (arith, m)
decode_masked zero (x ∷ y ∷ ys) e h = absurd (omega arith)
decode_masked (suc n) (x ∷ xs) e h =
    let i = decode_masked n xs (omega arith) (All-tail IsByte x xs h) in
    let low = All-head IsByte x xs h in
    let m = mod_more x (decode_little_endian xs) (2 ^ (8 * n + 7)) low (pow_pos (8 * n + 7)) in
    ap (λ d. x + 256 * d) i ∙ m ∙ ap (λ k. (x + 256 * decode_little_endian xs) % k) (sym (bits_more n 7))

-- with a last byte below 128
decode_below : (n b : ℕ) (xs : List ℕ) → length xs ≡ suc n → All IsByte xs → b < 128
    → decode_little_endian (set xs n b) < 2 ^ (8 * n + 7)
unfolding decode_little_endian
decode_below n b [] e h small = absurd (omega arith)
decode_below zero b (x ∷ []) e h small = omega arith
decode_below zero b (x ∷ y ∷ ys) e h small = absurd (omega arith)
decode_below (suc n) b (x ∷ xs) e h small =
    let i = decode_below n b xs (omega arith) (All-tail IsByte x xs h) small in
    let low = All-head IsByte x xs h in
    let p = bits_more n 7 in
    omega (arith, i, low, p)

pub decode_u_coordinate-is : (u : List ℕ) → length u ≡ 32 → All IsByte u
    → decode_u_coordinate u ≡ decode_little_endian u % 2 ^ 255
unfolding decode_u_coordinate
decode_u_coordinate-is u e h = decode_masked 31 u e h

-- a u-coordinate below 2^255 arrives as it was sent
pub decode_u_coordinate-encode : (v : ℕ) → v < 2 ^ 255 → decode_u_coordinate (encode_little_endian 32 v) ≡ v
decode_u_coordinate-encode v h =
    decode_u_coordinate-is (encode_little_endian 32 v) (length-encode 32 v) (encode-bytes 32 v)
    ∙ ap (λ n. n % 2 ^ 255) (decode-encode 32 v (omega arith)) ∙ mod-eq_of_lt h

-- a scalar is below 2^255
pub decode_scalar-below : (k : List ℕ) → length k ≡ 32 → All IsByte k → decode_scalar k < 2 ^ 255
unfolding clamped
decode_scalar-below k e h =
    let first = bit_and (get_or k 0 0) 248 in
    let k1 = set k 0 first in
    let last = bit_and (get_or k1 31 0) 127 in
    let k2 = set k1 31 last in
    let length1 : length k1 ≡ 32 = length-set k 0 first ∙ e in
    let length2 : length k2 ≡ 32 = length-set k1 31 last ∙ length1 in
    let byte : get_or k 0 0 < 2 ^ 8 = All-get_or IsByte k 0 0 (omega arith) h in
    let low : first ≤ get_or k 0 0 = and_le_l (get_or k 0 0) 248 in
    let small : last ≤ 127 = and_le_r (get_or k1 31 0) 127 in
    let bytes1 = All-set IsByte k 0 first (omega arith) h in
    let bytes2 = All-set IsByte k1 31 last (omega arith) bytes1 in
    let same : get_or k2 31 0 ≡ last = get_or-set_same k1 31 last 0 (omega arith) in
    let below : bit_or (get_or k2 31 0) 64 < 128 = or_lt 7 (get_or k2 31 0) 64 (omega arith) (omega arith) in
    decode_below 31 (bit_or (get_or k2 31 0) 64) k2 length2 bytes2 below
