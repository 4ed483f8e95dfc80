-- The loops that go over the bytes of a number.
use Rattle.std.proofs.Common.{◌≡◌, ℕ, zero, suc, ◌+◌, ◌-◌, ◌*◌, ◌/◌, ◌%◌, ◌^◌, ◌<◌, ◌≤◌, List, [], ◌∷◌, ◌++◌, get_or, take, drop, set, length, sym, ap, ap₂, refl, ◌∙◌, arith, take-suc-set}
use Rattle.std.proofs.lemmas.List.{append_assoc, append-nil, take_all, drop_all}
use Rattle.curve25519.specs.Field.{prime}
use Rattle.curve25519.specs.Encoding.{decode_little_endian, encode_little_endian}
use Rattle.curve25519.proofs.Congruence.{Congruent}

abbrev pub limbs : ℕ → ℕ → ℕ → ℕ → ℕ → ℕ
limbs a b c d e = a + 2 ^ 51 * b + 2 ^ 102 * c + 2 ^ 153 * d + 2 ^ 204 * e

-- one byte more
pub decode-drop : (xs : List ℕ) (j : ℕ) → j < length xs
    → decode_little_endian (drop j xs) ≡ get_or xs j 0 + 256 * decode_little_endian (drop (suc j) xs)
unfolding decode_little_endian
decode-drop [] j h = absurd (omega arith)
decode-drop (x ∷ xs) zero h = refl
decode-drop (x ∷ xs) (suc j) h = decode-drop xs j (omega arith)

-- no byte is left
pub decode_none : (xs : List ℕ) (n : ℕ) → length xs ≤ n → decode_little_endian (drop n xs) ≡ 0
unfolding decode_little_endian
decode_none xs n h = ap decode_little_endian (drop_all n xs h)

-- a round of the loop that decodes: byte 31 - i comes to those after it
pub decoded_more : (xs : List ℕ) (i s : ℕ) → i < 32 → length xs ≡ 32
    → Congruent prime s (256 * decode_little_endian (drop (32 - i) xs) + get_or xs (31 - i) 0)
    → Congruent prime s (decode_little_endian (drop (32 - (i + 1)) xs))
decoded_more xs i s lt len h =
    let a : 32 - (i + 1) ≡ 31 - i = omega arith in
    let b : suc (31 - i) ≡ 32 - i = omega arith in
    let d = decode-drop xs (31 - i) (omega arith) in
    let e = ap (λ k. decode_little_endian (drop k xs)) b in
    let f : 256 * decode_little_endian (drop (32 - i) xs) + get_or xs (31 - i) 0 ≡ decode_little_endian (drop (31 - i) xs) = omega (arith, d, e) in
    h ∙ ap (λ k. k % prime) (f ∙ ap (λ k. decode_little_endian (drop k xs)) (sym a))

-- all bytes
pub decoded_all : (xs : List ℕ) (i : ℕ) → i ≡ 32 → decode_little_endian (drop (32 - i) xs) ≡ decode_little_endian xs
decoded_all xs i e = ap (λ k. decode_little_endian (drop (32 - k) xs)) e

encode-suc : (m v : ℕ) → encode_little_endian (suc m) v ≡ (v % 256) ∷ encode_little_endian m (v / 256)
unfolding encode_little_endian
encode-suc m v = refl

low_byte : (a b c d e : ℕ) → limbs a b c d e % 256 ≡ a % 256
low_byte a b c d e = omega arith

take_written : (xs : List ℕ) (i b : ℕ) → i < length xs → take (i + 1) (set xs i b) ≡ take i xs ++ (b ∷ [])
take_written xs i b h = let e : i + 1 ≡ suc i = omega arith in ap (λ k. take k (set xs i b)) e ∙ take-suc-set xs i b h

-- a round of the loop that encodes: the low byte of the rest is written to place i
pub encoded_more : (xs all : List ℕ) (i a b c d e w : ℕ) → i < 32 → i < length xs
    → w ≡ limbs a b c d e / 256
    → take i xs ++ encode_little_endian (32 - i) (limbs a b c d e) ≡ all
    → take (i + 1) (set xs i (a % 256)) ++ encode_little_endian (32 - (i + 1)) w ≡ all
encoded_more xs all i a b c d e w lt len is h =
    let m : 32 - i ≡ suc (32 - (i + 1)) = omega arith in
    let v = limbs a b c d e in
    let s : encode_little_endian (32 - i) (limbs a b c d e) ≡ (a % 256) ∷ encode_little_endian (32 - (i + 1)) w =
    ap (λ k. encode_little_endian k (limbs a b c d e)) m ∙ encode-suc (32 - (i + 1)) (limbs a b c d e)
    ∙ ap₂ (λ x y. x ∷ encode_little_endian (32 - (i + 1)) y) (low_byte a b c d e) (sym is) in
    ap (λ ys. ys ++ encode_little_endian (32 - (i + 1)) w) (take_written xs i (a % 256) len)
    ∙ append_assoc (take i xs) ((a % 256) ∷ []) (encode_little_endian (32 - (i + 1)) w)
    ∙ ap (λ ys. take i xs ++ ys) (sym s) ∙ h

-- all bytes
pub encoded_all : (xs all : List ℕ) (i v : ℕ) → i ≡ 32 → length xs ≡ 32 → take i xs ++ encode_little_endian (32 - i) v ≡ all → xs ≡ all
unfolding encode_little_endian
encoded_all xs all i v e len h =
    let t : take 32 xs ≡ xs = take_all 32 xs (omega arith) in
    sym t ∙ sym (append-nil (take 32 xs)) ∙ ap (λ k. take k xs ++ encode_little_endian (32 - k) v) (sym e) ∙ h
