-- One step of each loop.
use Rattle.std.specs.Prelude.{◌≡◌, ℕ, ◌+◌, ◌%◌, ◌<◌, List, [], ◌∷◌, ◌++◌, length, take, drop, bit_xor, set, get_or, refl, ◌*◌, ◌≤◌}
use borrow.Rule.Slice.PartMut.{mid_of, put_mid}
use Rattle.std.proofs.Common.{arith, suc, zero, add-zero, add_assoc}
use Rattle.std.proofs.Math.Numerals.{one-add}
use Rattle.std.proofs.Math.Seq.{take-add, take-length, drop-length}
use Rattle.std.proofs.lemmas.List.{length-take-le, drop_more, take_more, take_at, drop_at, drop-drop, get_or_at, set_at, append_assoc, append-nil}
use Rattle.age_bench.specs.Bench.{masked, masked_from, bench_shared}
use Rattle.age_bench.specs.Laws.{length-masked, masked-push}

pub masked_more : (mask xs ys : List ℕ) (i : ℕ) → i < length xs → ys ≡ masked mask (take i xs) ++ drop i xs
    → set ys i (bit_xor (get_or ys i 0) (get_or mask (i % 32) 0)) ≡ masked mask (take (i + 1) xs) ++ drop (i + 1) xs
masked_more mask xs ys i h e =
    let x = get_or xs i 0 in
    let done = masked mask (take i xs) in
    let rest = drop (i + 1) xs in
    let n : length (take i xs) ≡ i = length-take-le i xs (omega arith) in
    let before : length done ≡ i = rw (length-masked mask 0 (take i xs)) n in
    let now : ys ≡ done ++ x ∷ rest = rw (← drop_more xs i 0 h) e in
    let place : 0 + length (take i xs) ≡ i = omega arith in
    let next : masked mask (take (i + 1) xs) ≡ done ++ bit_xor x (get_or mask (i % 32) 0) ∷ [] =
    rw (take_more xs i 0 h, masked-push mask 0 (take i xs) x, place) refl in
    rw (now, next, get_or_at done x rest 0 i before, set_at done x rest (bit_xor x (get_or mask (i % 32) 0)) i before, append_assoc) refl

pub get_or-shared : (a b : List ℕ) (i : ℕ) → length a ≡ length b → i < length a
    → get_or (bench_shared a b) i 0 ≡ bit_xor (bit_xor (get_or a i 0) (get_or b i 0)) 0x5a
get_or-shared [] [] i e h = absurd (omega arith)
get_or-shared [] (y ∷ b) i e h = absurd (omega arith)
get_or-shared (x ∷ a) [] i e h = absurd (omega arith)
get_or-shared (x ∷ a) (y ∷ b) zero e h = refl
get_or-shared (x ∷ a) (y ∷ b) (suc i) e h = get_or-shared a b i (omega arith) (omega arith)

-- ---- by whole blocks

masked-append : (mask : List ℕ) (p : ℕ) (xs ys : List ℕ)
    → masked_from mask p (xs ++ ys) ≡ masked_from mask p xs ++ masked_from mask (p + length xs) ys
masked-append mask p [] ys = rw add-zero refl
masked-append mask p (x ∷ xs) ys = rw (masked-append mask (p + 1) xs ys, add_assoc, one-add) refl

-- a whole number of masks further, the same bytes of the mask are met
masked-whole : (mask : List ℕ) (i p : ℕ) (ys : List ℕ) → masked_from mask (32 * i + p) ys ≡ masked_from mask p ys
masked-whole mask i p [] = refl
masked-whole mask i p (y ∷ ys) =
    let same : (32 * i + p) % 32 ≡ p % 32 = omega arith in
    rw (same, add_assoc, masked-whole mask i (p + 1) ys) refl

-- k more bytes, from a whole number of masks on
pub blocks_more : (mask xs ys block : List ℕ) (i k n : ℕ) → 32 * i ≤ length xs → n ≡ 32 * i + k
    → block ≡ masked mask (mid_of (32 * i) k ys) → ys ≡ masked mask (take (32 * i) xs) ++ drop (32 * i) xs
    → put_mid (32 * i) k ys block ≡ masked mask (take n xs) ++ drop n xs
blocks_more mask xs ys block i k n h size new e =
    let a = 32 * i in
    let done = masked mask (take a xs) in
    let len : length (take a xs) ≡ a = length-take-le a xs h in
    let before : length done ≡ a = rw (length-masked mask 0 (take a xs)) len in
    let front : take a ys ≡ done = rw e (take_at done (drop a xs) a before) in
    let rest : drop a ys ≡ drop a xs = rw e (drop_at done (drop a xs) a before) in
    let place : 0 + length (take a xs) ≡ a + 0 = omega arith in
    let next : masked mask (take (a + k) xs) ≡ done ++ masked mask (take k (drop a xs)) =
    rw (take-add a k xs, masked-append mask 0 (take a xs) (take k (drop a xs)), place, masked-whole mask i 0 (take k (drop a xs))) refl in
    rw (size, new, front, rest, next, append_assoc, drop-drop k a xs) refl

-- and no byte is left
pub blocks_end : (mask xs ys block : List ℕ) (i k : ℕ) → 32 * i ≤ length xs → length xs ≡ 32 * i + k
    → block ≡ masked mask (mid_of (32 * i) k ys) → ys ≡ masked mask (take (32 * i) xs) ++ drop (32 * i) xs
    → put_mid (32 * i) k ys block ≡ masked mask xs
blocks_end mask xs ys block i k h size new e =
    let all = blocks_more mask xs ys block i k (length xs) h size new e in
    rw (take-length xs, drop-length xs, append-nil) at all
