-- One step of each loop of the other suite.
use Rattle.std.specs.Prelude.{◌≡◌, ℕ, ◌+◌, ◌-◌, ◌*◌, ◌/◌, ◌%◌, ◌^◌, ◌<◌, ◌≤◌, List, [], ◌∷◌, ◌++◌, length, take, drop, set, get_or, refl}
use borrow.Rule.Slice.PartMut.{mid_of, put_mid}
use Rattle.std.proofs.Common.{arith, suc, zero}
use Rattle.std.proofs.Math.Seq.{take-add, take-length, drop-length}
use Rattle.std.proofs.lemmas.List.{length-take-le, drop_more, take_more, take_at, drop_at, drop-drop, get_or_at, set_at, append_assoc, append-nil}
use Rattle.test_support.specs.Other.{pad_block, pad_at, hidden_from, other_shared}
use Rattle.test_support.specs.Laws.{length-hidden, hidden-append}

-- one more byte, from place p of the whole on
pub hidden_more : (pad : ℕ → ℕ) (p : ℕ) (xs ys : List ℕ) (i b : ℕ) → i < length xs → b ≡ pad (p + i)
    → ys ≡ hidden_from pad p (take i xs) ++ drop i xs
    → set ys i ((b + (2 ^ 8 - get_or ys i 0)) % 2 ^ 8) ≡ hidden_from pad p (take (i + 1) xs) ++ drop (i + 1) xs
hidden_more pad p xs ys i b h byte e =
    let x = get_or xs i 0 in
    let done = hidden_from pad p (take i xs) in
    let rest = drop (i + 1) xs in
    let n : length (take i xs) ≡ i = length-take-le i xs (omega arith) in
    let before : length done ≡ i = rw (length-hidden pad p (take i xs)) n in
    let now : ys ≡ done ++ x ∷ rest = rw (← drop_more xs i 0 h) e in
    let next : hidden_from pad p (take (i + 1) xs) ≡ done ++ (pad (p + i) + (2 ^ 8 - x)) % 2 ^ 8 ∷ [] =
    rw (take_more xs i 0 h, hidden-append pad p (take i xs) (x ∷ []), n) refl in
    rw (now, next, byte, get_or_at done x rest 0 i before, set_at done x rest ((pad (p + i) + (2 ^ 8 - x)) % 2 ^ 8) i before, append_assoc) refl

-- the byte of the pad at a place in a block
pub pad_in_block : (key nonce : List ℕ) (number i : ℕ) → i < 32
    → get_or (pad_block key nonce number) i 0 ≡ pad_at key nonce (32 * number + i)
pad_in_block key nonce number i h =
    let block : (32 * number + i) / 32 ≡ number = omega (arith, h) in
    let place : (32 * number + i) % 32 ≡ i = omega (arith, h) in
    rw (block, place) refl

pub get_or-shared : (a b : List ℕ) (i : ℕ) → length a ≡ length b → i < length a
    → get_or (other_shared a b) i 0 ≡ (get_or a i 0 + get_or b i 0) % 2 ^ 8
get_or-shared [] [] i e h = absurd (omega arith)
get_or-shared [] (y ∷ b) i e h = absurd (omega arith)
get_or-shared (x ∷ a) [] i e h = absurd (omega arith)
get_or-shared (x ∷ a) (y ∷ b) zero e h = refl
get_or-shared (x ∷ a) (y ∷ b) (suc i) e h = get_or-shared a b i (omega arith) (omega arith)

-- ---- by whole blocks

-- k more bytes
pub blocks_more : (pad : ℕ → ℕ) (xs ys block : List ℕ) (a k n : ℕ) → a ≤ length xs → n ≡ a + k
    → block ≡ hidden_from pad a (mid_of a k ys) → ys ≡ hidden_from pad 0 (take a xs) ++ drop a xs
    → put_mid a k ys block ≡ hidden_from pad 0 (take n xs) ++ drop n xs
blocks_more pad xs ys block a k n h size new e =
    let done = hidden_from pad 0 (take a xs) in
    let len : length (take a xs) ≡ a = length-take-le a xs h in
    let before : length done ≡ a = rw (length-hidden pad 0 (take a xs)) len in
    let front : take a ys ≡ done = rw e (take_at done (drop a xs) a before) in
    let rest : drop a ys ≡ drop a xs = rw e (drop_at done (drop a xs) a before) in
    let place : 0 + length (take a xs) ≡ a = omega (arith, len) in
    let next : hidden_from pad 0 (take (a + k) xs) ≡ done ++ hidden_from pad a (take k (drop a xs)) =
    rw (take-add a k xs, hidden-append pad 0 (take a xs) (take k (drop a xs)), place) refl in
    rw (size, new, front, rest, next, append_assoc, drop-drop k a xs) refl

-- and no byte is left
pub blocks_end : (pad : ℕ → ℕ) (xs ys block : List ℕ) (a k : ℕ) → a ≤ length xs → length xs ≡ a + k
    → block ≡ hidden_from pad a (mid_of a k ys) → ys ≡ hidden_from pad 0 (take a xs) ++ drop a xs
    → put_mid a k ys block ≡ hidden_from pad 0 xs
blocks_end pad xs ys block a k h size new e =
    let all = blocks_more pad xs ys block a k (length xs) h size new e in
    rw (take-length xs, drop-length xs, append-nil) at all
