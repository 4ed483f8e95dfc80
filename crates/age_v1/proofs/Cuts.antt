-- Lists cut in parts of one size. The size is a variable here: `take` at a large numeral takes as many steps to compute.
use Rattle.std.proofs.Common.{◌≡◌, ℕ, zero, suc, ◌+◌, ◌-◌, ◌*◌, ◌<◌, ◌≤◌, ◌^◌, List, ◌++◌, length, take, drop, min, get_or, refl, sym, ◌∙◌, ap, arith, inl, inr, Fits, w8}
use Rattle.std.proofs.lemmas.Bool.{cases_lt}
use Rattle.std.proofs.Math.Nat.{mul_comm}
use Rattle.std.proofs.lemmas.List.{length-take, length-drop, take_at, drop_at, take_all, take-append-drop, take-append-le, drop-append-le, take_min}
use Rattle.std.proofs.lemmas.List.Elements.{All-take, All-drop, All-from_get_or}
use Rattle.std.proofs.Math.Seq.{take-add}
use Rattle.age_error.specs.Bytes.{AreBytes, AreBytesOf}
use Rattle.age_v1.specs.Payload.{cut}

-- a slice of bytes, as a proof knows it
pub slice-bytes : (xs : List ℕ) → ((i : ℕ) → Fits w8 (get_or xs i 0)) → AreBytes xs
slice-bytes xs h = All-from_get_or (λ x. x < 2 ^ 8) xs 0 (λ i l. let fits = h i in omega arith)

-- an array of bytes, as a proof knows it
pub array-bytes : (n : ℕ) (xs : List ℕ) → length xs ≡ n → ((i : ℕ) → get_or xs i 0 < 256) → AreBytesOf n xs
array-bytes n xs len h = record { len = len; bytes = All-from_get_or (λ x. x < 2 ^ 8) xs 0 (λ i l. h i) }

pub cut-bytes : (size i : ℕ) (xs : List ℕ) → AreBytes xs → AreBytes (cut size i xs)
unfolding cut
cut-bytes size i xs h = All-take (λ x. x < 2 ^ 8) size (drop (size * i) xs) (All-drop (λ x. x < 2 ^ 8) (size * i) xs h)

pub length-cut : (size i : ℕ) (xs : List ℕ) → length (cut size i xs) ≡ min size (length xs - size * i)
unfolding cut
length-cut size i xs = rw (length-take, length-drop) refl

-- what follows doesn't change the parts before it
pub cut-front : (size i : ℕ) (front rest : List ℕ) → size * i + size ≤ length front → cut size i (front ++ rest) ≡ cut size i front
unfolding cut
cut-front size i front rest h =
    let a : size * i ≤ length front = omega arith in
    let b : size ≤ length (drop (size * i) front) = rw length-drop (omega arith) in
    rw (drop-append-le, take-append-le) refl

-- where a list was cut off after a part, the part stays
pub cut-take : (size i m : ℕ) (xs : List ℕ) → size * i + size ≤ m → cut size i (take m xs) ≡ cut size i xs
cut-take size i m xs before = elim (cases_lt (length xs) m) [
  | inl less ↦ ap (cut size i) (take_all m xs (omega arith))
  | inr enough ↦ sym (cut-front size i (take m xs) (drop m xs) (omega (arith, length-take m xs))) ∙ ap (cut size i) (take-append-drop m xs)
]

-- a part of full size after i of them
pub cut_at : (size i : ℕ) (front part rest : List ℕ) → length front ≡ size * i → length part ≡ size → cut size i (front ++ (part ++ rest)) ≡ part
unfolding cut
cut_at size i front part rest h k = rw (drop_at front (part ++ rest) (size * i) h, take_at part rest size k) refl

-- the last part, which may be short
pub cut_end : (size i : ℕ) (front part : List ℕ) → length front ≡ size * i → length part ≤ size → cut size i (front ++ part) ≡ part
unfolding cut
cut_end size i front part h k = rw (drop_at front part (size * i) h) (take_all size part k)

pub cut_rest : (size i : ℕ) (xs : List ℕ) → length xs ≤ size * i + size → cut size i xs ≡ drop (size * i) xs
unfolding cut
cut_rest size i xs h = take_all size (drop (size * i) xs) (rw length-drop (omega arith))

-- the parts before i and part i
pub cut_more : (size i : ℕ) (xs : List ℕ) → take (size * suc i) xs ≡ take (size * i) xs ++ cut size i xs
unfolding cut
cut_more size i xs =
    let next : size * suc i ≡ size * i + size = omega arith in
    rw next (take-add (size * i) size xs)

same_front : (size n : ℕ) (p q : List ℕ) → ((i : ℕ) → i < n → cut size i p ≡ cut size i q) → take (size * n) p ≡ take (size * n) q
same_front size zero p q h = let none : size * 0 ≡ 0 = omega arith in rw none refl
same_front size (suc n) p q h =
    rw (cut_more size n p, cut_more size n q, same_front size n p q (λ i l. h i (omega arith)), h n (omega arith)) refl

-- a list is its parts
pub same_list : (size n : ℕ) (p q : List ℕ) → length p ≤ size * n → length q ≤ size * n → ((i : ℕ) → i < n → cut size i p ≡ cut size i q) → p ≡ q
same_list size n p q a b h = sym (take_all (size * n) p a) ∙ same_front size n p q h ∙ take_all (size * n) q b

-- the parts as code slices them
pub cut_slice : (size i : ℕ) (xs : List ℕ) → take (i * size + size - i * size) (drop (i * size) xs) ≡ cut size i xs
unfolding cut
cut_slice size i xs =
    let n : i * size + size - i * size ≡ size = omega arith in
    let from : i * size ≡ size * i = mul_comm i size in
    rw (n, from) refl

pub cut_slice_rest : (size i : ℕ) (xs : List ℕ) → length xs ≤ i * size + size → take (length xs - i * size) (drop (i * size) xs) ≡ cut size i xs
unfolding cut
cut_slice_rest size i xs h =
    let rest = drop (i * size) xs in
    let n : length rest ≡ length xs - i * size = length-drop (i * size) xs in
    let from : size * i ≡ i * size = mul_comm size i in
    rw from (take_all (length xs - i * size) rest (omega arith) ∙ sym (take_all size rest (omega arith)))

pub cut_slice_min : (size i n : ℕ) (xs : List ℕ) → n ≡ min (length (take (length xs - i * size) (drop (i * size) xs))) size
    → take n (take (length xs - i * size) (drop (i * size) xs)) ≡ cut size i xs
unfolding cut
cut_slice_min size i n xs e =
    let rest = drop (i * size) xs in
    let len : length rest ≡ length xs - i * size = length-drop (i * size) xs in
    let whole : take (length xs - i * size) rest ≡ rest = take_all (length xs - i * size) rest (omega arith) in
    let from : size * i ≡ i * size = mul_comm size i in
    let end : n ≡ min size (length rest) = omega (arith, ap length whole) in
    rw (whole, from, end) (take_min size rest)
