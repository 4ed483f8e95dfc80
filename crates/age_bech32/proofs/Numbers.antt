-- The number that digits write, and the digits of a number.
use Rattle.std.proofs.Common.{◌≡◌, ℕ, zero, suc, ◌+◌, ◌*◌, ◌/◌, ◌%◌, ◌^◌, ◌<◌, ◌≤◌, List, [], ◌∷◌, ◌++◌, length, length-append, drop, get_or, refl, ap, subst, ◌∙◌, arith, All, add-one, drop-cons}
use Rattle.std.proofs.lemmas.Nat.{same_from_place, pow-add, pow_pos, shr_split, shr_below, mod_below}
use Rattle.std.proofs.lemmas.List.Elements.{All-head, All-tail, All-nil, All-push}
use Rattle.age_bech32.specs.Groups.{number_after, number, digits}

-- one digit more is read
pub number-step : (bits front : ℕ) (xs : List ℕ) (i : ℕ) → i < length xs
    → number_after bits (front * 2 ^ bits + get_or xs i 0) (drop (i + 1) xs) ≡ number_after bits front (drop i xs)
unfolding number_after
number-step bits front xs i h = rw (drop-cons xs i 0, add-one) refl

-- one digit more is written
pub number-push : (bits front : ℕ) (xs : List ℕ) (x : ℕ) → number_after bits front (xs ++ x ∷ []) ≡ number_after bits front xs * 2 ^ bits + x
unfolding number_after
number-push bits front [] x = refl
number-push bits front (y ∷ xs) x = number-push bits (front * 2 ^ bits + y) xs x

-- digits of one count that write one number are the same
pub same_digits : (bits m n : ℕ) (xs ys : List ℕ) → length xs ≡ length ys → All (λ x. x < 2 ^ bits) xs → All (λ y. y < 2 ^ bits) ys
    → number_after bits m xs ≡ number_after bits n ys → (m ≡ n) × (xs ≡ ys)
unfolding number_after
same_digits bits m n [] [] l hx hy e = (e, refl)
same_digits bits m n [] (y ∷ ys) l hx hy e = absurd (omega arith)
same_digits bits m n (x ∷ xs) [] l hx hy e = absurd (omega arith)
same_digits bits m n (x ∷ xs) (y ∷ ys) l hx hy e =
    let rest : (m * 2 ^ bits + x ≡ n * 2 ^ bits + y) × (xs ≡ ys) = same_digits bits (m * 2 ^ bits + x) (n * 2 ^ bits + y) xs ys (omega arith)
    (All-tail (λ a. a < 2 ^ bits) x xs hx) (All-tail (λ a. a < 2 ^ bits) y ys hy) e in
    let place : (m ≡ n) × (x ≡ y) = same_from_place m x n y (2 ^ bits) (All-head (λ a. a < 2 ^ bits) x xs hx)
    (All-head (λ a. a < 2 ^ bits) y ys hy) rest.0 in
    (place.0, cc (place.1, rest.1))

pub length-digits : (bits count n : ℕ) → length (digits bits count n) ≡ count
unfolding digits
length-digits bits zero n = refl
length-digits bits (suc count) n =
    let before = length-digits bits count (n / 2 ^ bits) in
    length-append (digits bits count (n / 2 ^ bits)) (n % 2 ^ bits ∷ []) ∙ (omega arith)

pub digits-fit : (bits count n : ℕ) → All (λ x. x < 2 ^ bits) (digits bits count n)
unfolding digits
digits-fit bits zero n = All-nil (λ x. x < 2 ^ bits)
digits-fit bits (suc count) n =
    All-push (λ x. x < 2 ^ bits) (digits bits count (n / 2 ^ bits)) (n % 2 ^ bits) (digits-fit bits count (n / 2 ^ bits))
    (mod_below n (2 ^ bits) (pow_pos bits))

one_more : (bits count : ℕ) → bits * suc count ≡ bits * count + bits
one_more bits count = omega arith

nothing_more : (bits : ℕ) → bits * 0 ≡ 0
nothing_more bits = omega arith

below_one : (n : ℕ) → n < 2 ^ 0 → 0 ≡ n
below_one n h = omega arith

-- the digits of a number write it
pub number-digits : (bits count n : ℕ) → n < 2 ^ (bits * count) → number bits (digits bits count n) ≡ n
unfolding digits number_after
number-digits bits zero n h = below_one n (subst (λ k. n < 2 ^ k) (nothing_more bits) h)
number-digits bits (suc count) n h =
    let below : n / 2 ^ bits < 2 ^ (bits * count) = shr_below n (bits * count) bits (subst (λ k. n < 2 ^ k) (one_more bits count) h) in
    number-push bits 0 (digits bits count (n / 2 ^ bits)) (n % 2 ^ bits)
    ∙ ap (λ m. m * 2 ^ bits + n % 2 ^ bits) (number-digits bits count (n / 2 ^ bits) below)
    ∙ shr_split n bits

next_below : (n front x p q : ℕ) → x < p → n < (front * p + x + 1) * q → n < (front + 1) * (q * p)
next_below n front x p q h m = let most : (front * p + x + 1) * q ≤ ((front + 1) * p) * q = grind arith in omega arith

after-below : (bits front : ℕ) (xs : List ℕ) → All (λ x. x < 2 ^ bits) xs → number_after bits front xs < (front + 1) * 2 ^ (bits * length xs)
unfolding number_after
after-below bits front [] fits = rw (nothing_more bits) (omega arith)
after-below bits front (x ∷ xs) fits =
    let rest = after-below bits (front * 2 ^ bits + x) xs (All-tail (λ a. a < 2 ^ bits) x xs fits) in
    rw (one_more bits (length xs), pow-add 2 (bits * length xs) bits)
    (next_below (number_after bits (front * 2 ^ bits + x) xs) front x (2 ^ bits) (2 ^ (bits * length xs))
    (All-head (λ a. a < 2 ^ bits) x xs fits) rest)

pub number-below : (bits : ℕ) (xs : List ℕ) → All (λ x. x < 2 ^ bits) xs → number bits xs < 2 ^ (bits * length xs)
number-below bits xs fits = let h = after-below bits 0 xs fits in omega arith

-- digits are those of the number that they write
pub digits-number : (bits : ℕ) (xs : List ℕ) → All (λ x. x < 2 ^ bits) xs → digits bits (length xs) (number bits xs) ≡ xs
digits-number bits xs fits =
    (same_digits bits 0 0 (digits bits (length xs) (number bits xs)) xs (length-digits bits (length xs) (number bits xs))
    (digits-fit bits (length xs) (number bits xs)) fits
    (number-digits bits (length xs) (number bits xs) (number-below bits xs fits))).1
