-- The remainder is linear, so that six values close it.
use Rattle.std.proofs.Common.{◌≡◌, ℕ, ◌+◌, ◌*◌, ◌/◌, ◌%◌, ◌^◌, ◌<◌, ◌≤◌, List, [], ◌∷◌, ◌++◌, length, map, drop, get_or, bit_and, bit_xor, refl, ap, sym, ◌∙◌, arith, add-one, drop-cons, All}
use Rattle.std.proofs.lemmas.Nat.{and_mask, xor_mod, xor_shr, xor_lt, pow-add}
use Rattle.std.proofs.Math.Pow.{pow_mono}
use Rattle.std.proofs.lemmas.List.Elements.{All-head, All-tail, All-from_recursion}
use Rattle.age_bech32.specs.Remainder.{expanded, generated, step, remainder_after, remainder}
use Rattle.std.specs.Char.{to_ascii_lowercase}
use Rattle.age_bech32.specs.Symbols.{lowered}
use Rattle.age_bech32.specs.Groups.{number_after, number, digits}
use Rattle.age_bech32.specs.Written.{zeros, check_values}
use Rattle.age_bech32.proofs.Xor.{xor-zero, xor-self, xor-cancel, xor-moved, xor-swap}
use Rattle.age_bech32.proofs.Lists.{nothing_left}
use Rattle.age_bech32.proofs.Numbers.{same_digits, length-digits, digits-fit, number-digits}

pub after-append : (sum : ℕ) (xs ys : List ℕ) → remainder_after sum (xs ++ ys) ≡ remainder_after (remainder_after sum xs) ys
unfolding remainder_after
after-append sum [] ys = refl
after-append sum (x ∷ xs) ys = after-append (step sum x) xs ys

pub after-step : (sum : ℕ) (xs : List ℕ) (i : ℕ) → i < length xs
    → remainder_after (step sum (get_or xs i 0)) (drop (i + 1) xs) ≡ remainder_after sum (drop i xs)
unfolding remainder_after
after-step sum xs i h = rw (drop-cons xs i 0, add-one) refl

bit_below : (n g : ℕ) → g < 2 ^ 30 → n % 2 * g < 2 ^ 30
bit_below n g h =
    let two : n % 2 < 2 = omega arith in
    let le : n % 2 * g ≤ 1 * g = grind arith in
    omega arith

pub generated-below : (top : ℕ) → generated top < 2 ^ 30
unfolding generated
generated-below top =
    xor_lt 30 _ _ (xor_lt 30 _ _ (xor_lt 30 _ _
    (xor_lt 30 _ _ (bit_below (top / 2 ^ 0) 0x3b6a57b2 (omega arith)) (bit_below (top / 2 ^ 1) 0x26508e6d (omega arith)))
    (bit_below (top / 2 ^ 2) 0x1ea119fa (omega arith))) (bit_below (top / 2 ^ 3) 0x3d4233dd (omega arith)))
    (bit_below (top / 2 ^ 4) 0x2a1462b3 (omega arith))

pub step-below : (sum value : ℕ) → value < 2 ^ 5 → step sum value < 2 ^ 30
unfolding step
step-below sum value h =
    xor_lt 30 _ _ (xor_lt 30 _ _ (let low : sum % 2 ^ 25 * 2 ^ 5 < 2 ^ 30 = omega arith in low) (let fits : value < 2 ^ 30 = omega arith in fits))
    (generated-below (sum / 2 ^ 25))

-- what stands below 25 bits is only moved up
pub step-linear : (s d v : ℕ) → d < 2 ^ 25 → v < 2 ^ 5 → step (bit_xor s d) v ≡ bit_xor (step s 0) (d * 2 ^ 5 + v)
unfolding step
step-linear s d v hd hv =
    let low : bit_xor s d % 2 ^ 25 ≡ bit_xor (s % 2 ^ 25) d =
    xor_mod s d 25 ∙ ap (λ x. bit_xor (s % 2 ^ 25) x) (let e : d % 2 ^ 25 ≡ d = omega arith in e) in
    let top : bit_xor s d / 2 ^ 25 ≡ s / 2 ^ 25 =
    xor_shr s d 25 ∙ ap (λ x. bit_xor (s / 2 ^ 25) x) (let e : d / 2 ^ 25 ≡ 0 = omega arith in e) ∙ xor-zero (s / 2 ^ 25) in
    ap (λ x. bit_xor (bit_xor (x * 2 ^ 5) v) (generated (bit_xor s d / 2 ^ 25))) low
    ∙ ap (λ x. bit_xor (bit_xor (bit_xor (s % 2 ^ 25) d * 2 ^ 5) v) (generated x)) top
    ∙ ap (λ x. bit_xor x (generated (s / 2 ^ 25))) (xor-moved (s % 2 ^ 25) d v hv)
    ∙ xor-swap (s % 2 ^ 25 * 2 ^ 5) (generated (s / 2 ^ 25)) (d * 2 ^ 5 + v)
    ∙ ap (λ x. bit_xor (bit_xor x (generated (s / 2 ^ 25))) (d * 2 ^ 5 + v)) (sym (xor-zero (s % 2 ^ 25 * 2 ^ 5)))

moved_below : (d c p : ℕ) → d < p → c < 2 ^ 5 → d * 2 ^ 5 + c < p * 2 ^ 5
moved_below d c p hd hc = omega arith

-- at most six values after a remainder: as zeros would, and the number that they write
pub carried : (bits s d : ℕ) (cs : List ℕ) → bits + 5 * length cs ≤ 30 → d < 2 ^ bits → All (λ c. c < 2 ^ 5) cs
    → remainder_after (bit_xor s d) cs ≡ bit_xor (remainder_after s (map {A = ℕ} {B = ℕ} (λ c. 0) cs)) (number_after 5 d cs)
unfolding remainder_after number_after
carried bits s d [] few hd hc = refl
carried bits s d (c ∷ cs) few hd hc =
    let five : c < 2 ^ 5 = All-head (λ x. x < 2 ^ 5) c cs hc in
    let small : bits ≤ 25 = omega arith in
    let d25 : d < 2 ^ 25 = let m : 2 ^ bits ≤ 2 ^ 25 = pow_mono small in omega arith in
    let moved : d * 2 ^ 5 + c < 2 ^ (bits + 5) = rw (pow-add 2 bits 5) (moved_below d c (2 ^ bits) hd five) in
    ap (λ x. remainder_after x cs) (step-linear s d c d25 five)
    ∙ carried (bits + 5) (step s 0) (d * 2 ^ 5 + c) cs (omega arith) moved (All-tail (λ x. x < 2 ^ 5) c cs hc)

-- the sum of generators, as it is computed
pub generated_is : (t : ℕ) → bit_xor (bit_xor
    (bit_xor (bit_xor (bit_and t 1 * 0x3b6a57b2) (bit_and (t / 2) 1 * 0x26508e6d)) (bit_and (t / 4) 1 * 0x1ea119fa))
    (bit_and (t / 8) 1 * 0x3d4233dd)) (bit_and (t / 16) 1 * 0x2a1462b3) ≡ generated t
unfolding generated
generated_is t =
    let e0 : bit_and t 1 ≡ t / 2 ^ 0 % 2 = and_mask t 1 ∙ (omega arith) in
    let e1 : bit_and (t / 2) 1 ≡ t / 2 ^ 1 % 2 = and_mask (t / 2) 1 in
    let e2 : bit_and (t / 4) 1 ≡ t / 2 ^ 2 % 2 = and_mask (t / 4) 1 in
    let e3 : bit_and (t / 8) 1 ≡ t / 2 ^ 3 % 2 = and_mask (t / 8) 1 in
    let e4 : bit_and (t / 16) 1 ≡ t / 2 ^ 4 % 2 = and_mask (t / 16) 1 in
    cc

pub step_is : (sum value x g : ℕ) → x ≡ value → g ≡ generated (sum / 2 ^ 25)
    → bit_xor (bit_xor (bit_and sum 0x01ffffff * 2 ^ 5 % 2 ^ 32) x) g ≡ step sum value
unfolding step
step_is sum value x g e f =
    let m : bit_and sum 0x01ffffff ≡ sum % 2 ^ 25 = and_mask sum 25 in
    let w : sum % 2 ^ 25 * 2 ^ 5 % 2 ^ 32 ≡ sum % 2 ^ 25 * 2 ^ 5 = omega arith in
    ap (λ y. bit_xor (bit_xor (y * 2 ^ 5 % 2 ^ 32) x) g) m ∙ ap (λ y. bit_xor (bit_xor y x) g) w
    ∙ ap (λ y. bit_xor (bit_xor (sum % 2 ^ 25 * 2 ^ 5) y) g) e ∙ ap (λ y. bit_xor (bit_xor (sum % 2 ^ 25 * 2 ^ 5) value) y) f

-- the values that a prefix in lower case gives, one by one
pub after-step_lowered : (f : ℕ → ℕ) (sum : ℕ) (xs : List ℕ) (i : ℕ) → i < length xs
    → remainder_after (step sum (f (to_ascii_lowercase (get_or xs i 0)))) (map f (lowered (drop (i + 1) xs)))
    ≡ remainder_after sum (map f (lowered (drop i xs)))
unfolding remainder_after
after-step_lowered f sum xs i h = rw (drop-cons xs i 0, add-one) refl

pub after-end : (sum : ℕ) (xs : List ℕ) (i : ℕ) → length xs ≤ i → remainder_after sum (drop i xs) ≡ sum
unfolding remainder_after
after-end sum xs i h = rw (nothing_left xs i h) refl

pub after-end_lowered : (f : ℕ → ℕ) (sum : ℕ) (xs : List ℕ) (i : ℕ) → length xs ≤ i → remainder_after sum (map f (lowered (drop i xs))) ≡ sum
unfolding remainder_after
after-end_lowered f sum xs i h = rw (nothing_left xs i h) refl

pub after-below : (sum : ℕ) (xs : List ℕ) → sum < 2 ^ 30 → All (λ x. x < 2 ^ 5) xs → remainder_after sum xs < 2 ^ 30
unfolding remainder_after
after-below sum [] h fits = h
after-below sum (x ∷ xs) h fits =
    after-below (step sum x) xs (step-below sum x (All-head (λ y. y < 2 ^ 5) x xs fits)) (All-tail (λ y. y < 2 ^ 5) x xs fits)

-- the remainder of a prefix is that of its high bits, a 0, and its low bits
pub of_prefix : (prefix : List ℕ) → remainder_after (step (remainder_after 1 (map (λ b. b / 2 ^ 5) (lowered prefix))) 0)
    (map (λ b. b % 2 ^ 5) (lowered prefix))
    ≡ remainder (expanded prefix)
unfolding expanded remainder_after
of_prefix prefix = sym (after-append 1 (map (λ b. b / 2 ^ 5) (lowered prefix)) (0 ∷ map (λ b. b % 2 ^ 5) (lowered prefix)))

pub zeros-fit : All (λ c. c < 2 ^ 5) zeros
zeros-fit = All-from_recursion (λ c. c < 2 ^ 5) zeros (omega arith, (omega arith, (omega arith, (omega arith, (omega arith, (omega arith, tt))))))

all_zeros : (a b : List ℕ) → length a ≡ length b → map {A = ℕ} {B = ℕ} (λ c. 0) a ≡ map {A = ℕ} {B = ℕ} (λ c. 0) b
all_zeros [] [] l = refl
all_zeros [] (y ∷ b) l = absurd (omega arith)
all_zeros (x ∷ a) [] l = absurd (omega arith)
all_zeros (x ∷ a) (y ∷ b) l = ap (λ z. 0 ∷ z) (all_zeros a b (omega arith))

-- six values close the remainder
closes : (s : ℕ) → s < 2 ^ 30 → remainder_after s (digits 5 6 (bit_xor (remainder_after s zeros) 1)) ≡ 1
closes s h =
    let p = remainder_after s zeros in
    let n = bit_xor p 1 in
    let six = length-digits 5 6 n in
    let below : n < 2 ^ (5 * 6) = xor_lt 30 p 1 (after-below s zeros h zeros-fit) (omega arith) in
    let none : 0 < 2 ^ 0 = omega arith in
    ap (λ x. remainder_after x (digits 5 6 n)) (sym (xor-zero s)) ∙ carried 0 s 0 (digits 5 6 n) (omega arith) none (digits-fit 5 6 n)
    ∙ ap (λ z. bit_xor (remainder_after s z) (number 5 (digits 5 6 n))) (all_zeros (digits 5 6 n) zeros six)
    ∙ ap (λ x. bit_xor p x) (number-digits 5 6 n below) ∙ xor-self p 1

-- the six values, as they are computed
pub six_is : (n : ℕ) → n < 2 ^ 30
    → n / 33554432 ∷ bit_and (n / 1048576) 31 ∷ bit_and (n / 32768) 31 ∷ bit_and (n / 1024) 31 ∷ bit_and (n / 32) 31 ∷ bit_and n 31 ∷ []
    ≡ digits 5 6 n
unfolding digits
six_is n h =
    let e0 : n / 33554432 ≡ n / 2 ^ 5 / 2 ^ 5 / 2 ^ 5 / 2 ^ 5 / 2 ^ 5 % 2 ^ 5 = omega arith in
    let e1 : bit_and (n / 1048576) 31 ≡ n / 2 ^ 5 / 2 ^ 5 / 2 ^ 5 / 2 ^ 5 % 2 ^ 5 = and_mask (n / 1048576) 5 ∙ (omega arith) in
    let e2 : bit_and (n / 32768) 31 ≡ n / 2 ^ 5 / 2 ^ 5 / 2 ^ 5 % 2 ^ 5 = and_mask (n / 32768) 5 ∙ (omega arith) in
    let e3 : bit_and (n / 1024) 31 ≡ n / 2 ^ 5 / 2 ^ 5 % 2 ^ 5 = and_mask (n / 1024) 5 ∙ (omega arith) in
    let e4 : bit_and (n / 32) 31 ≡ n / 2 ^ 5 % 2 ^ 5 = and_mask (n / 32) 5 in
    let e5 : bit_and n 31 ≡ n % 2 ^ 5 = and_mask n 5 in
    cc

pub check-six : (prefix groups : List ℕ) → length (check_values prefix groups) ≡ 6
unfolding check_values
check-six prefix groups = length-digits 5 6 (bit_xor (remainder (expanded prefix ++ groups ++ zeros)) 1)

pub check-fits : (prefix groups : List ℕ) → All (λ c. c < 2 ^ 5) (check_values prefix groups)
unfolding check_values
check-fits prefix groups = digits-fit 5 6 (bit_xor (remainder (expanded prefix ++ groups ++ zeros)) 1)

-- a prefix and groups, and then their check
pub checked : (prefix groups : List ℕ) → remainder (expanded prefix ++ groups) < 2 ^ 30
    → remainder (expanded prefix ++ groups ++ check_values prefix groups) ≡ 1
unfolding check_values
checked prefix groups below =
    let front = expanded prefix ++ groups in
    after-append 1 front (check_values prefix groups)
    ∙ ap (λ x. remainder_after (remainder front) (digits 5 6 (bit_xor x 1))) (after-append 1 front zeros) ∙ closes (remainder front) below

-- a remainder has one check
pub one_check : (s : ℕ) (a b : List ℕ) → length a ≡ 6 → length b ≡ 6 → All (λ c. c < 2 ^ 5) a → All (λ c. c < 2 ^ 5) b
    → remainder_after s a ≡ remainder_after s b → a ≡ b
one_check s a b la lb ha hb e =
    let none : 0 < 2 ^ 0 = omega arith in
    let ca : remainder_after s a ≡ bit_xor (remainder_after s (map {A = ℕ} {B = ℕ} (λ c. 0) a)) (number 5 a) =
    ap (λ x. remainder_after x a) (sym (xor-zero s)) ∙ carried 0 s 0 a (omega arith) none ha in
    let cb : remainder_after s b ≡ bit_xor (remainder_after s (map {A = ℕ} {B = ℕ} (λ c. 0) b)) (number 5 b) =
    ap (λ x. remainder_after x b) (sym (xor-zero s)) ∙ carried 0 s 0 b (omega arith) none hb in
    let same : map {A = ℕ} {B = ℕ} (λ c. 0) a ≡ map {A = ℕ} {B = ℕ} (λ c. 0) b = all_zeros a b (la ∙ sym lb) in
    let both : bit_xor (remainder_after s (map {A = ℕ} {B = ℕ} (λ c. 0) b)) (number 5 a)
    ≡ bit_xor (remainder_after s (map {A = ℕ} {B = ℕ} (λ c. 0) b)) (number 5 b) =
    ap (λ z. bit_xor (remainder_after s z) (number 5 a)) (sym same) ∙ sym ca ∙ e ∙ cb in
    (same_digits 5 0 0 a b (la ∙ sym lb) ha hb (xor-cancel (remainder_after s (map {A = ℕ} {B = ℕ} (λ c. 0) b)) (number 5 a) (number 5 b) both)).1
