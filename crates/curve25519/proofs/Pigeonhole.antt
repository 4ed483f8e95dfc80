-- The pigeonhole principle, by counting twice: a one-to-one function from the numbers below n to the same numbers takes each of them.
--
-- Of each y let `hits` be how many numbers below n the function takes to y. Their sum over all y below n is n, since each number is
-- taken to one y. As the function is one to one, each of them is 1 at most. So none is 0.
use Rattle.std.proofs.Common.{◌≡◌, ℕ, zero, suc, ◌+◌, ◌<◌, ◌≤◌, Bool, true, false, cond, eqb, ◌⊎◌, inl, inr, refl, sym, ap, ◌∙◌, arith}
use Rattle.std.proofs.lemmas.Bool.{eqb-true, eqb-false, cases_lt}

abbrev pub Into : (ℕ → ℕ) → ℕ → ℕ → Type 0
Into f n m = (i : ℕ) → i < n → f i < m

abbrev pub OneToOne : (ℕ → ℕ) → ℕ → Type 0
OneToOne f n = (i j : ℕ) → i < n → j < n → f i ≡ f j → i ≡ j

abbrev pub Found : (ℕ → ℕ) → ℕ → ℕ → Type 0
Found f n y = (i : ℕ) × (i < n) × (f i ≡ y)

-- 1 where both are the same, else 0
abbrev one_if_same : ℕ → ℕ → ℕ
one_if_same a y = cond (eqb a y) 1 0

-- the numbers below n that are taken to y
abbrev hits : (ℕ → ℕ) → ℕ → ℕ → ℕ
hits f zero y = 0
hits f (suc n) y = one_if_same (f n) y + hits f n y

-- the sum of the hits of all y below m, and that of one number alone
abbrev hits_below : (ℕ → ℕ) → ℕ → ℕ → ℕ
hits_below f n zero = 0
hits_below f n (suc m) = hits f n m + hits_below f n m

abbrev hit_below : ℕ → ℕ → ℕ
hit_below a zero = 0
hit_below a (suc m) = one_if_same a m + hit_below a m

abbrev SameOrNot : ℕ → ℕ → ℕ → Type 0
SameOrNot a y r = ((a ≡ y) × (r ≡ 1)) ⊎ ((a ≡ y → ⊥) × (r ≡ 0))

same_or_not_by : (a y : ℕ) (t : Bool) → eqb a y ≡ t → SameOrNot a y (cond t 1 0)
same_or_not_by a y true e = inl (eqb-true a y e, refl)
same_or_not_by a y false e = inr (eqb-false a y e, refl)

same_or_not : (a y : ℕ) → SameOrNot a y (one_if_same a y)
same_or_not a y = same_or_not_by a y (eqb a y) refl

below_other : (a m : ℕ) → a < suc m → (a ≡ m → ⊥) → a < m
below_other a m lt other = elim (cases_lt a m) [ inl w ↦ w | inr w ↦ absurd (other (omega arith)) ]

-- a number hits one y
hit_none : (a m : ℕ) → m ≤ a → hit_below a m ≡ 0
hit_none a zero le = refl
hit_none a (suc m) le =
    let rest = hit_none a m (omega arith) in
    elim (same_or_not a m) [ inl w ↦ absurd (omega (arith, w.0)) | inr w ↦ omega (arith, w.1, rest) ]

hit_one : (a m : ℕ) → a < m → hit_below a m ≡ 1
hit_one a zero lt = absurd (omega arith)
hit_one a (suc m) lt =
    elim (same_or_not a m) [
      | inl w ↦ let rest = hit_none a m (omega (arith, w.0)) in omega (arith, w.1, rest)
      | inr w ↦
          let other : a < m = below_other a m lt w.0 in
          let rest = hit_one a m other in
          omega (arith, w.1, rest)
    ]

hits_suc : (f : ℕ → ℕ) (n m : ℕ) → hits_below f (suc n) m ≡ hit_below (f n) m + hits_below f n m
hits_suc f n zero = refl
hits_suc f n (suc m) = let rest = hits_suc f n m in omega (arith, rest)

hits_zero : (f : ℕ → ℕ) (m : ℕ) → hits_below f zero m ≡ 0
hits_zero f zero = refl
hits_zero f (suc m) = let rest = hits_zero f m in omega (arith, rest)

-- all hits together
hits_all : (f : ℕ → ℕ) (n m : ℕ) → Into f n m → hits_below f n m ≡ n
hits_all f zero m into = hits_zero f m
hits_all f (suc n) m into =
    let rest = hits_all f n m (λ i lt. into i (omega arith)) in
    let one = hit_one (f n) m (into n (omega arith)) in
    let both = hits_suc f n m in
    omega (arith, rest, one, both)

found_or_none : (f : ℕ → ℕ) (n y : ℕ) → Found f n y ⊎ (hits f n y ≡ 0)
found_or_none f zero y = inr refl
found_or_none f (suc n) y =
    elim (same_or_not (f n) y) [
      | inl w ↦ inl (n, omega arith, w.0)
      | inr w ↦ elim (found_or_none f n y) [
        | inl v ↦ inl (v.0, omega (arith, v.1), v.2)
        | inr none ↦ inr (omega (arith, w.1, none))
      ]
    ]

-- of a one-to-one function no y has two hits
hits_once : (f : ℕ → ℕ) (n y : ℕ) → OneToOne f n → hits f n y ≤ 1
hits_once f zero y one = omega arith
hits_once f (suc n) y one =
    let rest = hits_once f n y (λ i j p q e. one i j (omega arith) (omega arith) e) in
    elim (same_or_not (f n) y) [
      | inr w ↦ omega (arith, w.1, rest)
      | inl w ↦ elim (found_or_none f n y) [
        | inr none ↦ omega (arith, w.1, none)
        | inl v ↦
            let lt = v.1 in
            let same : v.0 ≡ n = one v.0 n (omega arith) (omega arith) (v.2 ∙ sym w.0) in
            absurd (omega (arith, lt, same))
      ]
    ]

hits_at_most : (f : ℕ → ℕ) (n m : ℕ) → OneToOne f n → hits_below f n m ≤ m
hits_at_most f n zero one = omega arith
hits_at_most f n (suc m) one =
    let rest = hits_at_most f n m one in
    let once = hits_once f n m one in
    omega (arith, rest, once)

-- where one y has none, one is missing
hits_fewer : (f : ℕ → ℕ) (n m y : ℕ) → OneToOne f n → y < m → hits f n y ≡ 0 → hits_below f n m < m
hits_fewer f n zero y one lt none = absurd (omega arith)
hits_fewer f n (suc m) y one lt none =
    elim (same_or_not y m) [
      | inl w ↦
          let rest = hits_at_most f n m one in
          let last : hits f n m ≡ 0 = ap (hits f n) (sym w.0) ∙ none in
          omega (arith, rest, last)
      | inr w ↦
          let rest = hits_fewer f n m y one (below_other y m lt w.0) none in
          let once = hits_once f n m one in
          omega (arith, rest, once)
    ]

pub onto : (f : ℕ → ℕ) (n y : ℕ) → Into f n n → OneToOne f n → y < n → Found f n y
onto f n y into one lt =
    elim (found_or_none f n y) [
      | inl w ↦ w
      | inr none ↦
          let all = hits_all f n n into in
          let fewer = hits_fewer f n n y one lt none in
          absurd (omega (arith, all, fewer))
    ]
