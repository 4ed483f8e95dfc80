-- Lucas's test of primes, and how it is computed.
--
-- Where g^(q - 1) = 1 modulo q, and g^((q - 1) / l) isn't 1 for any prime l of q - 1, the order of g is q - 1 (`has_order`, by the
-- greatest common divisor of exponents and Euclid's lemma). So the q - 1 powers of g are different, and none is a multiple of q. By the
-- pigeonhole principle each residue but 0 is one of them, and so has the power q - 1 that is 1 (`fermat_of`). That is taken for the
-- meaning of "q is a prime", since it is what is used: it gives inverses.
use Rattle.std.proofs.Common.{true≢false, mul_comm, ltb-true, ◌≡◌, ℕ, zero, suc, pred, ◌+◌, ◌*◌, ◌-◌, ◌/◌, ◌%◌, ◌^◌, ◌<◌, ◌≤◌, ◌⊎◌, inl, inr, List, [], ◌∷◌, Bool, true, false, not, ◌&&◌, eqb, ltb, sym, ap, ◌∙◌, arith, eq-zero-or-pos, mod-lt}
use Rattle.std.proofs.Math.Nat.{zero-mod, div-add-mod, add-mul-mod_self_left, mul-div_cancel_left, mod-eq_of_lt, eq_of_mul-eq-mul_left, le_refl}
use Rattle.std.proofs.lemmas.Bool.{eqb-true, eq-eqb, cases_lt, cases_order}
use Rattle.curve25519.proofs.Polynomials.{and_left, and_right}
use Rattle.curve25519.proofs.Pigeonhole.{onto, Into, OneToOne}
use Rattle.curve25519.proofs.Congruence.{Congruent, congruent_product_right, congruent_product_left}
use Rattle.curve25519.proofs.Powers.{power, power-suc, power-add, power-one, power-mul, congruent_power, fast_power-power, fast_power}

not_both : (b : Bool) → not b ≡ true → b ≡ true → ⊥
not_both true h k = true≢false (sym h)
not_both false h k = true≢false (sym k)

-- each number that is no multiple of q has the power q - 1 that is 1: so q is a prime
pub record IsPrime (q : ℕ) : Type 0 where
  pub above_one : 1 < q
  pub fermat : (z : ℕ) → (Congruent q z 0 → ⊥) → Congruent q (power z (pred q)) 1

abbrev pub Divides : ℕ → ℕ → Type 0
Divides d a = (e : ℕ) × (d * e ≡ a)

divides_by_mod : (q a : ℕ) → a % q ≡ 0 → Divides q a
divides_by_mod q a h = let s = div-add-mod a q in (a / q, omega arith)

not_a_multiple : (q z : ℕ) → 0 < z % q → Congruent q z 0 → ⊥
not_a_multiple q z h e = let s = zero-mod q in omega arith

-- Euclid's lemma
euclid : (l d e n : ℕ) → IsPrime l → d * e ≡ l * n → Divides l e ⊎ Divides l d
euclid l d e n p is =
    elim (eq-zero-or-pos (e % l)) [
      | inl z ↦ inl (divides_by_mod l e z)
      | inr s ↦
          let f = p.fermat e (not_a_multiple l e s) in
          let one = p.above_one in
          let w = power e (pred (pred l)) in
          let v : e * w ≡ power e (pred l) =
          sym (power-suc e (pred (pred l))) ∙ ap (power e) (omega arith) in
          let g : Congruent l (d * power e (pred l)) (d * 1) = congruent_product_right l d _ _ f in
          let k : d * power e (pred l) ≡ 0 + l * (n * w) =
          ap (λ x. d * x) (sym v) ∙ omega (arith, ap (λ x. x * w) is) in
          let zero_is : d % l ≡ 0 =
          ap (λ x. x % l) (omega arith) ∙ sym g ∙ ap (λ x. x % l) k ∙ add-mul-mod_self_left 0 l (n * w) ∙ zero-mod l in
          inr (divides_by_mod l d zero_is)
    ]

one_times : (a : ℕ) → a ≡ 1 * a
one_times a = omega arith

-- where a and b are exponents of g that give 1, so is their greatest common divisor, by Euclid's algorithm
common_exponent : (q g fuel a b : ℕ) → b ≤ fuel → Congruent q (power g a) 1 → Congruent q (power g b) 1
    → (d : ℕ) × (Divides d a) × (Divides d b) × Congruent q (power g d) 1
common_exponent q g zero a b le h k = (a, (1, omega arith), (0, omega arith), h)
common_exponent q g (suc fuel) a b le h k =
    elim (eq-zero-or-pos b) [
      | inl z ↦ (a, (1, omega arith), (0, omega arith), h)
      | inr s ↦
          let split = div-add-mod a b in
          let small = mod-lt a s in
          let r : Congruent q (power g (a % b)) 1 =
          ap (λ x. x % q) (one_times (power g (a % b)))
          ∙ sym (congruent_product_left q (power g (b * (a / b))) 1 (power g (a % b))
          (ap (λ x. x % q) (power-mul g b (a / b)) ∙ congruent_power q _ 1 (a / b) k ∙ ap (λ x. x % q) (power-one (a / b))))
          ∙ ap (λ x. x % q) (sym (power-add g (b * (a / b)) (a % b)) ∙ ap (power g) split) ∙ h in
          let c = common_exponent q g fuel b (a % b) (omega arith) k r in
          let m : c.0 * (c.1.0 * (a / b) + c.2.0) ≡ a =
          omega (arith, split, c.2.1, ap (λ x. x * (a / b)) c.1.1) in
          (c.0, (c.1.0 * (a / b) + c.2.0, m), c.1, c.3)
    ]

-- the product of a list
abbrev pub list_product : List ℕ → ℕ
list_product [] = 1
list_product (l ∷ ls) = l * list_product ls

-- the items of a list are primes l, and g^(n / l) is 1 for none
abbrev pub PowersAreNotOne : ℕ → ℕ → ℕ → List ℕ → Type 0
PowersAreNotOne q g n [] = Unit {0}
PowersAreNotOne q g n (l ∷ ls) = (IsPrime l × (Congruent q (power g (n / l)) 1 → ⊥)) × PowersAreNotOne q g n ls

-- what isn't 1 doesn't divide 1
no_factor : (d e : ℕ) → 1 < e → d * e ≡ 1 → ⊥
no_factor zero e h is = omega arith
no_factor (suc d) e h is = omega arith

-- an exponent c that gives 1 isn't n / e for an e above 1, since a prime of n would divide e
no_smaller_order : (q g n c e : ℕ) → Congruent q (power g c) 1 → c * e ≡ n → 1 < e
    → (ls : List ℕ) → PowersAreNotOne q g n ls → (d : ℕ) → d * e ≡ list_product ls → ⊥
no_smaller_order q g n c e h is more [] not_one d same = no_factor d e more same
no_smaller_order q g n c e h is more (l ∷ ls) not_one d same =
    let p = not_one.0.0 in
    let one = p.above_one in
    elim (euclid l d e (list_product ls) p same) [
      | inl w ↦
          let s : l * (c * w.0) ≡ n = omega (arith, is, ap (λ x. c * x) w.1) in
          let t : n / l ≡ c * w.0 = ap (λ x. x / l) (sym s) ∙ mul-div_cancel_left (c * w.0) (omega arith) in
          not_one.0.1 (ap (λ x. power g x % q) t ∙ ap (λ x. x % q) (power-mul g c w.0)
          ∙ congruent_power q _ 1 w.0 h ∙ ap (λ x. x % q) (power-one w.0))
      | inr w ↦
          let s : l * (w.0 * e) ≡ l * list_product ls = omega (arith, same, ap (λ x. x * e) w.1) in
          no_smaller_order q g n c e h is more ls not_one.1 w.0 (eq_of_mul-eq-mul_left l (omega arith) (w.0 * e) (list_product ls) s)
    ]

no_order_where_cofactor_is_1 : (k x e n : ℕ) → e ≤ 1 → 0 < k → k < n → (d : ℕ) → d * x ≡ k → d * e ≡ n → ⊥
no_order_where_cofactor_is_1 k x zero n le pos lt d h i = omega arith
no_order_where_cofactor_is_1 k zero (suc zero) n le pos lt d h i = omega arith
no_order_where_cofactor_is_1 k (suc x) (suc zero) n le pos lt d h i = omega arith
no_order_where_cofactor_is_1 k x (suc (suc e)) n le pos lt d h i = omega arith

-- no exponent above 0 and below n gives 1
has_order : (q g n : ℕ) (ls : List ℕ) → PowersAreNotOne q g n ls → list_product ls ≡ n → Congruent q (power g n) 1
    → (k : ℕ) → 0 < k → k < n → Congruent q (power g k) 1 → ⊥
has_order q g n ls not_one is h k pos lt j =
    let c = common_exponent q g k n k (le_refl k) h j in
    elim (cases_lt 1 c.1.0) [
      | inr le ↦ no_order_where_cofactor_is_1 k c.2.0 c.1.0 n le pos lt c.0 c.2.1 c.1.1
      | inl more ↦ no_smaller_order q g n c.0 c.1.0 c.3 c.1.1 more ls not_one c.0 (c.1.1 ∙ sym is)
    ]

-- the place of g^i among the numbers from 1 to q - 1
abbrev place_of_power : ℕ → ℕ → ℕ → ℕ
place_of_power q g i = pred (power g i % q)

-- Lucas's test, where q = n + 1
module _ (q g n : ℕ) (ls : List ℕ) (size : q ≡ suc n) (some : 0 < n) (not_one : PowersAreNotOne q g n ls) (is : list_product ls ≡ n)
    (full : Congruent q (power g n) 1) where
  one_left : 1 % q ≡ 1
  one_left = mod-eq_of_lt (omega arith)

  -- the powers below n are no multiples of q
  some_power : (i : ℕ) → i < n → 0 < power g i % q
  some_power i lt =
      elim (eq-zero-or-pos (power g i % q)) [
        | inr s ↦ s
        | inl z ↦
            let rest = power g (n - i) in
            let s : power g i * rest ≡ power g n = sym (power-add g i (n - i)) ∙ ap (power g) (omega arith) in
            let k : Congruent q (power g i * rest) (0 * rest) = congruent_product_left q _ 0 rest (z ∙ sym (zero-mod q)) in
            let zero_one : 0 % q ≡ 1 % q =
            ap (λ x. x % q) (omega arith) ∙ sym k ∙ ap (λ x. x % q) s ∙ full in
            absurd (omega (arith, zero-mod q, one_left, zero_one))
      ]

  -- no two powers below n are the same
  apart : (i j : ℕ) → i < j → j < n → Congruent q (power g i) (power g j) → ⊥
  apart i j lt below e =
      let rest = power g (n - i) in
      let s : rest * power g i ≡ power g n = sym (power-add g (n - i) i) ∙ ap (power g) (omega arith) in
      let t : rest * power g j ≡ power g n * power g (j - i) =
      sym (power-add g (n - i) j) ∙ ap (power g) (omega arith) ∙ power-add g n (j - i) in
      let k = congruent_product_left q _ 1 (power g (j - i)) full in
      let one : Congruent q (power g (j - i)) 1 =
      ap (λ x. x % q) (omega arith) ∙ sym k ∙ ap (λ x. x % q) (sym t)
      ∙ sym (congruent_product_right q rest _ _ e) ∙ ap (λ x. x % q) s ∙ full in
      has_order q g n ls not_one is full (j - i) (omega arith) (omega arith) one

  place_into : Into (place_of_power q g) n n
  place_into i lt = let s = some_power i lt in let m : power g i % q < q = mod-lt (power g i) (omega arith) in
      let r : pred (power g i % q) < n = omega arith in r

  place_apart : OneToOne (place_of_power q g) n
  place_apart i j lt below e =
      let s = some_power i lt in
      let t = some_power j below in
      let plain : pred (power g i % q) ≡ pred (power g j % q) = e in
      let same : power g i % q ≡ power g j % q = omega (arith, s, t, plain) in
      elim (cases_order i j) [
        | inl w ↦ w
        | inr w ↦ elim w [ inl v ↦ absurd (apart i j v below same) | inr v ↦ absurd (apart j i v lt (sym same)) ]
      ]

  fermat_of : (z : ℕ) → (Congruent q z 0 → ⊥) → Congruent q (power z n) 1
  fermat_of z ne =
      elim (eq-zero-or-pos (z % q)) [
        | inl e ↦ absurd (ne (e ∙ sym (zero-mod q)))
        | inr s ↦
            let m : z % q < q = mod-lt z (omega arith) in
            let f = onto (place_of_power q g) n (pred (z % q)) place_into place_apart (omega arith) in
            let t = some_power f.0 f.1 in
            let plain : pred (power g f.0 % q) ≡ pred (z % q) = f.2 in
            let same : power g f.0 % q ≡ z % q = omega (arith, t, s, plain) in
            sym (congruent_power q _ z n same)
            ∙ ap (λ x. x % q) (sym (power-mul g f.0 n) ∙ ap (power g) (mul_comm f.0 n) ∙ power-mul g n f.0)
            ∙ congruent_power q _ 1 f.0 full ∙ ap (λ x. x % q) (power-one f.0)
      ]

-- the test, which computes: the primes of q - 1, a generator and the fuel of the powers
abbrev pub powers_are_not_one : ℕ → ℕ → ℕ → ℕ → List ℕ → Bool
powers_are_not_one q g k n [] = true
powers_are_not_one q g k n (l ∷ ls) = (not (eqb (fast_power q k g (n / l) % q) 1) && ltb (n / l) (2 ^ k)) && powers_are_not_one q g k n ls

abbrev pub is_certificate : ℕ → ℕ → ℕ → List ℕ → Bool
is_certificate q g k ls =
    ((eqb (suc (pred q)) q && ltb 1 q) && (eqb (list_product ls) (pred q) && ltb (pred q) (2 ^ k)))
    && (eqb (fast_power q k g (pred q) % q) (1 % q) && powers_are_not_one q g k (pred q) ls)

abbrev pub AllPrime : List ℕ → Type 0
AllPrime [] = Unit {0}
AllPrime (l ∷ ls) = IsPrime l × AllPrime ls

not_one_of : (q g k n : ℕ) → 1 < q → (ls : List ℕ) → AllPrime ls → powers_are_not_one q g k n ls ≡ true → PowersAreNotOne q g n ls
not_one_of q g k n more [] all t = tt
not_one_of q g k n more (l ∷ ls) all t =
    let a = and_left (not (eqb (fast_power q k g (n / l) % q) 1) && ltb (n / l) (2 ^ k)) (powers_are_not_one q g k n ls) t in
    let b = and_right (not (eqb (fast_power q k g (n / l) % q) 1) && ltb (n / l) (2 ^ k)) (powers_are_not_one q g k n ls) t in
    let u = and_left (not (eqb (fast_power q k g (n / l) % q) 1)) (ltb (n / l) (2 ^ k)) a in
    let v = and_right (not (eqb (fast_power q k g (n / l) % q) 1)) (ltb (n / l) (2 ^ k)) a in
    let one : 1 % q ≡ 1 = mod-eq_of_lt more in
    let no : Congruent q (power g (n / l)) 1 → ⊥ =
    λ e. not_both (eqb (fast_power q k g (n / l) % q) 1) u
    (eq-eqb _ _ (fast_power-power q k g (n / l) (ltb-true (n / l) (2 ^ k) v) ∙ e ∙ one)) in
    ((all.0, no), not_one_of q g k n more ls all.1 b)

-- a test of a prime, given those of the number below it
module _ (q g k : ℕ) (ls : List ℕ) (all : AllPrime ls) (t : is_certificate q g k ls ≡ true) where
  shape : ((eqb (suc (pred q)) q && ltb 1 q) && (eqb (list_product ls) (pred q) && ltb (pred q) (2 ^ k))) ≡ true
  shape = and_left _ (eqb (fast_power q k g (pred q) % q) (1 % q) && powers_are_not_one q g k (pred q) ls) t

  powers : (eqb (fast_power q k g (pred q) % q) (1 % q) && powers_are_not_one q g k (pred q) ls) ≡ true
  powers = and_right ((eqb (suc (pred q)) q && ltb 1 q) && (eqb (list_product ls) (pred q) && ltb (pred q) (2 ^ k))) _ t

  more_than_one : 1 < q
  more_than_one =
      ltb-true 1 q (and_right (eqb (suc (pred q)) q) _ (and_left (eqb (suc (pred q)) q && ltb 1 q) _ shape))

  list_product_is : list_product ls ≡ pred q
  list_product_is = eqb-true _ _ (and_left _ (ltb (pred q) (2 ^ k)) (and_right (eqb (suc (pred q)) q && ltb 1 q) _ shape))

  fits : pred q < 2 ^ k
  fits = ltb-true _ _ (and_right (eqb (list_product ls) (pred q)) _ (and_right (eqb (suc (pred q)) q && ltb 1 q) _ shape))

  full_power : Congruent q (power g (pred q)) 1
  full_power =
      sym (fast_power-power q k g (pred q) fits) ∙ eqb-true _ _ (and_left _ (powers_are_not_one q g k (pred q) ls) powers)

  not_one_all : PowersAreNotOne q g (pred q) ls
  not_one_all = not_one_of q g k (pred q) more_than_one ls all (and_right (eqb (fast_power q k g (pred q) % q) (1 % q)) _ powers)

  pub prime_by_certificate : IsPrime q
  prime_by_certificate = record {
    above_one = more_than_one;
    fermat = fermat_of q g (pred q) ls (omega (arith, more_than_one)) (omega (arith, more_than_one)) not_one_all list_product_is full_power;
  }
