-- Powers, and how they are computed modulo a number.
use Rattle.std.proofs.Common.{◌≡◌, ℕ, zero, suc, ◌+◌, ◌*◌, ◌/◌, ◌%◌, ◌^◌, ◌<◌, sym, ap, refl, ◌∙◌, arith, suc-add, zero-add}
use Rattle.std.proofs.Math.Nat.{mod-mod}
use Rattle.curve25519.proofs.Congruence.{Congruent, congruent_product, congruent_product_right}

-- b^n, which stays closed until it is opened
unfoldable pub power : ℕ → ℕ → ℕ
power b zero = 1
power b (suc n) = b * power b n

pub power-zero : (b : ℕ) → power b 0 ≡ 1
unfolding power
power-zero b = refl

pub power-suc : (b n : ℕ) → power b (suc n) ≡ b * power b n
unfolding power
power-suc b n = refl

pub power-add : (b m n : ℕ) → power b (m + n) ≡ power b m * power b n
unfolding power
power-add b zero n = ap (power b) (zero-add n) ∙ omega arith
power-add b (suc m) n =
    let h = power-add b m n in
    ap (power b) (suc-add m n) ∙ omega (arith, ap (λ x. b * x) h)

pub power-one : (n : ℕ) → power 1 n ≡ 1
unfolding power
power-one zero = refl
power-one (suc n) = let h = power-one n in omega (arith, h)

pub power-mul : (b m n : ℕ) → power b (m * n) ≡ power (power b m) n
unfolding power
power-mul b m zero = let z : m * 0 ≡ 0 = omega arith in ap (power b) z
power-mul b m (suc n) =
    let h = power-mul b m n in
    let s : m * suc n ≡ m + m * n = omega arith in
    ap (power b) s ∙ power-add b m (m * n) ∙ ap (λ x. power b m * x) h

pub power_mul : (a b n : ℕ) → power (a * b) n ≡ power a n * power b n
unfolding power
power_mul a b zero = refl
power_mul a b (suc n) = let h = power_mul a b n in omega (arith, ap (λ x. a * b * x) h)

pub congruent_power : (m a b n : ℕ) → Congruent m a b → Congruent m (power a n) (power b n)
unfolding power
congruent_power m a b zero h = refl
congruent_power m a b (suc n) h = congruent_product m a b _ _ h (congruent_power m a b n h)

-- a power modulo m by repeated squaring, of an exponent of at most so many bits
abbrev pub power_step : ℕ → ℕ → ℕ → ℕ → ℕ
power_step m zero b r = r
power_step m (suc o) b r = (b * r) % m

abbrev pub fast_power : ℕ → ℕ → ℕ → ℕ → ℕ
fast_power m zero b e = 1
fast_power m (suc k) b e = power_step m (e % 2) b (fast_power m k (b * b % m) (e / 2))

power_step-power : (m o b r h e : ℕ) → o < 2 → e ≡ 2 * h + o → Congruent m r (power b (2 * h)) → Congruent m (power_step m o b r) (power b e)
power_step-power m zero b r h e lt is p = let s : 2 * h ≡ e = omega arith in p ∙ ap (λ x. power b x % m) s
power_step-power m (suc zero) b r h e lt is p =
    let s : suc (2 * h) ≡ e = omega arith in
    mod-mod (b * r) m ∙ congruent_product_right m b _ _ p ∙ ap (λ x. x % m) (sym (power-suc b (2 * h))) ∙ ap (λ x. power b x % m) s
power_step-power m (suc (suc o)) b r h e lt is p = absurd (omega arith)

pub fast_power-power : (m k b e : ℕ) → e < 2 ^ k → Congruent m (fast_power m k b e) (power b e)
fast_power-power m zero b e h =
    let z : 0 ≡ e = omega arith in ap (λ x. x % m) (sym (power-zero b)) ∙ ap (λ x. power b x % m) z
fast_power-power m (suc k) b e h =
    let half : e / 2 < 2 ^ k = omega arith in
    let i = fast_power-power m k (b * b % m) (e / 2) half in
    let j = congruent_power m (b * b % m) (b * b) (e / 2) (mod-mod (b * b) m) in
    let s : power (b * b) (e / 2) ≡ power b (2 * (e / 2)) =
    power_mul b b (e / 2) ∙ sym (power-add b (e / 2) (e / 2)) ∙ ap (power b) (omega arith) in
    power_step-power m (e % 2) b _ (e / 2) e (omega arith) (omega arith) (i ∙ j ∙ ap (λ x. x % m) s)
