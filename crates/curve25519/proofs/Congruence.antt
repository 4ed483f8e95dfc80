-- Congruence of natural numbers modulo m.
use Rattle.std.proofs.Common.{◌≡◌, ℕ, zero, suc, ◌+◌, ◌*◌, ◌%◌, sym, ap, ap₂, ◌∙◌, arith, mul_comm}
use Rattle.std.proofs.Math.Nat.{add-mod, mod-zero, add-mul-mod_self_left}
use Rattle.std.proofs.lemmas.Nat.{mul-mod_first}

abbrev pub Congruent : ℕ → ℕ → ℕ → Type 0
Congruent m a b = a % m ≡ b % m

pub congruent_sum : (m a b c d : ℕ) → Congruent m a b → Congruent m c d → Congruent m (a + c) (b + d)
congruent_sum m a b c d h k = add-mod a c m ∙ ap₂ (λ x y. (x + y) % m) h k ∙ sym (add-mod b d m)

pub congruent_product_left : (m a b c : ℕ) → Congruent m a b → Congruent m (a * c) (b * c)
congruent_product_left m a b c h = sym (mul-mod_first a c m) ∙ ap (λ x. (x * c) % m) h ∙ mul-mod_first b c m

pub congruent_product_right : (m c a b : ℕ) → Congruent m a b → Congruent m (c * a) (c * b)
congruent_product_right m c a b h =
    ap (λ x. x % m) (mul_comm c a) ∙ congruent_product_left m a b c h ∙ ap (λ x. x % m) (mul_comm b c)

pub congruent_product : (m a b c d : ℕ) → Congruent m a b → Congruent m c d → Congruent m (a * c) (b * d)
congruent_product m a b c d h k = congruent_product_left m a b c h ∙ congruent_product_right m b c d k

-- a summand may be taken away on both sides
pub congruent_cancel : (m a b c d : ℕ) → Congruent m c d → Congruent m (a + c) (b + d) → Congruent m a b
congruent_cancel zero a b c d h k =
    let i = sym (mod-zero c) ∙ h ∙ mod-zero d in
    let j = sym (mod-zero (a + c)) ∙ k ∙ mod-zero (b + d) in
    ap (λ x. x % 0) (omega arith)
congruent_cancel (suc n) a b c d h k =
    let i = congruent_sum (suc n) (a + c) (b + d) (n * c) (n * d) k (congruent_product_right (suc n) n c d h) in
    let e : a + suc n * c ≡ a + c + n * c = omega arith in
    let f : b + d + n * d ≡ b + suc n * d = omega arith in
    sym (add-mul-mod_self_left a (suc n) c) ∙ ap (λ x. x % suc n) e ∙ i ∙ ap (λ x. x % suc n) f
    ∙ add-mul-mod_self_left b (suc n) d
