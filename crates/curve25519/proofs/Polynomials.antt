-- A test of polynomial identities modulo a number, by computation.
--
-- An expression of variables is brought to a normal form, a polynomial with natural coefficients (`normal_form`, which keeps the value:
-- `value-normal_form`). Two normal forms whose coefficients are the same modulo m have congruent values (`identity`). A congruence
-- follows from others where the difference of its sides is a combination of theirs (`follows`): the factors of that combination are
-- the certificate.
use Rattle.std.proofs.Common.{List, [], ◌∷◌, eqb-true, true≢false, ◌≡◌, ℕ, zero, suc, ◌+◌, ◌*◌, ◌%◌, Bool, true, false, ◌&&◌, eqb, sym, ap, ap₂, refl, ◌∙◌, arith}
use Rattle.std.proofs.Math.Nat.{zero-mod}
use Rattle.curve25519.proofs.Congruence.{Congruent, congruent_sum, congruent_product_right, congruent_cancel}

-- what is written down
pub data Expr : Type 0 where
  lit : ℕ → Expr
  var : ℕ → Expr
  plus : Expr → Expr → Expr
  times : Expr → Expr → Expr

abbrev pub eval : (ℕ → ℕ) → Expr → ℕ
eval env (lit n) = n
eval env (var i) = env i
eval env (plus a b) = eval env a + eval env b
eval env (times a b) = eval env a * eval env b

-- constant c is c; cell a q, at variable k, is a + k * q, where a has the variables above k
pub data Poly : Type 0 where
  constant : ℕ → Poly
  cell : Poly → Poly → Poly

value : (ℕ → ℕ) → ℕ → Poly → ℕ
value env k (constant c) = c
value env k (cell a q) = value env (suc k) a + env k * value env k q

abbrev pub variable : ℕ → Poly
variable zero = cell (constant 0) (constant 1)
variable (suc i) = cell (variable i) (constant 0)

abbrev pub add_constant : ℕ → Poly → Poly
add_constant c (constant d) = constant (c + d)
add_constant c (cell a q) = cell (add_constant c a) q

abbrev pub add : Poly → Poly → Poly
add (constant c) r = add_constant c r
add (cell a q) (constant d) = cell (add_constant d a) q
add (cell a q) (cell b r) = cell (add a b) (add q r)

abbrev pub scale : ℕ → Poly → Poly
scale c (constant d) = constant (c * d)
scale c (cell a q) = cell (scale c a) (scale c q)

abbrev pub each : (Poly → Poly) → Poly → Poly
each f (constant d) = cell (f (constant d)) (constant 0)
each f (cell b r) = cell (f b) (each f r)

abbrev pub mul : Poly → Poly → Poly
mul (constant c) r = scale c r
mul (cell a q) r = add (each (mul a) r) (cell (constant 0) (mul q r))

abbrev pub normal_form : Expr → Poly
normal_form (lit n) = constant n
normal_form (var i) = variable i
normal_form (plus a b) = add (normal_form a) (normal_form b)
normal_form (times a b) = mul (normal_form a) (normal_form b)

value-variable : (env : ℕ → ℕ) (k i : ℕ) → value env k (variable i) ≡ env (i + k)
unfolding value
value-variable env k zero = let h : 0 + k ≡ k = omega arith in omega (arith, ap env h)
value-variable env k (suc i) =
    let h : i + suc k ≡ suc i + k = omega arith in
    let j = value-variable env (suc k) i in
    omega (arith, ap env h, j)

value-add_constant : (env : ℕ → ℕ) (k c : ℕ) (p : Poly) → value env k (add_constant c p) ≡ c + value env k p
unfolding value
value-add_constant env k c (constant d) = refl
value-add_constant env k c (cell a q) = let h = value-add_constant env (suc k) c a in omega (arith, h)

value-add : (env : ℕ → ℕ) (k : ℕ) (p r : Poly) → value env k (add p r) ≡ value env k p + value env k r
unfolding value
value-add env k (constant c) r = value-add_constant env k c r
value-add env k (cell a q) (constant d) = let h = value-add_constant env (suc k) d a in omega (arith, h)
value-add env k (cell a q) (cell b r) =
    let h = value-add env (suc k) a b in
    let j = value-add env k q r in
    omega (arith, h, ap (λ z. env k * z) j)

value-scale : (env : ℕ → ℕ) (k c : ℕ) (p : Poly) → value env k (scale c p) ≡ c * value env k p
unfolding value
value-scale env k c (constant d) = refl
value-scale env k c (cell a q) =
    let h = value-scale env (suc k) c a in
    let j = value-scale env k c q in
    omega (arith, h, ap (λ z. env k * z) j)

value-each : (env : ℕ → ℕ) (k m : ℕ) (f : Poly → Poly) → ((p : Poly) → value env (suc k) (f p) ≡ m * value env (suc k) p)
    → (p : Poly) → value env k (each f p) ≡ m * value env k p
unfolding value
value-each env k m f h (constant d) = let i = h (constant d) in omega (arith, i)
value-each env k m f h (cell b r) =
    let i = h b in
    let j = value-each env k m f h r in
    omega (arith, i, ap (λ z. env k * z) j)

value-mul : (env : ℕ → ℕ) (k : ℕ) (p r : Poly) → value env k (mul p r) ≡ value env k p * value env k r
unfolding value
value-mul env k (constant c) r = value-scale env k c r
value-mul env k (cell a q) r =
    let f = value-add env k (each (mul a) r) (cell (constant 0) (mul q r)) in
    let h = value-each env k (value env (suc k) a) (mul a) (value-mul env (suc k) a) r in
    let j = value-mul env k q r in
    omega (arith, f, h, ap (λ z. env k * z) j)

value-normal_form : (env : ℕ → ℕ) (e : Expr) → value env 0 (normal_form e) ≡ eval env e
unfolding value
value-normal_form env (lit n) = refl
value-normal_form env (var i) = let h : i + 0 ≡ i = omega arith in value-variable env 0 i ∙ ap env h
value-normal_form env (plus a b) =
    let f = value-add env 0 (normal_form a) (normal_form b) in
    let h = value-normal_form env a in let j = value-normal_form env b in omega (arith, f, h, j)
value-normal_form env (times a b) =
    value-mul env 0 (normal_form a) (normal_form b) ∙ ap₂ (λ x y. x * y) (value-normal_form env a) (value-normal_form env b)

pub and_left : (a b : Bool) → (a && b) ≡ true → a ≡ true
and_left true b h = refl
and_left false b h = h

pub and_right : (a b : Bool) → (a && b) ≡ true → b ≡ true
and_right true b h = h
and_right false b h = absurd (true≢false (sym h))

-- each coefficient of one is that of the other, modulo m
abbrev pub zero_coefficients : ℕ → Poly → Bool
zero_coefficients m (constant c) = eqb (c % m) 0
zero_coefficients m (cell a q) = zero_coefficients m a && zero_coefficients m q

abbrev pub same_coefficients : ℕ → Poly → Poly → Bool
same_coefficients m (constant c) (constant d) = eqb (c % m) (d % m)
same_coefficients m (constant c) (cell b r) = same_coefficients m (constant c) b && zero_coefficients m r
same_coefficients m (cell a q) (constant d) = same_coefficients m a (constant d) && zero_coefficients m q
same_coefficients m (cell a q) (cell b r) = same_coefficients m a b && same_coefficients m q r

zero_coefficients-value : (env : ℕ → ℕ) (k m : ℕ) (p : Poly) → zero_coefficients m p ≡ true → Congruent m (value env k p) 0
unfolding value
zero_coefficients-value env k m (constant c) h = eqb-true (c % m) 0 h ∙ sym (zero-mod m)
zero_coefficients-value env k m (cell a q) h =
    let i = zero_coefficients-value env (suc k) m a (and_left (zero_coefficients m a) (zero_coefficients m q) h) in
    let j = zero_coefficients-value env k m q (and_right (zero_coefficients m a) (zero_coefficients m q) h) in
    congruent_sum m _ 0 _ (env k * 0) i (congruent_product_right m (env k) _ 0 j) ∙ ap (λ x. x % m) (omega arith)

same_coefficients-value : (env : ℕ → ℕ) (k m : ℕ) (p q : Poly) → same_coefficients m p q ≡ true → Congruent m (value env k p) (value env k q)
unfolding value
same_coefficients-value env k m (constant c) (constant d) h = eqb-true (c % m) (d % m) h
same_coefficients-value env k m (constant c) (cell b r) h =
    let i = same_coefficients-value env (suc k) m (constant c) b (and_left (same_coefficients m (constant c) b) (zero_coefficients m r) h) in
    let j = zero_coefficients-value env k m r (and_right (same_coefficients m (constant c) b) (zero_coefficients m r) h) in
    let e : c ≡ c + env k * 0 = omega arith in
    ap (λ x. x % m) e ∙ congruent_sum m c _ (env k * 0) _ i (sym (congruent_product_right m (env k) _ 0 j))
same_coefficients-value env k m (cell a q) (constant d) h =
    let i = same_coefficients-value env (suc k) m a (constant d) (and_left (same_coefficients m a (constant d)) (zero_coefficients m q) h) in
    let j = zero_coefficients-value env k m q (and_right (same_coefficients m a (constant d)) (zero_coefficients m q) h) in
    let e : d + env k * 0 ≡ d = omega arith in
    congruent_sum m _ d _ (env k * 0) i (congruent_product_right m (env k) _ 0 j) ∙ ap (λ x. x % m) e
same_coefficients-value env k m (cell a q) (cell b r) h =
    let i = same_coefficients-value env (suc k) m a b (and_left (same_coefficients m a b) (same_coefficients m q r) h) in
    let j = same_coefficients-value env k m q r (and_right (same_coefficients m a b) (same_coefficients m q r) h) in
    congruent_sum m _ _ _ _ i (congruent_product_right m (env k) _ _ j)

-- congruent modulo m, whatever the variables are
pub identity : (m : ℕ) (env : ℕ → ℕ) (a b : Expr) → same_coefficients m (normal_form a) (normal_form b) ≡ true
    → Congruent m (eval env a) (eval env b)
identity m env a b h =
    ap (λ x. x % m) (sym (value-normal_form env a))
    ∙ same_coefficients-value env 0 m (normal_form a) (normal_form b) h
    ∙ ap (λ x. x % m) (value-normal_form env b)

-- an equation modulo m that is known, and what it is multiplied by
pub record Premise : Type 0 where
  pub factor : Expr
  pub left : Expr
  pub right : Expr

abbrev pub premise : Expr → Expr → Expr → Premise
premise f l r = record { factor = f; left = l; right = r }

-- c times the variables of a list, and a sum of expressions: so certificates are written
abbrev pub term : ℕ → List ℕ → Expr
term c [] = lit c
term c (i ∷ is) = times (var i) (term c is)

abbrev pub sum_of : List Expr → Expr
sum_of [] = lit 0
sum_of (e ∷ es) = plus e (sum_of es)

abbrev pub AllHold : ℕ → (ℕ → ℕ) → List Premise → Type 0
AllHold m env [] = Unit {0}
AllHold m env (k ∷ ks) = Congruent m (eval env k.left) (eval env k.right) × AllHold m env ks

abbrev pub lefts : Expr → List Premise → Expr
lefts a [] = a
lefts a (k ∷ ks) = plus (lefts a ks) (times k.factor k.left)

abbrev pub rights : Expr → List Premise → Expr
rights a [] = a
rights a (k ∷ ks) = plus (rights a ks) (times k.factor k.right)

without : (m : ℕ) (env : ℕ → ℕ) (a b : Expr) (ks : List Premise) → AllHold m env ks
    → Congruent m (eval env (lefts a ks)) (eval env (rights b ks)) → Congruent m (eval env a) (eval env b)
without m env a b [] h e = e
without m env a b (k ∷ ks) h e =
    without m env a b ks h.1 (congruent_cancel m _ _ _ _ (congruent_product_right m (eval env k.factor) _ _ h.0) e)

-- what follows from known equations, each times its factor, by the rules of rings
pub follows : (m : ℕ) (env : ℕ → ℕ) (a b : Expr) (ks : List Premise)
    → same_coefficients m (normal_form (lefts a ks)) (normal_form (rights b ks)) ≡ true
    → AllHold m env ks → Congruent m (eval env a) (eval env b)
follows m env a b ks h g = without m env a b ks g (identity m env (lefts a ks) (rights b ks) h)

abbrev pub nth : List ℕ → ℕ → ℕ
nth [] i = 0
nth (x ∷ xs) zero = x
nth (x ∷ xs) (suc i) = nth xs i
