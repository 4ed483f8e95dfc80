-- Lines: where they end.
use Rattle.std.proofs.Common.{◌≡◌, ◌≢◌, ℕ, List, [], ◌∷◌, ◌++◌, refl, sym, append_assoc, ◌∙◌}
use Rattle.std.proofs.lemmas.Bool.{and_parts, eqb-false, not-true}
use Rattle.std.specs.Prelude.{true, not, ◌==◌}
use Rattle.std.specs.List.{AllByRecursion, list_all}
use Rattle.age_base64.specs.Lines.{line, Lacks}

pub split_at : (c : ℕ) (a b x y : List ℕ) → Lacks c a → Lacks c b → a ++ c ∷ x ≡ b ++ c ∷ y → (a ≡ b) × (x ≡ y)
split_at c [] [] x y ha hb e = (refl, cc)
split_at c [] (d ∷ b) x y ha hb e = absurd (hb.0 (cc))
split_at c (d ∷ a) [] x y ha hb e = absurd (ha.0 (cc))
split_at c (d ∷ a) (f ∷ b) x y ha hb e =
    let r : (a ≡ b) × (x ≡ y) = split_at c a b x y ha.1 hb.1 (cc) in (cc, r.1)

-- at a literal the test computes
pub lacks_tested : (c : ℕ) (xs : List ℕ) → list_all (λ d. not (d == c)) xs ≡ true → Lacks c xs
lacks_tested c [] h = tt
lacks_tested c (d ∷ xs) h =
    let parts = and_parts (not (d == c)) (list_all (λ x. not (x == c)) xs) h in
    (eqb-false d c (not-true (d == c) parts.0), lacks_tested c xs parts.1)

-- two texts that begin with whole lines
pub split_line : (a b x y : List ℕ) → Lacks 10 a → Lacks 10 b → line a ++ x ≡ line b ++ y → (a ≡ b) × (x ≡ y)
split_line a b x y ha hb e =
    let f : a ++ 10 ∷ x ≡ b ++ 10 ∷ y = sym (append_assoc a (10 ∷ []) x) ∙ e ∙ append_assoc b (10 ∷ []) y in
    split_at 10 a b x y ha hb f

pub each-append : {X : Type 0} (P : X → Type 0) (a b : List X) → AllByRecursion P a → AllByRecursion P b → AllByRecursion P (a ++ b)
each-append P [] b ha hb = hb
each-append P (d ∷ a) b ha hb = (ha.0, each-append P a b ha.1 hb)

pub each_left : {X : Type 0} (P : X → Type 0) (a b : List X) → AllByRecursion P (a ++ b) → AllByRecursion P a
each_left P [] b h = tt
each_left P (d ∷ a) b h = (h.0, each_left P a b h.1)

pub each_right : {X : Type 0} (P : X → Type 0) (a b : List X) → AllByRecursion P (a ++ b) → AllByRecursion P b
each_right P [] b h = h
each_right P (d ∷ a) b h = each_right P a b h.1

pub Lacks-append : (c : ℕ) (a b : List ℕ) → Lacks c a → Lacks c b → Lacks c (a ++ b)
Lacks-append c a b = each-append (λ d. d ≢ c) a b

pub Lacks_left : (c : ℕ) (a b : List ℕ) → Lacks c (a ++ b) → Lacks c a
Lacks_left c a b = each_left (λ d. d ≢ c) a b

pub Lacks_right : (c : ℕ) (a b : List ℕ) → Lacks c (a ++ b) → Lacks c b
Lacks_right c a b = each_right (λ d. d ≢ c) a b
