-- A text is told by its lower-case form and its case.
use Rattle.std.proofs.Common.{◌≡◌, ℕ, inl, inr, Bool, true, false, ◌||◌, List, [], ◌∷◌, ◌++◌, refl, ap, sym, ◌∙◌, arith}
use Rattle.std.proofs.lemmas.Bool.Decides.{nat_tests}
use Rattle.std.specs.Char.{is_ascii_uppercase, is_ascii_lowercase, to_ascii_lowercase}
use Rattle.age_bech32.specs.Symbols.{lowered, has_upper, has_lower, IsOneCase}

or_parts : (x y : Bool) → (x || y) ≡ false → (x ≡ false) × (y ≡ false)
or_parts true y e = cc
or_parts false y e = (refl, e)

lower_is : (c : ℕ) → is_ascii_uppercase c ≡ false → to_ascii_lowercase c ≡ c
lower_is c h = grind (arith, nat_tests)

byte_same : (a b : ℕ) → is_ascii_lowercase a ≡ false → is_ascii_lowercase b ≡ false → to_ascii_lowercase a ≡ to_ascii_lowercase b → a ≡ b
byte_same a b ha hb e = grind (arith, nat_tests)

lowered-is : (t : List ℕ) → has_upper t ≡ false → lowered t ≡ t
lowered-is [] h = refl
lowered-is (x ∷ t) h =
    let parts = or_parts (is_ascii_uppercase x) (has_upper t) h in
    let first = lower_is x parts.0 in
    let rest = lowered-is t parts.1 in
    cc

raised_same : (s t : List ℕ) → has_lower s ≡ false → has_lower t ≡ false → lowered s ≡ lowered t → s ≡ t
raised_same [] [] hs ht e = refl
raised_same [] (y ∷ t) hs ht e = cc
raised_same (x ∷ s) [] hs ht e = cc
raised_same (x ∷ s) (y ∷ t) hs ht e =
    let a = or_parts (is_ascii_lowercase x) (has_lower s) hs in
    let b = or_parts (is_ascii_lowercase y) (has_lower t) ht in
    let head : to_ascii_lowercase x ≡ to_ascii_lowercase y = cc in
    let tail : lowered s ≡ lowered t = cc in
    let first = byte_same x y a.0 b.0 head in
    let rest = raised_same s t a.1 b.1 tail in
    cc

no_lower : (t : List ℕ) → IsOneCase t → has_upper t ≡ true → has_lower t ≡ false
no_lower t (inl none) h = cc
no_lower t (inr none) h = none

told_by : (b : Bool) (s t : List ℕ) → has_upper s ≡ b → has_upper t ≡ b → IsOneCase s → IsOneCase t → lowered s ≡ lowered t → s ≡ t
told_by true s t us ut os ot e = raised_same s t (no_lower s os us) (no_lower t ot ut) e
told_by false s t us ut os ot e = sym (lowered-is s us) ∙ e ∙ lowered-is t ut

pub told : (s t : List ℕ) → IsOneCase s → IsOneCase t → has_upper s ≡ has_upper t → lowered s ≡ lowered t → s ≡ t
told s t os ot u e = told_by (has_upper t) s t u refl os ot e

pub append-lowered : (p x y : List ℕ) → lowered x ≡ lowered y → (c : ℕ) → lowered (p ++ c ∷ x) ≡ lowered (p ++ c ∷ y)
append-lowered [] x y e c = ap (λ t. to_ascii_lowercase c ∷ t) e
append-lowered (a ∷ p) x y e c = ap (λ t. to_ascii_lowercase a ∷ t) (append-lowered p x y e c)
