-- One symbol exchanged: the remainder is another one.
use Rattle.std.proofs.Common.{◌≡◌, ℕ, zero, suc, ◌*◌, ◌/◌, ◌%◌, ◌^◌, ◌<◌, Bool, true, ◌==◌, if◌then◌else◌, List, [], ◌∷◌, ◌++◌, map, bit_xor, refl, ap, sym, ◌∙◌, arith, All}
use Rattle.std.proofs.lemmas.Bool.{eqb-true}
use Rattle.std.proofs.lemmas.Nat.{xor_mod, xor_comm}
use Rattle.std.proofs.lemmas.List.Elements.{All-head, All-tail}
use Rattle.std.specs.Char.{to_ascii_lowercase}
use Rattle.age_bech32.specs.Symbols.{symbol, lowered}
use Rattle.age_bech32.specs.Remainder.{generated, step, remainder_after}
use Rattle.age_bech32.proofs.Spelling.{all_below, passes, symbol-same, same_values}
use Rattle.age_bech32.proofs.Remainders.{step-below}
use Rattle.age_bech32.proofs.Xor.{xor-cancel}

-- the top five bits that give these low five bits
back_of : ℕ → ℕ → ℕ
back_of zero low = 0
back_of (suc n) low = if generated n % 2 ^ 5 == low then n else back_of n low

comes_back : ℕ → Bool
comes_back t = back_of 32 (generated t % 2 ^ 5) == t

all_back : all_below comes_back 32 ≡ true
unfolding all_below comes_back back_of generated
all_back = refl

generated-same : (a b : ℕ) → a < 2 ^ 5 → b < 2 ^ 5 → generated a % 2 ^ 5 ≡ generated b % 2 ^ 5 → a ≡ b
unfolding comes_back
generated-same a b ha hb e =
    sym (eqb-true (back_of 32 (generated a % 2 ^ 5)) a (passes comes_back 32 all_back a ha)) ∙ ap (back_of 32) e
    ∙ eqb-true (back_of 32 (generated b % 2 ^ 5)) b (passes comes_back 32 all_back b hb)

xor-cancel_right : (a b c : ℕ) → bit_xor a c ≡ bit_xor b c → a ≡ b
xor-cancel_right a b c e = xor-cancel c a b (xor_comm c a ∙ e ∙ xor_comm b c)

shifted_low : (n v : ℕ) → bit_xor (n * 2 ^ 5) v % 2 ^ 5 ≡ bit_xor 0 (v % 2 ^ 5)
shifted_low n v = xor_mod (n * 2 ^ 5) v 5 ∙ ap (λ x. bit_xor x (v % 2 ^ 5)) (let none : n * 2 ^ 5 % 2 ^ 5 ≡ 0 = omega arith in none)

parts_same : (a b : ℕ) → a / 2 ^ 25 ≡ b / 2 ^ 25 → a % 2 ^ 25 * 2 ^ 5 ≡ b % 2 ^ 25 * 2 ^ 5 → a ≡ b
parts_same a b e f = omega arith

-- a remainder before a value is told by that after it
step-back : (a b v : ℕ) → a < 2 ^ 30 → b < 2 ^ 30 → step a v ≡ step b v → a ≡ b
unfolding step
step-back a b v ha hb e =
    let ga = generated (a / 2 ^ 25) in
    let gb = generated (b / 2 ^ 25) in
    let la = bit_xor (a % 2 ^ 25 * 2 ^ 5) v in
    let lb = bit_xor (b % 2 ^ 25 * 2 ^ 5) v in
    let low : bit_xor (la % 2 ^ 5) (ga % 2 ^ 5) ≡ bit_xor (lb % 2 ^ 5) (gb % 2 ^ 5) =
    sym (xor_mod la ga 5) ∙ ap (λ x. x % 2 ^ 5) e ∙ xor_mod lb gb 5 in
    let same : bit_xor (lb % 2 ^ 5) (ga % 2 ^ 5) ≡ bit_xor (lb % 2 ^ 5) (gb % 2 ^ 5) =
    ap (λ x. bit_xor x (ga % 2 ^ 5)) (shifted_low (b % 2 ^ 25) v ∙ sym (shifted_low (a % 2 ^ 25) v)) ∙ low in
    let top : a / 2 ^ 25 ≡ b / 2 ^ 25 =
    generated-same (a / 2 ^ 25) (b / 2 ^ 25) (omega arith) (omega arith) (xor-cancel (lb % 2 ^ 5) (ga % 2 ^ 5) (gb % 2 ^ 5) same) in
    let upper : bit_xor la gb ≡ bit_xor lb gb = ap (λ t. bit_xor la (generated t)) (sym top) ∙ e in
    parts_same a b top (xor-cancel_right (a % 2 ^ 25 * 2 ^ 5) (b % 2 ^ 25 * 2 ^ 5) v (xor-cancel_right la lb gb upper))

after-back : (a b : ℕ) (vs : List ℕ) → a < 2 ^ 30 → b < 2 ^ 30 → All (λ v. v < 2 ^ 5) vs → remainder_after a vs ≡ remainder_after b vs → a ≡ b
unfolding remainder_after
after-back a b [] ha hb fits e = e
after-back a b (v ∷ vs) ha hb fits e =
    let five : v < 2 ^ 5 = All-head (λ x. x < 2 ^ 5) v vs fits in
    step-back a b v ha hb (after-back (step a v) (step b v) vs (step-below a v five) (step-below b v five) (All-tail (λ x. x < 2 ^ 5) v vs fits) e)

value-back : (s v w : ℕ) → step s v ≡ step s w → v ≡ w
unfolding step
value-back s v w e =
    xor-cancel (s % 2 ^ 25 * 2 ^ 5) v w (xor-cancel_right (bit_xor (s % 2 ^ 25 * 2 ^ 5) v) (bit_xor (s % 2 ^ 25 * 2 ^ 5) w)
    (generated (s / 2 ^ 25)) e)

-- texts with one remainder that differ in one symbol at most are the same in lower case
pub same_symbol : (s c d : ℕ) (front back vs ws : List ℕ) → All (λ v. v < 2 ^ 5) vs → All (λ w. w < 2 ^ 5) ws
    → lowered (front ++ c ∷ back) ≡ map symbol vs → lowered (front ++ d ∷ back) ≡ map symbol ws → remainder_after s vs ≡ remainder_after s ws
    → to_ascii_lowercase c ≡ to_ascii_lowercase d
unfolding remainder_after
same_symbol s c d [] back [] ws hv hw e f r = cc
same_symbol s c d [] back (v ∷ vs) [] hv hw e f r = cc
same_symbol s c d [] back (v ∷ vs) (w ∷ ws) hv hw e f r =
    let fv : v < 2 ^ 5 = All-head (λ x. x < 2 ^ 5) v vs hv in
    let fw : w < 2 ^ 5 = All-head (λ x. x < 2 ^ 5) w ws hw in
    let tv = All-tail (λ x. x < 2 ^ 5) v vs hv in
    let tw = All-tail (λ x. x < 2 ^ 5) w ws hw in
    let ev : lowered back ≡ map symbol vs = cc in
    let ew : lowered back ≡ map symbol ws = cc in
    let cv : to_ascii_lowercase c ≡ symbol v = cc in
    let dw : to_ascii_lowercase d ≡ symbol w = cc in
    let rest : vs ≡ ws = same_values vs ws tv tw (sym ev ∙ ew) in
    let same : step s v ≡ step s w = after-back (step s v) (step s w) ws (step-below s v fv) (step-below s w fw) tw
    (ap (remainder_after (step s v)) (sym rest) ∙ r) in
    cv ∙ ap symbol (value-back s v w same) ∙ sym dw
same_symbol s c d (m ∷ front) back [] ws hv hw e f r = cc
same_symbol s c d (m ∷ front) back (v ∷ vs) [] hv hw e f r = cc
same_symbol s c d (m ∷ front) back (v ∷ vs) (w ∷ ws) hv hw e f r =
    let fv : v < 2 ^ 5 = All-head (λ x. x < 2 ^ 5) v vs hv in
    let fw : w < 2 ^ 5 = All-head (λ x. x < 2 ^ 5) w ws hw in
    let ev : lowered (front ++ c ∷ back) ≡ map symbol vs = cc in
    let ew : lowered (front ++ d ∷ back) ≡ map symbol ws = cc in
    let mv : to_ascii_lowercase m ≡ symbol v = cc in
    let mw : to_ascii_lowercase m ≡ symbol w = cc in
    let first : v ≡ w = symbol-same v w fv fw (sym mv ∙ mw) in
    same_symbol (step s v) c d front back vs ws (All-tail (λ x. x < 2 ^ 5) v vs hv) (All-tail (λ x. x < 2 ^ 5) w ws hw) ev ew
    (r ∙ ap (λ x. remainder_after (step s x) ws) (sym first))
