-- Symbols and their values.
use Rattle.std.proofs.Common.{◌≡◌, ◌≢◌, ℕ, zero, suc, ◌+◌, ◌<◌, ◌≤◌, ◌^◌, Bool, true, false, not, ◌&&◌, ◌==◌, if◌then◌else◌, List, [], ◌∷◌, ◌++◌, map, length, take, get_or, nat_lt, refl, ap, sym, ◌∙◌, arith, All, append_assoc, ◌⊎◌, inl, inr}
use Rattle.std.specs.Char.{is_ascii_uppercase, is_ascii_lowercase, to_ascii_lowercase}
use Rattle.std.specs.List.{AllByRecursion}
use Rattle.std.proofs.lemmas.Bool.{and_parts, cases_lt, eqb-true, eqb-false, ltb-true, not-true}
use Rattle.std.proofs.lemmas.List.{take_more, map-append, length-map, get_or-map}
use Rattle.std.proofs.lemmas.List.Elements.{All-head, All-tail, All-nil, All-cons, All-map}
use Rattle.age_bech32.specs.Symbols.{symbols, symbol, symbol_in, symbol_place, value_of, values_of, AreSymbols, lowered}

-- what is tested of each value
test : ℕ → Bool
test v = (symbol_place (symbol v) symbols == v) && not (symbol v == 49) && (to_ascii_lowercase (symbol_in true v) == symbol v)
    && (to_ascii_lowercase (symbol_in false v) == symbol v) && not (is_ascii_lowercase (symbol_in true v))
    && not (is_ascii_uppercase (symbol_in false v))
    && nat_lt (symbol_in true v) 128 && nat_lt (symbol_in false v) 128

unfoldable pub all_below : (ℕ → Bool) → ℕ → Bool
all_below p zero = true
all_below p (suc n) = p n && all_below p n

cases_at : (v n : ℕ) → v < suc n → (v < n) ⊎ (v ≡ n)
cases_at v n lt = elim (cases_lt v n) [ inl below ↦ inl below | inr above ↦ inr (omega arith) ]

pub passes : (p : ℕ → Bool) (n : ℕ) → all_below p n ≡ true → (v : ℕ) → v < n → p v ≡ true
unfolding all_below
passes p zero h v lt = absurd (omega arith)
passes p (suc n) h v lt =
    let parts = and_parts (p n) (all_below p n) h in
    elim (cases_at v n lt) [ inl below ↦ passes p n parts.1 v below | inr here ↦ ap p here ∙ parts.0 ]

all_pass : all_below test 32 ≡ true
unfolding all_below test symbol symbol_place
all_pass = refl

pub record IsSymbol (v : ℕ) : Type 0 where
  pub place : symbol_place (symbol v) symbols ≡ v
  pub no_one : symbol v ≢ 49
  pub lower_of_upper : to_ascii_lowercase (symbol_in true v) ≡ symbol v
  pub lower_of_lower : to_ascii_lowercase (symbol_in false v) ≡ symbol v
  pub no_lower : is_ascii_lowercase (symbol_in true v) ≡ false
  pub no_upper : is_ascii_uppercase (symbol_in false v) ≡ false
  pub upper_ascii : symbol_in true v < 128
  pub lower_ascii : symbol_in false v < 128

pub symbol-is : (v : ℕ) → v < 2 ^ 5 → IsSymbol v
unfolding test
symbol-is v lt =
    let h7 = and_parts _ _ (passes test 32 all_pass v lt) in
    let h6 = and_parts _ _ h7.0 in
    let h5 = and_parts _ _ h6.0 in
    let h4 = and_parts _ _ h5.0 in
    let h3 = and_parts _ _ h4.0 in
    let h2 = and_parts _ _ h3.0 in
    let h1 = and_parts _ _ h2.0 in
    record {
      place = eqb-true (symbol_place (symbol v) symbols) v h1.0;
      no_one = eqb-false (symbol v) 49 (not-true (symbol v == 49) h1.1);
      lower_of_upper = eqb-true (to_ascii_lowercase (symbol_in true v)) (symbol v) h2.1;
      lower_of_lower = eqb-true (to_ascii_lowercase (symbol_in false v)) (symbol v) h3.1;
      no_lower = not-true (is_ascii_lowercase (symbol_in true v)) h4.1;
      no_upper = not-true (is_ascii_uppercase (symbol_in false v)) h5.1;
      upper_ascii = ltb-true (symbol_in true v) 128 h6.1;
      lower_ascii = ltb-true (symbol_in false v) 128 h7.1;
    }

pub symbol-same : (a b : ℕ) → a < 2 ^ 5 → b < 2 ^ 5 → symbol a ≡ symbol b → a ≡ b
symbol-same a b ha hb e = sym (symbol-is a ha).place ∙ ap (λ s. symbol_place s symbols) e ∙ (symbol-is b hb).place

-- symbols have one reading
pub same_values : (vs ws : List ℕ) → All (λ v. v < 2 ^ 5) vs → All (λ v. v < 2 ^ 5) ws → map symbol vs ≡ map symbol ws → vs ≡ ws
same_values [] [] hv hw e = refl
same_values [] (w ∷ ws) hv hw e = cc
same_values (v ∷ vs) [] hv hw e = cc
same_values (v ∷ vs) (w ∷ ws) hv hw e =
    let first : symbol v ≡ symbol w = cc in
    let rest : map symbol vs ≡ map symbol ws = cc in
    let a : v ≡ w = symbol-same v w (All-head (λ x. x < 2 ^ 5) v vs hv) (All-head (λ x. x < 2 ^ 5) w ws hw) first in
    let b : vs ≡ ws = same_values vs ws (All-tail (λ x. x < 2 ^ 5) v vs hv) (All-tail (λ x. x < 2 ^ 5) w ws hw) rest in
    cc

-- what stands at its place
here : (b : Bool) (c x : ℕ) (xs : List ℕ) (n : ℕ) → (c == x) ≡ b → (n < length xs → get_or xs n 0 ≡ c) → (if b then 0 else suc n) < suc (length xs)
    → get_or (x ∷ xs) (if b then 0 else suc n) 0 ≡ c
here true c x xs n e rest lt = sym (eqb-true c x e)
here false c x xs n e rest lt = rest (omega arith)

at_place : (c : ℕ) (xs : List ℕ) → symbol_place c xs < length xs → get_or xs (symbol_place c xs) 0 ≡ c
unfolding symbol_place
at_place c [] lt = absurd (omega arith)
at_place c (x ∷ xs) lt = here (c == x) c x xs (symbol_place c xs) refl (at_place c xs) lt

symbol_at : (byte : ℕ) → value_of byte < 2 ^ 5 → to_ascii_lowercase byte ≡ symbol (value_of byte)
unfolding value_of symbol
symbol_at byte lt = sym (at_place (to_ascii_lowercase byte) symbols lt)

pub value_is : (byte v : ℕ) → v < 2 ^ 5 → to_ascii_lowercase byte ≡ symbol v → value_of byte ≡ v
unfolding value_of
value_is byte v lt e = ap (λ s. symbol_place s symbols) e ∙ (symbol-is v lt).place

pub no_value : (byte : ℕ) → ((v : ℕ) → v < 2 ^ 5 → to_ascii_lowercase byte ≢ symbol v) → 2 ^ 5 ≤ value_of byte
no_value byte none = elim (cases_lt (value_of byte) (2 ^ 5)) [ inl lt ↦ absurd (none (value_of byte) lt (symbol_at byte lt)) | inr out ↦ out ]

pub values-size : (text : List ℕ) → length (values_of text) ≡ length text
values-size text = length-map text value_of

pub value-at : (text : List ℕ) (i : ℕ) → i < length text → get_or (values_of text) i 0 ≡ value_of (get_or text i 0)
value-at text i lt = get_or-map value_of text i 0 0 lt

pub values-fit : (text : List ℕ) → AreSymbols text → All (λ v. v < 2 ^ 5) (values_of text)
values-fit text are = All-map (λ v. v < 2 ^ 5) value_of text are

-- symbols spell their values
pub spelled : (text : List ℕ) → AreSymbols text → lowered text ≡ map symbol (values_of text)
spelled [] h = refl
spelled (x ∷ text) h =
    let first = symbol_at x (All-head (λ b. value_of b < 2 ^ 5) x text h) in
    let rest = spelled text (All-tail (λ b. value_of b < 2 ^ 5) x text h) in
    cc

-- a text that spells values has symbols of these
pub spells : (text vs : List ℕ) → All (λ v. v < 2 ^ 5) vs → lowered text ≡ map symbol vs → AreSymbols text
spells [] vs h e = All-nil (λ b. value_of b < 2 ^ 5)
spells (x ∷ text) [] h e = cc
spells (x ∷ text) (v ∷ vs) h e =
    let first : to_ascii_lowercase x ≡ symbol v = cc in
    let rest : lowered text ≡ map symbol vs = cc in
    let five : v < 2 ^ 5 = All-head (λ y. y < 2 ^ 5) v vs h in
    let same : value_of x ≡ v = value_is x v five first in
    All-cons (λ b. value_of b < 2 ^ 5) x text (omega arith) (spells text vs (All-tail (λ y. y < 2 ^ 5) v vs h) rest)

lower_of : (b : Bool) (v : ℕ) → v < 2 ^ 5 → to_ascii_lowercase (symbol_in b v) ≡ symbol v
lower_of true v h = (symbol-is v h).lower_of_upper
lower_of false v h = (symbol-is v h).lower_of_lower

pub ascii_of : (b : Bool) (v : ℕ) → v < 2 ^ 5 → symbol_in b v < 128
ascii_of true v h = (symbol-is v h).upper_ascii
ascii_of false v h = (symbol-is v h).lower_ascii

pub lowered-spelled : (b : Bool) (vs : List ℕ) → All (λ v. v < 2 ^ 5) vs → lowered (map (symbol_in b) vs) ≡ map symbol vs
lowered-spelled b [] h = refl
lowered-spelled b (v ∷ vs) h =
    let first = lower_of b v (All-head (λ x. x < 2 ^ 5) v vs h) in
    let rest = lowered-spelled b vs (All-tail (λ x. x < 2 ^ 5) v vs h) in
    cc

-- no `1` among symbols
pub lacks_one : (rest vs : List ℕ) → All (λ v. v < 2 ^ 5) vs → lowered rest ≡ map symbol vs → AllByRecursion (λ c. c ≢ 49) rest
lacks_one [] vs h e = tt
lacks_one (x ∷ rest) [] h e = cc
lacks_one (x ∷ rest) (v ∷ vs) h e =
    let first : to_ascii_lowercase x ≡ symbol v = cc in
    let more : lowered rest ≡ map symbol vs = cc in (
      λ one. (symbol-is v (All-head (λ y. y < 2 ^ 5) v vs h)).no_one (sym first ∙ ap to_ascii_lowercase one),
      lacks_one rest vs (All-tail (λ y. y < 2 ^ 5) v vs h) more,
    )

-- one symbol more
pub written_more : (f : ℕ → ℕ) (old text new xs : List ℕ) (i ch : ℕ) → i < length xs → text ≡ old ++ map f (take i xs) → ch ≡ f (get_or xs i 0)
    → new ≡ text ++ ch ∷ [] → new ≡ old ++ map f (take (i + 1) xs)
written_more f old text new xs i ch lt is e n =
    let more : take (i + 1) xs ≡ take i xs ++ get_or xs i 0 ∷ [] = take_more xs i 0 lt in
    let parts : map f (take i xs ++ get_or xs i 0 ∷ []) ≡ map f (take i xs) ++ f (get_or xs i 0) ∷ [] =
    map-append f (take i xs) (get_or xs i 0 ∷ []) in
    n ∙ ap (λ t. t ++ ch ∷ []) is ∙ ap (λ x. (old ++ map f (take i xs)) ++ x ∷ []) e ∙ append_assoc old (map f (take i xs)) (f (get_or xs i 0) ∷ [])
    ∙ ap (λ t. old ++ t) (sym parts ∙ ap (map f) (sym more))
