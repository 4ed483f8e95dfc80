-- Stanzas that are compared, and stanzas that are copied.
use Rattle.std.proofs.Common.{◌≡◌, ℕ, Bool, true, List, [], ◌∷◌, map, refl, ap, sym, ◌∙◌, ◌↔◌, IsTrue}
use Rattle.std.specs.Prelude.{◌&&◌, nat_eq}
use Rattle.std.specs.Bool.{Decides}
use Rattle.std.specs.List.{AllZip}
use Rattle.std.specs.Cmp.Lexicographic.{pointwise}
use Rattle.std.proofs.lemmas.Bool.{and_parts}
use Rattle.std.proofs.lemmas.Bool.Decides.{Decides-eqb}
use Rattle.std.proofs.lemmas.Slice.Eq.{slice_eq-Decides}
use Rattle.std.proofs.lemmas.Cmp.{on_equiv, lists_equiv, nat_list_eq_equiv}
use Rattle.std.specs.Cmp.{IsEquivalence, and_equiv}
use Rattle.age_v1.specs.HeaderTexts.{stanza_eq}
use Rattle.age_v1.specs.Stanza.{StanzaValue}
use Rattle.age_v1.proofs.Headers.{same_value}

told : (b : Bool) (P : Type 0) → Decides b P → b ≡ true → P
told b P h e = h.0 e

same_bytes : (xs ys : List ℕ) → pointwise nat_eq xs ys ≡ true → xs ≡ ys
same_bytes xs ys h = told (pointwise nat_eq xs ys) (xs ≡ ys) (slice_eq-Decides Decides-eqb xs ys (pointwise nat_eq xs ys) refl) h

same_strings : (xs ys : List (List ℕ)) → pointwise (pointwise nat_eq) xs ys ≡ true → xs ≡ ys
same_strings xs ys h =
    told (pointwise (pointwise nat_eq) xs ys) (xs ≡ ys)
    (slice_eq-Decides (λ x y. slice_eq-Decides Decides-eqb x y (pointwise nat_eq x y) refl) xs ys (pointwise (pointwise nat_eq) xs ys) refl) h

stanza_equiv : IsEquivalence stanza_eq
stanza_equiv =
    and_equiv (and_equiv (on_equiv (λ s. s.tag) nat_list_eq_equiv) (on_equiv (λ s. s.args) (lists_equiv nat_list_eq_equiv)))
    (on_equiv (λ s. s.body) nat_list_eq_equiv)

-- stanzas that compare equal are the same
pub equal_same : (s z : StanzaValue) → IsTrue (stanza_eq s z) ↔ (s ≡ z)
equal_same s z = (
  λ h.
      let outer = and_parts (pointwise nat_eq s.tag z.tag && pointwise (pointwise nat_eq) s.args z.args) (pointwise nat_eq s.body z.body) h in
      let inner = and_parts (pointwise nat_eq s.tag z.tag) (pointwise (pointwise nat_eq) s.args z.args) outer.0 in
      same_value s z (same_bytes s.tag z.tag inner.0) (same_strings s.args z.args inner.1) (same_bytes s.body z.body outer.1),
  λ e. ap (λ x. stanza_eq s x) (sym e) ∙ stanza_equiv.refl s,
)

-- copies of texts have their bytes
pub copied : {X : Type 0} (f : X → List ℕ) (xs ys : List X) → AllZip (λ x y. f y ≡ f x) xs ys → map f ys ≡ map f xs
copied f [] [] h = refl
copied f [] (y ∷ ys) h = absurd h
copied f (x ∷ xs) [] h = absurd h
copied f (x ∷ xs) (y ∷ ys) h = ap (λ b. b ∷ map f ys) h.0 ∙ ap (λ t. f x ∷ t) (copied f xs ys h.1)

abbrev stanza_of : List ℕ → List (List ℕ) → List ℕ → StanzaValue
stanza_of t a b = record { tag = t; args = a; body = b }

pub same_parts : (t u : List ℕ) (a c : List (List ℕ)) (b d : List ℕ) → t ≡ u → a ≡ c → b ≡ d → stanza_of t a b ≡ stanza_of u c d
same_parts t u a c b d e f g = same_value (stanza_of t a b) (stanza_of u c d) e f g
