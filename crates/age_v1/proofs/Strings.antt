-- Texts of memory that are strings.
use Rattle.std.proofs.Common.{ℕ, ◌≡◌, ◌↔◌, Bool, true, false, IsTrue, List, [], ◌∷◌, length, map, refl, ap, ◌∙◌, arith}
use Rattle.std.specs.Prelude.{◌&&◌, nat_le, nat_lt}
use Rattle.std.proofs.lemmas.Bool.{and_parts, leb-true, le-leb}
use Rattle.std.specs.List.{AllByRecursion, All, list_all}
use Rattle.std.proofs.lemmas.List.Elements.{All-from_recursion, recursion_from_All}
use Rattle.age_v1.specs.Stanza.{IsString, IsGraphic, is_graphic, is_string_of}

pub recursion_of_map : {X : Type 0} (f : X → List ℕ) (xs : List X) → AllByRecursion (λ a. IsString (f a)) xs → AllByRecursion IsString (map f xs)
recursion_of_map f [] h = tt
recursion_of_map f (x ∷ xs) h = (h.0, recursion_of_map f xs h.1)

pub map_of_recursion : {X : Type 0} (f : X → List ℕ) (xs : List X) → AllByRecursion IsString (map f xs) → AllByRecursion (λ a. IsString (f a)) xs
map_of_recursion f [] h = tt
map_of_recursion f (x ∷ xs) h = (h.0, map_of_recursion f xs h.1)

pub strings_of_all : {X : Type 0} (f : X → List ℕ) (xs : List X) → All (λ a. IsString (f a)) xs → AllByRecursion IsString (map f xs)
strings_of_all f xs h = recursion_of_map f xs (recursion_from_All (λ a. IsString (f a)) xs h)

pub all_of_strings : {X : Type 0} (f : X → List ℕ) (xs : List X) → AllByRecursion IsString (map f xs) → All (λ a. IsString (f a)) xs
all_of_strings f xs h = All-from_recursion (λ a. IsString (f a)) xs (map_of_recursion f xs h)

pub graphic_told : (s : List ℕ) → list_all is_graphic s ≡ true → AllByRecursion IsGraphic s
graphic_told [] h = tt
graphic_told (b ∷ s) h =
    let parts = and_parts (is_graphic b) (list_all is_graphic s) h in
    let ends = and_parts (nat_le 33 b) (nat_le b 126) parts.0 in
    ((leb-true 33 b ends.0, leb-true b 126 ends.1), graphic_told s parts.1)

graphic_tests : (s : List ℕ) → AllByRecursion IsGraphic s → list_all is_graphic s ≡ true
graphic_tests [] h = refl
graphic_tests (b ∷ s) h = rw (le-leb 33 b h.0.0, le-leb b 126 h.0.1, graphic_tests s h.1) refl

-- the test of a string tells whether it is one
pub string_tested : (s : List ℕ) → IsTrue (is_string_of s) ↔ IsString s
string_tested [] = (λ h. let bad : Path Bool false true = h in cc, λ h. absurd (h.0 refl))
string_tested (b ∷ s) = (
  λ h. ((λ e. cc), graphic_told (b ∷ s) (and_parts (nat_lt 0 (length (b ∷ s))) (list_all is_graphic (b ∷ s)) h).1),
  λ h. ap (λ t. t && list_all is_graphic (b ∷ s)) (le-leb 1 (length (b ∷ s)) (omega arith)) ∙ graphic_tests (b ∷ s) h.1,
)
