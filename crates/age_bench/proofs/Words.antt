-- Too few words, and words behind a name that is known.
use Rattle.std.specs.Prelude.{◌≡◌, ◌≢◌, ℕ, ◌-◌, ◌<◌, ◌≤◌, List, [], ◌∷◌, length, get_or, take, drop, map, bytes_eq, Bool, true, false, not, Option, None, refl}
use Rattle.std.proofs.Common.{◌∙◌, arith, ap, sym, true≢false}
use Rattle.std.proofs.lemmas.List.{take_all}
use Rattle.std.proofs.lemmas.Slice.Eq.{bytes_eq-Decides}
use Rattle.age_bench.specs.Command.{CommandValue, AsksFor}

-- no words, and one
pub few : {Word : Type 0} (bytes : Word → List ℕ) (words : List Word) → length words < 3 → length words ≢ 2 → AsksFor (map bytes words) None
few bytes [] h other = refl
few bytes (a ∷ []) h other = refl
few bytes (a ∷ b ∷ []) h other = absurd (other refl)
few bytes (a ∷ b ∷ c ∷ words) h other = absurd (omega arith)

-- two words
pub two : {Word : Type 0} (bytes : Word → List ℕ) (words : List Word) (first second : Word) (left right : List ℕ) (asked : Option CommandValue)
    → 2 ≤ length words → length words < 3 → first ≡ get_or words 0 first → second ≡ get_or words 1 second → left ≡ bytes first → right ≡ bytes second
    → AsksFor (left ∷ right ∷ []) asked → AsksFor (map bytes words) asked
two bytes [] first second left right asked long short is_first is_second is_left is_right h = absurd (omega (arith, long))
two bytes (a ∷ []) first second left right asked long short is_first is_second is_left is_right h = absurd (omega (arith, long))
two bytes (a ∷ b ∷ []) first second left right asked long short is_first is_second is_left is_right h =
    let first_is : left ≡ bytes a = is_left ∙ ap bytes is_first in
    let second_is : right ≡ bytes b = is_right ∙ ap bytes is_second in
    rw (first_is, second_is) at h
two bytes (a ∷ b ∷ c ∷ words) first second left right asked long short is_first is_second is_left is_right h = absurd (omega (arith, short))

pub not_not : (b : Bool) → false ≡ not b → true ≡ b
not_not true named = refl
not_not false named = absurd (true≢false (sym named))

-- three words or more, of which the first is known
pub behind : {Word : Type 0} (bytes : Word → List ℕ) (words : List Word) (first second third : Word) (known name left right : List ℕ)
    (asked : Option CommandValue)
    → 3 ≤ length words → first ≡ get_or words 0 first → second ≡ get_or words 1 second → third ≡ get_or words 2 third
    → name ≡ bytes first → left ≡ bytes second → right ≡ bytes third → true ≡ bytes_eq name known
    → AsksFor (known ∷ left ∷ right ∷ map bytes (take (length words - 3) (drop 3 words))) asked → AsksFor (map bytes words) asked
behind bytes [] first second third known name left right asked long is_first is_second is_third is_name is_left is_right same h =
    absurd (omega (arith, long))
behind bytes (a ∷ []) first second third known name left right asked long is_first is_second is_third is_name is_left is_right same h =
    absurd (omega (arith, long))
behind bytes (a ∷ b ∷ []) first second third known name left right asked long is_first is_second is_third is_name is_left is_right same h =
    absurd (omega (arith, long))
behind bytes (a ∷ b ∷ c ∷ more) first second third known name left right asked long is_first is_second is_third is_name is_left is_right same h =
    let whole : take (length (a ∷ b ∷ c ∷ more) - 3) more ≡ more = take_all (length (a ∷ b ∷ c ∷ more) - 3) more (omega arith) in
    let first_is : known ≡ bytes a = sym ((bytes_eq-Decides name known).0 (sym same)) ∙ is_name ∙ ap bytes is_first in
    let second_is : left ≡ bytes b = is_left ∙ ap bytes is_second in
    let third_is : right ≡ bytes c = is_right ∙ ap bytes is_third in
    rw (whole, first_is, second_is, third_is) at h
