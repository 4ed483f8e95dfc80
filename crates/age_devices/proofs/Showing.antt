-- What a device shows of its bytes, and gives.
use Rattle.std.specs.Prelude.{◌≡◌, ℕ, ◌+◌, ◌-◌, ◌≤◌, List, ◌++◌, length, take, drop}
use Rattle.std.proofs.Common.{ap, ◌∙◌, sym, refl, arith}
use Rattle.std.proofs.lemmas.List.{take-append-drop, drop-take, drop-drop, take-take, take_at, length-take-le, length-drop, drop_all}
use Rattle.age_io.specs.Stretch.{whole, from_place, IsCleanEnd}
use Rattle.age_io.specs.Reading.{Delivers}
use Rattle.age_io.specs.Buffering.{held}
use Rattle.age_io.specs.Filling.{IsFront}
use Rattle.age_io.proofs.Holding.{length-held}

-- the next bytes are a beginning of the rest
pub gives-next : (xs front : List ℕ) (place n : ℕ) → front ≡ take n (drop place xs) →
    Delivers front (from_place place (whole xs)) (from_place (place + n) (whole xs))
gives-next xs front place n is = record {
  bytes = sym (take-append-drop n (drop place xs)) ∙ ap (λ ys. ys ++ drop n (drop place xs)) (sym is)
      ∙ ap (λ ys. front ++ ys) (drop-drop n place xs);
  end = refl;
}

-- so are those of what is shown
pub gives-of-shown : (xs : List ℕ) (place end n : ℕ) → place ≤ end → end ≤ length xs → n ≤ length (held xs place end) →
    Delivers (take n (held xs place end)) (from_place place (whole xs)) (from_place (place + n) (whole xs))
gives-of-shown xs place end n order within most =
    let fits : n ≤ end - place = rw length-held at most in
    let split : place + (end - place) ≡ end = omega arith in
    let is : held xs place end ≡ take (end - place) (drop place xs) =
    ap (λ m. drop place (take m xs)) (sym split) ∙ drop-take place (end - place) xs in
    gives-next xs (take n (held xs place end)) place n
    (ap (take n) is ∙ take-take n (end - place) (drop place xs) fits)

-- what was copied stands in front
pub copied-next : (xs copy after : List ℕ) (place n : ℕ) → place + n ≤ length xs → copy ≡ take ((place + n) - place) (drop place xs) →
    take n (copy ++ after) ≡ take n (drop place xs)
copied-next xs copy after place n within copied =
    let count : (place + n) - place ≡ n = omega arith in
    let is : copy ≡ take n (drop place xs) = copied ∙ ap (λ m. take m (drop place xs)) count in
    let long : length copy ≡ n = ap length is ∙ length-take-le n (drop place xs) (rw length-drop (omega arith)) in
    take_at copy after n long ∙ is

-- behind the last byte nothing is left
pub ends-there : (xs : List ℕ) (place : ℕ) → place ≡ length xs → IsCleanEnd (from_place place (whole xs))
ends-there xs place there = record { bytes = drop_all place xs (omega (arith, there)); ends_well = refl }

-- what is shown next
pub shown-next : (xs : List ℕ) (place n : ℕ) → held xs place (place + n) ≡ take ((place + n) - place) (drop place xs)
shown-next xs place n =
    let count : n ≡ (place + n) - place = omega arith in
    drop-take place n xs ∙ ap (λ m. take m (drop place xs)) count

-- it is a beginning of the rest
pub is-front : (xs : List ℕ) (place n : ℕ) → IsFront (take n (drop place xs)) (from_place place (whole xs))
is-front xs place n = record { more = drop n (drop place xs); bytes = sym (take-append-drop n (drop place xs)) }

-- and where nothing is shown, nothing is left
pub shows-none : (xs : List ℕ) (place n : ℕ) → place + n ≤ length xs → length (take ((place + n) - place) (drop place xs)) ≡ 0 → n ≡ 0
shows-none xs place n within none =
    let count : (place + n) - place ≡ n = omega arith in
    let long : length (take n (drop place xs)) ≡ n = length-take-le n (drop place xs) (rw length-drop (omega arith)) in
    sym long ∙ ap (λ m. length (take m (drop place xs))) (sym count) ∙ none
