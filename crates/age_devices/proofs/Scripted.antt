-- What the steps of scripts come to.
use Rattle.std.specs.Prelude.{◌≡◌, ◌≢◌, ℕ, zero, suc, ◌+◌, ◌-◌, ◌<◌, List, [], ◌∷◌}
use Rattle.std.proofs.Common.{ap, ◌∙◌, sym, refl, arith}
use Rattle.age_error.specs.declared.io.ErrorKind.TheVariants.{Interrupted}
use Rattle.age_devices.specs.Devices.{step_among, most_of_call}
use Rattle.age_devices.specs.AtCalls.{step_of}
use Rattle.age_devices.specs.declared.script.Step.{Step}
use Rattle.age_devices.specs.declared.script.Step.TheVariants.{Move, Fail}

-- steps alone, one after the other
pub steps_in_turn : (steps : List Step) (most i : ℕ) → step_of 0 0 0 steps most i ≡ step_among steps most i
steps_in_turn [] most zero = refl
steps_in_turn [] most (suc i) = steps_in_turn [] most i
steps_in_turn (s ∷ steps) most zero = refl
steps_in_turn (s ∷ steps) most (suc i) = steps_in_turn steps most i

-- no step left
pub none_left : (most i : ℕ) → step_of 0 0 0 [] most i ≡ Move most
none_left most zero = refl
none_left most (suc i) = none_left most i

-- the one step after the good calls
pub step_there : (good most : ℕ) (s : Step) → step_of 0 0 good (s ∷ []) most good ≡ s
step_there zero most s = refl
step_there (suc good) most s = step_there good most s

-- and all others
pub moves_else : (good i : ℕ) (s : Step) → i ≢ good → step_of 0 0 good (s ∷ []) most_of_call i ≡ Move most_of_call
moves_else zero zero s other = absurd (other refl)
moves_else zero (suc i) s other = none_left most_of_call i
moves_else (suc good) zero s other = refl
moves_else (suc good) (suc i) s other = moves_else good i s (λ same. other (ap suc same))

-- the interruptions before a call
pub interrupted_before : (times left most i : ℕ) → i < left → step_of times left 0 [] most i ≡ Fail Interrupted
interrupted_before times zero most i below = absurd (omega (arith, below))
interrupted_before times (suc left) most zero below = refl
interrupted_before times (suc left) most (suc i) below = interrupted_before times left most i (omega (arith, below))

-- the call after them
pub moves_then : (times left most : ℕ) → step_of times left 0 [] most left ≡ Move most
moves_then times zero most = refl
moves_then times (suc left) most = moves_then times left most

-- and the same again
pub then_again : (times left most i : ℕ) → step_of times left 0 [] most (left + 1 + i) ≡ step_of times times 0 [] most i
then_again times zero most i =
    let next : 0 + 1 + i ≡ suc i = omega arith in
    ap (λ n. step_of times 0 0 [] most n) next
then_again times (suc left) most i =
    let next : suc left + 1 + i ≡ suc (left + 1 + i) = omega arith in
    ap (λ n. step_of times (suc left) 0 [] most n) next ∙ then_again times left most i

-- a good call is done
pub good_done : (times left good most i : ℕ) (steps : List Step) → left ≡ 0 → 0 < good →
    step_of times times (good - 1) steps most i ≡ step_of times left good steps most (i + 1)
good_done times (suc left) good most i steps none some = absurd (omega (arith, none))
good_done times zero zero most i steps none some = absurd (omega (arith, some))
good_done times zero (suc good) most i steps none some =
    let less : suc good - 1 ≡ good = omega arith in
    let more : i + 1 ≡ suc i = omega arith in
    ap (λ g. step_of times times g steps most i) less ∙ sym (ap (λ n. step_of times 0 (suc good) steps most n) more)
