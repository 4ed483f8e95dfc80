-- A table that is looked up in each lane.
use Rattle.std.proofs.Common.{◌≡◌, ◌∙◌, ap, refl, arith, ℕ, suc, ◌+◌, ◌*◌, ◌/◌, ◌<◌, ◌≤◌, List, [], ◌∷◌, length, get_or, w8}
use Rattle.std.proofs.lemmas.Simd.{swz_l, get_or-swz_l_below}
use lib.Lanes.{Each1}
use Rattle.base64_vectors.specs.Vectors.{looked_up}

pub looked_up_is : (table : List ℕ) (i : ℕ) (places : List ℕ) → i + length places ≤ 16 → Each1 (λ place. place < 16) places
    → swz_l w8 16 table i places ≡ looked_up table places
looked_up_is table i [] le h = refl
looked_up_is table i (j ∷ js) le h =
    let head = get_or-swz_l_below w8 16 table i (j ∷ []) 0 (omega arith) h.0 in
    let place : 16 * ((i + 0) / 16) + j ≡ j = omega arith in
    λ k. (head ∙ ap (λ p. get_or table p 0) place) k ∷ looked_up_is table (suc i) js (omega arith) h.1 k
