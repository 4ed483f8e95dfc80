-- Lists.
use Rattle.std.proofs.Common.{◌≡◌, ℕ, zero, suc, ◌≤◌, List, [], ◌∷◌, length, take, drop, refl, ap, sym, ◌∙◌, ◌+◌, ◌<◌, ◌++◌, arith}
use Rattle.std.proofs.Math.ListN.{set}
use Rattle.std.proofs.Math.Seq.{take-append_seam}
use Rattle.std.proofs.lemmas.List.{length-set, take_more_set}

pub whole : (xs : List ℕ) (i : ℕ) → length xs ≤ i → take i xs ≡ xs
whole [] zero h = refl
whole [] (suc i) h = refl
whole (x ∷ xs) zero h = absurd (omega arith)
whole (x ∷ xs) (suc i) h = ap (λ l. x ∷ l) (whole xs i (omega arith))

pub nothing_left : (xs : List ℕ) (i : ℕ) → length xs ≤ i → drop i xs ≡ []
nothing_left [] zero h = refl
nothing_left [] (suc i) h = refl
nothing_left (x ∷ xs) zero h = absurd (omega arith)
nothing_left (x ∷ xs) (suc i) h = nothing_left xs i (omega arith)

-- the last place is written
pub set_last : (xs : List ℕ) (i x : ℕ) → i < length xs → length xs ≡ i + 1 → set xs i x ≡ take i xs ++ x ∷ []
set_last xs i x lt is =
    let size : length (set xs i x) ≡ length xs = length-set xs i x in
    sym (whole (set xs i x) (i + 1) (omega arith)) ∙ take_more_set xs i x lt

-- as many places, written anew
pub refilled : (new rest : List ℕ) (n : ℕ) → length new ≡ n → take n (new ++ rest) ≡ new
refilled new rest n e = ap (λ k. take k (new ++ rest)) (sym e) ∙ take-append_seam new rest
