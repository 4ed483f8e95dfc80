-- Marks that are noted and looked up.
use Rattle.std.proofs.Common.{◌≡◌, ◌∙◌, inl, inr, ℕ, ◌+◌, ◌<◌, List, [], ◌∷◌, ◌++◌, length, Some, arith, ap, sym, subst, length-append}
use Rattle.std.specs.Prelude.{slice_get}
use Rattle.std.proofs.Math.ListN.{get_or}
use Rattle.std.proofs.lemmas.Bool.{cases_lt}
use Rattle.std.proofs.lemmas.Option.{get_or_from_slice_get, slice_get-get_or, slice_get_within}
use Rattle.std.proofs.lemmas.List.{get_or_append_left}
use Rattle.std.proofs.Math.Seq.{get_or-append_seam}

-- what holds of each element of a list, and of one more, holds of each of the longer list
pub each_of_longer : (P : ℕ → ℕ → Type 0) (xs ys : List ℕ) (y : ℕ) → ys ≡ xs ++ y ∷ [] →
    ((index x : ℕ) → slice_get xs index ≡ Some x → P index x) → P (length xs) y → (index x : ℕ) → slice_get ys index ≡ Some x → P index x
each_of_longer P xs ys y same each last index x is =
    let read : slice_get (xs ++ y ∷ []) index ≡ Some x = subst (λ l. slice_get l index ≡ Some x) same is in
    let within : index < length xs + 1 = omega (arith, slice_get_within (xs ++ y ∷ []) index x read, length-append xs (y ∷ [])) in
    let item = get_or_from_slice_get (xs ++ y ∷ []) index x x read in
    elim (cases_lt index (length xs)) [
      | inl before ↦ each index x (slice_get-get_or xs index x before ∙ ap (λ v. Some v) (sym (get_or_append_left xs (y ∷ []) x index before) ∙ item))
      | inr after ↦
          let at : index ≡ length xs = omega (arith, after, within) in
          let is_last : y ≡ x = sym (get_or-append_seam xs y [] x) ∙ ap (λ i. get_or (xs ++ y ∷ []) i x) (sym at) ∙ item in
          subst (λ v. P index v) is_last (subst (λ i. P i y) (sym at) last)
    ]
