-- Comments, with and without what ends them.
use Rattle.std.proofs.Common.{◌≡◌, ◌∙◌, inl, inr, refl, subst, ℕ, ◌++◌, ap, true, false, Bool, List, [], ◌∷◌, sym, arith, length}
use Rattle.std.specs.Prelude.{slice_index}
use Rattle.std.specs.Str.{IsUtf8}
use Rattle.std.specs.Str.Lines.{strip_carriage_return}
use Rattle.std.proofs.Math.Seq.{take-append_seam}
use Rattle.std.proofs.lemmas.Str.{IsUtf8-append, IsUtf8-take, IsUtf8-encode, encode_ascii, IsCharBoundary-at_seam}
use Rattle.age_identity.specs.Entries.{IsPassedOver, IsBadLine}
use Rattle.age_identity.specs.Progress.{without_end}
use Rattle.age_identity.proofs.Cutting.{strip_cases}
use Rattle.age_identity.proofs.Judged.{not_utf8}

return_utf8 : IsUtf8 (13 ∷ [])
return_utf8 = subst IsUtf8 (encode_ascii 13 (omega arith)) (IsUtf8-encode 13 refl)

front_utf8 : (front : List ℕ) → IsUtf8 (front ++ 13 ∷ []) → IsUtf8 front
front_utf8 front text =
    subst IsUtf8 (take-append_seam front (13 ∷ []))
    (IsUtf8-take (front ++ 13 ∷ []) (length front) text (IsCharBoundary-at_seam (front ++ 13 ∷ []) front (13 ∷ []) refl return_utf8))

stripped_utf8 : (last : List ℕ) → IsUtf8 last → IsUtf8 (strip_carriage_return last)
stripped_utf8 last text = elim (strip_cases last) [
  | inl same ↦ subst IsUtf8 (sym same) text
  | inr more ↦ front_utf8 (strip_carriage_return last) (subst IsUtf8 more text)
]

utf8_stripped : (last : List ℕ) → IsUtf8 (strip_carriage_return last) → IsUtf8 last
utf8_stripped last text = elim (strip_cases last) [
  | inl same ↦ subst IsUtf8 same text
  | inr more ↦ subst IsUtf8 (sym more) (IsUtf8-append (strip_carriage_return last) (13 ∷ []) text return_utf8)
]

hash_first : (front rest : List ℕ) → front ++ 13 ∷ [] ≡ 35 ∷ rest → (r : List ℕ) × (front ≡ 35 ∷ r)
hash_first [] rest is = let other : 13 ≡ 35 = ap (λ l. slice_index l 0) is in absurd (omega (arith, other))
hash_first (x ∷ front) rest is = (front, ap (λ c. c ∷ front) (ap (λ l. slice_index l 0) is))

hash_kept : (last rest : List ℕ) → last ≡ 35 ∷ rest → (r : List ℕ) × (strip_carriage_return last ≡ 35 ∷ r)
hash_kept last rest is = elim (strip_cases last) [
  | inl same ↦ (rest, same ∙ is)
  | inr more ↦ hash_first (strip_carriage_return last) rest (sym more ∙ is)
]

-- a comment that is UTF-8 is passed over
pub comment_passed : (ended : Bool) (last : List ℕ) → ((rest : List ℕ) × (last ≡ 35 ∷ rest)) → IsUtf8 last → IsPassedOver (without_end ended last)
comment_passed true last hash text = (stripped_utf8 last text, inr (hash_kept last hash.0 hash.1))
comment_passed false last hash text = (text, inr hash)

-- one that isn't is bad
pub comment_bad : (ended : Bool) (last : List ℕ) → (IsUtf8 last → ⊥) → IsBadLine (without_end ended last)
comment_bad true last other = not_utf8 (strip_carriage_return last) (λ text. other (utf8_stripped last text))
comment_bad false last other = not_utf8 last other
