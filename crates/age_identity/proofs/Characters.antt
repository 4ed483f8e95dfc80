-- Characters that come byte by byte.
use Rattle.std.proofs.Common.{◌≡◌, ◌∙◌, inl, inr, refl, subst, ℕ, ◌+◌, ◌≤◌, ◌<◌, ◌++◌, ap, append_assoc, append-nil, true, List, [], ◌∷◌, sym, arith, length, take, slice_set, length-append, take_all}
use Rattle.std.specs.Prelude.{encode_utf8, encode_utf8_all}
use Rattle.std.specs.Str.{IsUtf8, all_scalars}
use Rattle.std.specs.Char.{len_utf8}
use Rattle.std.proofs.Math.Seq.{take-append_seam, drop-append_seam}
use Rattle.std.proofs.lemmas.Bool.{cases_lt, and_parts}
use Rattle.std.proofs.lemmas.List.{take-append-le, take_more_set, take-set-le}
use Rattle.std.proofs.lemmas.Str.{IsUtf8-append, IsUtf8-drop, IsUtf8-encode, IsCharBoundary-from_take, length-encode, len_utf8_bounds}
use Rattle.age_identity.specs.Comments.{HasChecked}

-- what follows a text in a text is a text
pub rest_utf8 : (front rest : List ℕ) → IsUtf8 front → IsUtf8 (front ++ rest) → IsUtf8 rest
rest_utf8 front rest first whole =
    let start : IsUtf8 (take (length front) (front ++ rest)) = subst IsUtf8 (sym (take-append_seam front rest)) first in
    let within : length front ≤ length (front ++ rest) = omega (arith, length-append front rest) in
    subst IsUtf8 (drop-append_seam front rest)
    (IsUtf8-drop (front ++ rest) (length front) whole (IsCharBoundary-from_take (front ++ rest) (length front) whole within start))

first_char : (c : ℕ) (cs pending more : List ℕ) → 4 ≤ length pending → ((k : ℕ) → 0 < k → k ≤ 4 → IsUtf8 (take k pending) → ⊥)
    → all_scalars (c ∷ cs) ≡ true → encode_utf8_all (c ∷ cs) ≡ pending ++ more → ⊥
first_char c cs pending more long none scalars spelled =
    let size : length (encode_utf8 c) ≡ len_utf8 c = length-encode c in
    let bounds = len_utf8_bounds c in
    let short : length (encode_utf8 c) ≤ length pending = omega (arith, size, bounds.0, bounds.1, long) in
    let front : take (length (encode_utf8 c)) pending ≡ encode_utf8 c =
    sym (take-append-le (length (encode_utf8 c)) pending more short) ∙ ap (take (length (encode_utf8 c))) (sym spelled)
    ∙ take-append_seam (encode_utf8 c) (encode_utf8_all cs) in
    none (length (encode_utf8 c)) (omega (arith, size, bounds.0)) (omega (arith, size, bounds.1))
    (subst IsUtf8 (sym front) (IsUtf8-encode c (and_parts _ _ scalars).0))

-- no text begins with four bytes of which no beginning is a text
pub no_char : (pending more : List ℕ) → 4 ≤ length pending → ((k : ℕ) → 0 < k → k ≤ 4 → IsUtf8 (take k pending) → ⊥) → IsUtf8 (pending ++ more) → ⊥
no_char pending more long none ([], text) =
    let size : 0 ≡ length pending + length more = ap length text.1 ∙ length-append pending more in
    omega (arith, size, long)
no_char pending more long none (c ∷ cs, text) = first_char c cs pending more long none text.0 text.1

-- ---- the check

module _ (pending : List ℕ) (count byte : ℕ) (text : List ℕ) where
  grown : length pending ≡ 4 → count < 4 → (h : HasChecked pending count text)
      → text ++ byte ∷ [] ≡ h.front ++ take (count + 1) (slice_set pending count byte)
  grown size few h =
      ap (λ t. t ++ byte ∷ []) (h.parts ∙ ap (λ m. h.front ++ (take count pending ++ m)) (h.all few)
      ∙ ap (λ p. h.front ++ p) (append-nil (take count pending)))
      ∙ append_assoc h.front (take count pending) (byte ∷ [])
      ∙ ap (λ p. h.front ++ p) (sym (take_more_set pending count byte (omega (arith, size, few))))

  -- a character ends
  pub checked_ended : length pending ≡ 4 → count < 4 → IsUtf8 (take (count + 1) (slice_set pending count byte)) → HasChecked pending count text →
      HasChecked (slice_set pending count byte) 0 (text ++ byte ∷ [])
  checked_ended size few ended h = record {
    front = text ++ byte ∷ [];
    more = [];
    parts = sym (append-nil (text ++ byte ∷ []));
    good = subst IsUtf8 (sym (grown size few h)) (IsUtf8-append h.front _ h.good ended);
    all = λ _. refl;
    none = λ k some none. absurd (omega (arith, some, none));
  }

  none_more : (IsUtf8 (take (count + 1) (slice_set pending count byte)) → ⊥) → ((k : ℕ) → 0 < k → k ≤ count → IsUtf8 (take k pending) → ⊥)
      → (k : ℕ) → 0 < k → k ≤ count + 1 → IsUtf8 (take k (slice_set pending count byte)) → ⊥
  none_more not none k some within is =
      elim (cases_lt count k) [
        | inl last ↦ let same : k ≡ count + 1 = omega arith in not (subst (λ n. IsUtf8 (take n (slice_set pending count byte))) same is)
        | inr before ↦ none k some before (subst IsUtf8 (take-set-le k pending count byte before) is)
      ]

  -- none does
  pub checked_more : length pending ≡ 4 → count < 4 → (IsUtf8 (take (count + 1) (slice_set pending count byte)) → ⊥) → HasChecked pending count text →
      HasChecked (slice_set pending count byte) (count + 1) (text ++ byte ∷ [])
  checked_more size few not h = record {
    front = h.front;
    more = [];
    parts = grown size few h ∙ ap (λ p. h.front ++ p) (sym (append-nil (take (count + 1) (slice_set pending count byte))));
    good = h.good;
    all = λ _. refl;
    none = none_more not h.none;
  }

-- where some are pending the text isn't UTF-8
pub pending_bad : (pending : List ℕ) (count : ℕ) (text : List ℕ) → length pending ≡ 4 → count ≤ 4 → 0 < count → HasChecked pending count text
    → IsUtf8 text → ⊥
pending_bad pending count text size most some h is =
    let rest : IsUtf8 (take count pending ++ h.more) = rest_utf8 h.front (take count pending ++ h.more) h.good (subst IsUtf8 h.parts is) in
    elim (cases_lt count 4) [
      | inl few ↦ h.none count some (omega arith)
          (subst IsUtf8 (ap (λ m. take count pending ++ m) (h.all few) ∙ append-nil (take count pending)) rest)
      | inr full ↦
          let four : count ≡ 4 = omega arith in
          let all : take count pending ≡ pending = take_all count pending (omega (arith, size)) in
          no_char pending h.more (omega (arith, size)) (λ k one within. h.none k one (omega (arith, within)))
          (subst (λ p. IsUtf8 (p ++ h.more)) all rest)
    ]
