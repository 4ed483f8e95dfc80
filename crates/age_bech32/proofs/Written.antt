-- The text that is written of a prefix and bytes is one of them, and there is one in each case.
use Rattle.std.proofs.Common.{◌≡◌, ℕ, ◌+◌, ◌-◌, ◌*◌, ◌/◌, ◌%◌, ◌^◌, ◌<◌, ◌≤◌, inl, inr, Bool, true, false, ◌||◌, List, [], ◌∷◌, ◌++◌, length, map, refl, ap, sym, subst, ◌∙◌, arith, All, length-append}
use Rattle.std.proofs.lemmas.Bool.Decides.{nat_tests}
use Rattle.std.proofs.lemmas.Nat.{shl_below}
use Rattle.std.proofs.lemmas.List.{length-map}
use Rattle.std.proofs.lemmas.List.Elements.{All-append, All-head, All-tail, All-nil, All-cons}
use Rattle.std.specs.List.{list_any}
use Rattle.std.proofs.lemmas.List.Folds.{list_any-append}
use Rattle.std.specs.Char.{is_ascii_uppercase, is_ascii_lowercase, to_ascii_lowercase}
use Rattle.age_bech32.specs.Symbols.{symbol_in, lowered, has_upper, has_lower, IsOneCase, IsInCase}
use Rattle.age_bech32.specs.Remainder.{remainder, expanded}
use Rattle.age_bech32.specs.Groups.{number, IsRegrouped, group_count, groups_of_bytes}
use Rattle.age_bech32.specs.Written.{check_values, values_of_bytes, bech32_text}
use Rattle.age_bech32.specs.Bech32.{IsBech32, IsPrefix, IsInCaseOf}
use Rattle.age_bech32.proofs.Numbers.{length-digits, digits-fit, number-digits, number-below}
use Rattle.age_bech32.proofs.Remainders.{after-below, checked, check-fits, check-six}
use Rattle.age_bech32.proofs.Regrouping.{same_groups}
use Rattle.age_bech32.proofs.Spelling.{symbol-is, lowered-spelled}

room_is : (bytes : ℕ) → (5 * group_count bytes ≡ 8 * bytes + (5 * group_count bytes - 8 * bytes)) × (5 * group_count bytes - 8 * bytes ≤ 4)
room_is bytes = (omega arith, omega arith)

-- the groups of bytes have their bits
pub groups-are : (bytes : List ℕ) → All (λ b. b < 2 ^ 8) bytes → IsRegrouped bytes (groups_of_bytes bytes)
unfolding groups_of_bytes
groups-are bytes all =
    let count = group_count (length bytes) in
    let unused = 5 * count - 8 * length bytes in
    let room : (5 * count ≡ 8 * length bytes + unused) × (unused ≤ 4) = room_is (length bytes) in
    let n = number 8 bytes * 2 ^ unused in
    let below : n < 2 ^ (5 * count) = subst (λ k. n < 2 ^ k) (sym room.0)
    (shl_below (number 8 bytes) (8 * length bytes) unused (number-below 8 bytes all)) in
    record {
      unused = unused;
      few = room.1;
      eights = all;
      fives = digits-fit 5 count n;
      size = ap (λ k. 5 * k) (length-digits 5 count n) ∙ room.0;
      bits = number-digits 5 count n below;
    }

-- groups that have the bits of bytes are those
pub groups-same : (bytes groups : List ℕ) → IsRegrouped bytes groups → groups ≡ groups_of_bytes bytes
groups-same bytes groups r = same_groups bytes groups (groups_of_bytes bytes) r (groups-are bytes r.eights)

length-groups : (bytes : List ℕ) → length (groups_of_bytes bytes) ≡ group_count (length bytes)
unfolding groups_of_bytes
length-groups bytes = length-digits 5 (group_count (length bytes)) (number 8 bytes * 2 ^ (5 * group_count (length bytes) - 8 * length bytes))

pub length-values : (prefix bytes : List ℕ) → length (values_of_bytes prefix bytes) ≡ group_count (length bytes) + 6
unfolding values_of_bytes
length-values prefix bytes =
    let groups = length-groups bytes in
    let check = check-six prefix (groups_of_bytes bytes) in
    length-append (groups_of_bytes bytes) (check_values prefix (groups_of_bytes bytes)) ∙ (omega arith)

pub length_text : (prefix bytes : List ℕ) → length (bech32_text prefix bytes) ≡ length prefix + 1 + (group_count (length bytes) + 6)
unfolding bech32_text
length_text prefix bytes =
    let values = length-values prefix bytes in
    let f = symbol_in (has_upper prefix) in
    let symbols : length (map f (values_of_bytes prefix bytes)) ≡ length (values_of_bytes prefix bytes) =
    length-map (values_of_bytes prefix bytes) f in
    length-append prefix (49 ∷ map f (values_of_bytes prefix bytes)) ∙ (omega arith)

pub groups-fit : (bytes : List ℕ) → All (λ v. v < 2 ^ 5) (groups_of_bytes bytes)
unfolding groups_of_bytes
groups-fit bytes = digits-fit 5 (group_count (length bytes)) (number 8 bytes * 2 ^ (5 * group_count (length bytes) - 8 * length bytes))

pub values-fit : (prefix bytes : List ℕ) → All (λ v. v < 2 ^ 5) (values_of_bytes prefix bytes)
unfolding values_of_bytes
values-fit prefix bytes = All-append (λ v. v < 2 ^ 5) (groups_of_bytes bytes) (check_values prefix (groups_of_bytes bytes)) (groups-fit bytes)
    (check-fits prefix (groups_of_bytes bytes))

low_bits-fit : (p : List ℕ) → All (λ v. v < 2 ^ 5) (map (λ b. b % 2 ^ 5) (lowered p))
low_bits-fit [] = All-nil (λ v. v < 2 ^ 5)
low_bits-fit (x ∷ p) = All-cons (λ v. v < 2 ^ 5) (to_ascii_lowercase x % 2 ^ 5) (map (λ b. b % 2 ^ 5) (lowered p))
    (let h : to_ascii_lowercase x % 2 ^ 5 < 2 ^ 5 = omega arith in h) (low_bits-fit p)

lower_below : (x : ℕ) → x ≤ 126 → to_ascii_lowercase x < 2 ^ 8
lower_below x h = grind (arith, nat_tests)

high_bits-fit : (p : List ℕ) → All (λ b. b ≤ 126) p → All (λ v. v < 2 ^ 5) (map (λ b. b / 2 ^ 5) (lowered p))
high_bits-fit [] h = All-nil (λ v. v < 2 ^ 5)
high_bits-fit (x ∷ p) h =
    let byte : to_ascii_lowercase x < 2 ^ 8 = lower_below x (All-head (λ b. b ≤ 126) x p h) in
    All-cons (λ v. v < 2 ^ 5) (to_ascii_lowercase x / 2 ^ 5) (map (λ b. b / 2 ^ 5) (lowered p))
    (let f : to_ascii_lowercase x / 2 ^ 5 < 2 ^ 5 = omega arith in f)
    (high_bits-fit p (All-tail (λ b. b ≤ 126) x p h))

expanded-fit : (p : List ℕ) → All (λ b. b ≤ 126) p → All (λ v. v < 2 ^ 5) (expanded p)
unfolding expanded
expanded-fit p h =
    All-append (λ v. v < 2 ^ 5) (map (λ b. b / 2 ^ 5) (lowered p)) (0 ∷ map (λ b. b % 2 ^ 5) (lowered p)) (high_bits-fit p h)
    (All-cons (λ v. v < 2 ^ 5) 0 (map (λ b. b % 2 ^ 5) (lowered p)) (omega arith) (low_bits-fit p))

none_lower : (vs : List ℕ) → All (λ v. v < 2 ^ 5) vs → has_lower (map (symbol_in true) vs) ≡ false
none_lower [] h = refl
none_lower (v ∷ vs) h =
    ap (λ b. b || has_lower (map (symbol_in true) vs)) (symbol-is v (All-head (λ x. x < 2 ^ 5) v vs h)).no_lower
    ∙ none_lower vs (All-tail (λ x. x < 2 ^ 5) v vs h)

none_upper : (vs : List ℕ) → All (λ v. v < 2 ^ 5) vs → has_upper (map (symbol_in false) vs) ≡ false
none_upper [] h = refl
none_upper (v ∷ vs) h =
    ap (λ b. b || has_upper (map (symbol_in false) vs)) (symbol-is v (All-head (λ x. x < 2 ^ 5) v vs h)).no_upper
    ∙ none_upper vs (All-tail (λ x. x < 2 ^ 5) v vs h)

both_false : (test : ℕ → Bool) (prefix rest : List ℕ) → list_any test prefix ≡ false → test 49 ≡ false → list_any test rest ≡ false
    → list_any test (prefix ++ 49 ∷ rest) ≡ false
both_false test prefix rest a b c =
    list_any-append test prefix (49 ∷ rest) ∙ ap (λ x. x || (test 49 || list_any test rest)) a ∙ ap (λ x. x || list_any test rest) b ∙ c

one_of : (upper : Bool) (text : List ℕ) → IsInCase upper text → IsOneCase text
one_of true text h = inr h
one_of false text h = inl h

kept : (upper : Bool) (prefix vs : List ℕ) → All (λ v. v < 2 ^ 5) vs → IsInCase upper prefix
    → IsInCase upper (prefix ++ 49 ∷ map (symbol_in upper) vs)
kept true prefix vs all h = both_false is_ascii_lowercase prefix (map (symbol_in true) vs) h refl (none_lower vs all)
kept false prefix vs all h = both_false is_ascii_uppercase prefix (map (symbol_in false) vs) h refl (none_upper vs all)

-- in either case
text_in : Bool → List ℕ → List ℕ → List ℕ
text_in upper prefix bytes = prefix ++ 49 ∷ map (symbol_in upper) (values_of_bytes prefix bytes)

text_in-is : (upper : Bool) (prefix bytes : List ℕ) → IsPrefix prefix → IsInCase upper prefix → All (λ b. b < 2 ^ 8) bytes
    → IsBech32 (text_in upper prefix bytes) prefix bytes × IsInCase upper (text_in upper prefix bytes)
unfolding text_in values_of_bytes
text_in-is upper prefix bytes good case all =
    let groups = groups_of_bytes bytes in
    let check = check_values prefix groups in
    let regrouped : IsRegrouped bytes groups = groups-are bytes all in
    let values : All (λ v. v < 2 ^ 5) (groups ++ check) = values-fit prefix bytes in
    let below : remainder (expanded prefix ++ groups) < 2 ^ 30 = after-below 1 (expanded prefix ++ groups) (omega arith)
    (All-append (λ v. v < 2 ^ 5) (expanded prefix) groups (expanded-fit prefix good.high) regrouped.fives) in
    let same : IsInCase upper (text_in upper prefix bytes) = kept upper prefix (groups ++ check) values case in (
      record {
        rest = map (symbol_in upper) (groups ++ check);
        parts = refl;
        good = good;
        one_case = one_of upper (text_in upper prefix bytes) same;
        payload = record {
          groups = groups;
          check = check;
          spelled = lowered-spelled upper (groups ++ check) values;
          values = values;
          regrouped = regrouped;
          six = check-six prefix groups;
          checked = checked prefix groups below;
        };
      },
      same,
    )

pub existing : (upper : Bool) (prefix bytes : List ℕ) → IsPrefix prefix → IsInCase upper prefix → All (λ b. b < 2 ^ 8) bytes
    → (text : List ℕ) × IsBech32 text prefix bytes × IsInCase upper text
existing upper prefix bytes good case all =
    let is = text_in-is upper prefix bytes good case all in
    (text_in upper prefix bytes, is.0, is.1)

case_of : (upper : Bool) (prefix : List ℕ) → has_upper prefix ≡ upper → IsOneCase prefix → IsInCase upper prefix
case_of true prefix is (inl none) = cc
case_of true prefix is (inr none) = none
case_of false prefix is one = is

in_case_of : (upper : Bool) (prefix text : List ℕ) → has_upper prefix ≡ upper → IsInCase upper text → IsInCaseOf prefix text
in_case_of true prefix text is case = record { lower = λ e. cc; upper = λ e. case }
in_case_of false prefix text is case = record { lower = λ e. case; upper = λ e. cc }

pub written : (prefix bytes : List ℕ) → IsPrefix prefix → IsOneCase prefix → All (λ b. b < 2 ^ 8) bytes
    → IsBech32 (bech32_text prefix bytes) prefix bytes × IsInCaseOf prefix (bech32_text prefix bytes)
unfolding bech32_text text_in
written prefix bytes good one all =
    let upper = has_upper prefix in
    let is = text_in-is upper prefix bytes good (case_of upper prefix refl one) all in
    (is.0, in_case_of upper prefix (bech32_text prefix bytes) refl is.1)

pub values_are : (prefix bytes groups check : List ℕ) → groups ≡ groups_of_bytes bytes → check ≡ check_values prefix groups
    → groups ++ check ≡ values_of_bytes prefix bytes
unfolding values_of_bytes
values_are prefix bytes groups check is closed = ap (λ c. groups ++ c) closed ∙ ap (λ g. g ++ check_values prefix g) is

pub text_parts : (prefix bytes : List ℕ) → bech32_text prefix bytes ≡ prefix ++ 49 ∷ map (symbol_in (has_upper prefix)) (values_of_bytes prefix bytes)
unfolding bech32_text
text_parts prefix bytes = refl
