-- What follows the separator is read in one way.
use Rattle.std.proofs.Common.{◌≡◌, ◌≢◌, ℕ, ◌+◌, ◌^◌, ◌<◌, ◌++◌, List, [], ◌∷◌, map, length, take, drop, ap, sym, subst, ◌∙◌, arith, All, append_assoc, length-append, length-drop}
use Rattle.std.proofs.Math.Seq.{take-append_seam}
use Rattle.std.proofs.lemmas.List.{take-append-drop, take-map}
use Rattle.age_bech32.specs.Symbols.{symbol, value_of, values_of, AreSymbols, lowered}
use Rattle.age_bech32.specs.Remainder.{remainder, remainder_after, expanded}
use Rattle.age_bech32.specs.Groups.{IsRegrouped}
use Rattle.age_bech32.specs.Bech32.{IsPayload}
use Rattle.age_bech32.specs.Refusals.{AreNoGroups, IsNoPayload}
use Rattle.std.proofs.lemmas.List.Elements.{All-tail, All-take}
use Rattle.age_bech32.proofs.Spelling.{same_values, spelled, spells, values-size, values-fit}
use Rattle.age_bech32.proofs.Regrouping.{same_bytes, same_groups}
use Rattle.age_bech32.proofs.Remainders.{after-append, one_check}

fits_right : (a b : List ℕ) → All (λ v. v < 2 ^ 5) (a ++ b) → All (λ v. v < 2 ^ 5) b
fits_right [] b h = h
fits_right (x ∷ a) b h = fits_right a b (All-tail (λ v. v < 2 ^ 5) x (a ++ b) h)

module _ (prefix rest values : List ℕ) (spelled : lowered rest ≡ map symbol values) (fits : All (λ v. v < 2 ^ 5) values) where
  values_are : (bytes : List ℕ) (p : IsPayload prefix rest bytes) → p.groups ++ p.check ≡ values
  values_are bytes p = same_values (p.groups ++ p.check) values p.values fits (sym p.spelled ∙ spelled)

  pub wrong_remainder : remainder (expanded prefix ++ values) ≢ 1 → (bytes : List ℕ) → IsPayload prefix rest bytes → ⊥
  wrong_remainder wrong bytes p =
      wrong (ap (λ v. remainder (expanded prefix ++ v)) (sym (values_are bytes p))
      ∙ ap remainder (sym (append_assoc (expanded prefix) p.groups p.check)) ∙ p.checked)

  groups_are : (mid : ℕ) → mid + 6 ≡ length values → (bytes : List ℕ) (p : IsPayload prefix rest bytes) → p.groups ≡ take mid values
  groups_are mid is bytes p =
      let sizes : length p.groups + length p.check ≡ length values = sym (length-append p.groups p.check) ∙ ap length (values_are bytes p) in
      let six : length p.check ≡ 6 = p.six in
      let same : length p.groups ≡ mid = omega arith in
      sym (take-append_seam p.groups p.check) ∙ ap (λ k. take k (p.groups ++ p.check)) same ∙ ap (take mid) (values_are bytes p)

  made : (mid : ℕ) → mid + 6 ≡ length values → remainder (expanded prefix ++ values) ≡ 1 → (bytes : List ℕ) → IsRegrouped bytes (take mid values)
      → IsPayload prefix rest bytes
  made mid is closed bytes regrouped =
      let all : take mid values ++ drop mid values ≡ values = take-append-drop mid values in
      record {
        groups = take mid values;
        check = drop mid values;
        spelled = spelled ∙ ap (map symbol) (sym all);
        values = subst (All (λ v. v < 2 ^ 5)) (sym all) fits;
        regrouped = regrouped;
        six = length-drop mid values ∙ (omega arith);
        checked = ap remainder (append_assoc (expanded prefix) (take mid values) (drop mid values))
            ∙ ap (λ v. remainder (expanded prefix ++ v)) all ∙ closed;
      }

pub no_symbols : (prefix rest : List ℕ) → (AreSymbols rest → ⊥) → IsNoPayload prefix rest
no_symbols prefix rest none bytes p = none (spells rest (p.groups ++ p.check) p.values p.spelled)

-- of symbols that follow the separator
module _ (prefix rest : List ℕ) (are : AreSymbols rest) where
  pub wrong_check : remainder_after (remainder (expanded prefix)) (values_of rest) ≢ 1 → IsNoPayload prefix rest
  wrong_check wrong =
      wrong_remainder prefix rest (values_of rest) (spelled rest are) (values-fit rest are)
      (λ e. wrong (sym (after-append 1 (expanded prefix) (values_of rest)) ∙ e))

  module _ (mid : ℕ) (is : mid + 6 ≡ length rest) where
    size_of : mid + 6 ≡ length (values_of rest)
    size_of = is ∙ sym (values-size rest)

    taken : take mid (values_of rest) ≡ values_of (take mid rest)
    taken = take-map value_of mid rest

    pub no_groups : AreNoGroups (values_of (take mid rest)) → IsNoPayload prefix rest
    no_groups none bytes p =
        none bytes (subst (IsRegrouped bytes) (groups_are prefix rest (values_of rest) (spelled rest are)
        (values-fit rest are) mid size_of bytes p ∙ taken) p.regrouped)

    pub read : remainder_after (remainder (expanded prefix)) (values_of rest) ≡ 1 → (bytes : List ℕ) → IsRegrouped bytes (values_of (take mid rest))
        → AreSymbols (take mid rest) × IsPayload prefix rest bytes
    read closed bytes regrouped = (
      All-take (λ b. value_of b < 2 ^ 5) mid rest are,
      made prefix rest (values_of rest) (spelled rest are) (values-fit rest are) mid size_of
          (after-append 1 (expanded prefix) (values_of rest) ∙ closed) bytes
          (subst (IsRegrouped bytes) (sym taken) regrouped),
    )

-- what follows the separator has one list of bytes
pub one_reading : (prefix rest a b : List ℕ) → IsPayload prefix rest a → IsPayload prefix rest b → a ≡ b
one_reading prefix rest a b p q =
    let all : p.groups ++ p.check ≡ q.groups ++ q.check = values_are prefix rest (q.groups ++ q.check) q.spelled q.values a p in
    let whole : length (p.groups ++ p.check) ≡ length (q.groups ++ q.check) = ap length all in
    let left : length (p.groups ++ p.check) ≡ length p.groups + length p.check = length-append p.groups p.check in
    let right : length (q.groups ++ q.check) ≡ length q.groups + length q.check = length-append q.groups q.check in
    let six : length p.check ≡ 6 = p.six in
    let six' : length q.check ≡ 6 = q.six in
    let sizes : length p.groups ≡ length q.groups = omega arith in
    let same : p.groups ≡ q.groups =
    sym (take-append_seam p.groups p.check) ∙ ap (λ k. take k (p.groups ++ p.check)) sizes ∙ ap (take (length q.groups)) all
    ∙ take-append_seam q.groups q.check in
    same_bytes q.groups a b (subst (IsRegrouped a) same p.regrouped) q.regrouped

-- a prefix and bytes have one list of values
pub one_spelling : (prefix rest other bytes : List ℕ) → IsPayload prefix rest bytes → IsPayload prefix other bytes → lowered rest ≡ lowered other
one_spelling prefix rest other bytes p q =
    let groups : p.groups ≡ q.groups = same_groups bytes p.groups q.groups p.regrouped q.regrouped in
    let s = remainder (expanded prefix ++ p.groups) in
    let a : remainder_after s p.check ≡ 1 = sym (after-append 1 (expanded prefix ++ p.groups) p.check) ∙ p.checked in
    let b : remainder_after s q.check ≡ 1 = ap (λ g. remainder_after (remainder (expanded prefix ++ g)) q.check) groups
    ∙ sym (after-append 1 (expanded prefix ++ q.groups) q.check) ∙ q.checked in
    let check : p.check ≡ q.check = one_check s p.check q.check p.six q.six (fits_right p.groups p.check p.values)
    (fits_right q.groups q.check q.values) (a ∙ sym b) in
    p.spelled ∙ ap (λ g. map symbol (g ++ p.check)) groups ∙ ap (λ c. map symbol (q.groups ++ c)) check ∙ sym q.spelled
