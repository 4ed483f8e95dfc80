-- Two sets of labels are the same where they have the same labels.
use Rattle.std.proofs.Common.{◌≡◌, ◌↔◌, refl, ℕ, List, [], ◌∷◌, IsTrue, map, string_bytes}
use Rattle.std.specs.Ordering.{nat_cmp}
use Rattle.std.specs.declared.cmp.Ordering.TheVariants.{Less}
use Rattle.std.specs.Bool.{Decides}
use Rattle.std.specs.Cmp.{both_ways}
use Rattle.std.specs.Cmp.Lexicographic.{slice_cmp}
use Rattle.std.specs.String.{string_cmp}
use Rattle.std.specs.List.{AllByRecursion, Contains}
use Rattle.std.specs.List.Sorted.{IsStrictlySortedBy}
use Rattle.std.specs.BTreeSet.{BTreeSet, IsOrdered}
use Rattle.std.specs.declared.string.String.{String}
use Rattle.std.proofs.lemmas.Cmp.{nat_list_cmp_total}
use Rattle.std.proofs.lemmas.Map.Lookups.{btree_set_from_contains, exact_bytes}
use Rattle.std.proofs.lemmas.Map.Views.{btree_set_contains_iff}
use Rattle.std.proofs.lemmas.Slice.Eq.{bytes_eq-Decides, slice_eq-Decides}
use Rattle.age_error.specs.Labels.{labels_of}
use Rattle.age_v1.specs.Recipients.{Labels, same_labels}

below_map : {Z : Type 0} (x : String Z) (ys : List (String Z)) → AllByRecursion (λ y. string_cmp x y ≡ Less) ys
    → AllByRecursion (λ y. slice_cmp nat_cmp (string_bytes x) y ≡ Less) (map (λ l. string_bytes l) ys)
below_map x [] h = tt
below_map x (y ∷ ys) h = (h.0, below_map x ys h.1)

-- the labels of an ordered set ascend
ascends : {Z : Type 0} (xs : List (String Z)) → IsStrictlySortedBy string_cmp xs
    → IsStrictlySortedBy (slice_cmp nat_cmp) (map (λ l. string_bytes l) xs)
unfolding IsStrictlySortedBy
ascends [] h = tt
ascends (x ∷ xs) h = (below_map x xs h.0, ascends xs h.1)

-- the labels as a set of texts
abbrev texts : Labels → BTreeSet (List ℕ)
texts labels = record { keys = labels }

decided : (left right : Labels) → Decides (same_labels left right) (left ≡ right)
decided left right = slice_eq-Decides bytes_eq-Decides left right (same_labels left right) refl

pub are_sets : {Z : Type 0} (left right : BTreeSet (String Z)) → IsOrdered string_cmp left → IsOrdered string_cmp right
    → IsTrue (same_labels (labels_of left) (labels_of right)) ↔
    ((label : List ℕ) → Contains (labels_of left) label ↔ Contains (labels_of right) label)
are_sets left right l r = (
  λ same label. let is = (decided (labels_of left) (labels_of right)).0 same in (rw is (λ c. c), rw is (λ c. c)),
  λ each.
      let has = λ (labels : Labels) (label : List ℕ). btree_set_contains_iff nat_list_cmp_total exact_bytes (texts labels) label in
      (decided (labels_of left) (labels_of right)).1
      (btree_set_from_contains nat_list_cmp_total (texts (labels_of left)) (texts (labels_of right)) (ascends left.keys l) (ascends right.keys r)
      (λ label. both_ways _ _
      (λ h. (has (labels_of right) label).1 ((each label).0 ((has (labels_of left) label).0 h)))
      (λ h. (has (labels_of left) label).1 ((each label).1 ((has (labels_of right) label).0 h))))
      exact_bytes),
)
