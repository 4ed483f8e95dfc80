-- Which of those who decrypt is a file of identities that its passphrase doesn't open.
use Rattle.std.specs.Prelude.{◌≤◌, true, false, Option, Some, None}
use Rattle.std.specs.List.{AllZip}
use Rattle.std.proofs.Common.{ℕ, List, ap, arith, length, length-drop, subst, take}
use Rattle.std.proofs.lemmas.List.{take_all}
use Rattle.std.proofs.lemmas.List.Elements.{AllZip-get_or}
use Rattle.age.specs.Identities.{Decides}
use Rattle.sazh_core.specs.Locked.{HasLocked, IsLocked}
use Rattle.sazh_core.specs.Opening.{WereAsked}
use Rattle.sazh_core.specs.declared.holder.Holder.{Holder}

module _ {S R C : Type 0} where
  -- one is looked at after the other, until one is locked
  abbrev pub Looked : Holder S R C → Option (Unit {0}) → Holder S R C → Type 0
  Looked before None after = IsLocked before false
  Looked before (Some found) after = IsLocked before true

  pub none_locked : (before now : List (Holder S R C)) (i : ℕ) → WereAsked Looked before now i → length now ≤ i → HasLocked before false
  none_locked before now i looked all =
      let long : length before ≤ i = Prim.omega (arith, all, length-drop i now, length-drop i before, ap (λ l. length l) looked.later) in
      λ k d within. AllZip-get_or (λ x y. Looked x None y) before (take i now) k d d
      (subst (λ l. AllZip (λ x y. Looked x None y) l (take i now)) (take_all i before long) looked.none) within

  pub one_locked : (before after : List (Holder S R C)) → Decides Looked before tt after → HasLocked before true
  one_locked before after found = (found.passed, found.decider, found.later, found.all_before, found.answers)
