-- How far a loop over several identities has come.
use Rattle.std.proofs.Common.{◌≡◌, ℕ, ◌+◌, ◌<◌, List, Option, Some, None, length, take, drop, get_or, sym, ◌∙◌, ap, arith, add-one, length-drop}
use Rattle.std.proofs.Math.ListN.{set}
use Rattle.std.proofs.Math.Seq.{drop-cons, split_at}
use Rattle.std.proofs.lemmas.List.{take_more, take_more_set, drop-set, drop-set-lt, take-append-drop, take-set}
use Rattle.std.proofs.lemmas.List.Elements.{AllZip-push}
use Rattle.std.specs.List.{AllZip}
use Rattle.age.specs.Identities.{Decides}

module _ {I A : Type 0} (asks : I → Option A → I → Type 0) where
  -- the first i were asked and answered None; the others are unchanged
  pub record AreAsked (before now : List I) (i : ℕ) : Type 0 where
    pub none : AllZip (λ identity then. asks identity None then) (take i before) (take i now)
    pub later : drop i now ≡ drop i before

  module _ (before now : List I) (i : ℕ) (x y : I) (so_far : AreAsked before now i) (here : i < length now) where
    within : i < length before
    within = omega (arith, length-drop i now, length-drop i before, ap length so_far.later)

    heads : get_or before i x ≡ get_or now i x
    heads =
        let was = drop-cons before i x within in
        let is = drop-cons now i x here in
        let same = so_far.later in
        cc

    tails : drop (i + 1) now ≡ drop (i + 1) before
    tails =
        rw add-one
        (let was = drop-cons before i x within in
        let is = drop-cons now i x here in
        let same = so_far.later in
        cc)

    -- one more is asked
    pub asked_more : asks (get_or now i x) None y → AreAsked before (set now i y) (i + 1)
    asked_more answers = record {
      none =
          rw (take_more before i x within, take_more_set now i y here, heads)
          (AllZip-push (λ identity then. asks identity None then) (take i before) (take i now) (get_or now i x) y so_far.none answers);
      later = drop-set-lt (i + 1) now i y (omega arith) ∙ tails;
    }

    -- and answers
    pub decides_at : (answer : A) → asks (get_or now i x) (Some answer) y → Decides asks before answer (set now i y)
    decides_at answer answers = record {
      passed = take i before;
      passed_after = take i now;
      decider = get_or now i x;
      decider_after = y;
      later = drop (i + 1) before;
      all_before = rw (add-one, ← heads) (split_at before i x within);
      all_after = sym (rw (take-set now i y, drop-set now i y here, tails) at (take-append-drop i (set now i y)));
      none = so_far.none;
      answers = answers;
    }
