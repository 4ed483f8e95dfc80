-- Of one identity the first that answers is itself.
use Rattle.std.specs.Prelude.{◌≡◌, List, [], ◌∷◌, ◌++◌, Option, Some, None}
use Rattle.std.proofs.Common.{refl, subst}
use Rattle.age.specs.Identities.{FirstThatAnswers}

decider_is : {I : Type 0} (one : I) (passed : List I) (decider : I) (later : List I) → Path (List I) (one ∷ []) (passed ++ decider ∷ later)
    → decider ≡ one
decider_is one [] decider later is = cc
decider_is one (p ∷ []) decider later is = absurd (Prim.cc)
decider_is one (p ∷ q ∷ passed) decider later is = absurd (Prim.cc)

module _ {I A : Type 0} (asks : I → Option A → I → Type 0) (one : I) where
  pub alone : (answer : Option A) (after : I) → asks one answer after → FirstThatAnswers asks (one ∷ []) answer (after ∷ [])
  alone None after asked = (asked, tt)
  alone (Some a) after asked = record {
    passed = [];
    passed_after = [];
    decider = one;
    decider_after = after;
    later = [];
    all_before = refl;
    all_after = refl;
    none = tt;
    answers = asked;
  }

  pub alone_asked : (a : A) (after : List I) → FirstThatAnswers asks (one ∷ []) (Some a) after → (then : I) × asks one (Some a) then
  alone_asked a after decides = (
    decides.decider_after,
    subst (λ i. asks i (Some a) decides.decider_after) (decider_is one decides.passed decides.decider decides.later decides.all_before)
        decides.answers,
  )
