-- Of one identity the first that answers is itself.
use Rattle.std.proofs.Common.{◌≡◌, List, [], ◌∷◌, ◌++◌, Option, Some, None, refl, sym, subst}
use Rattle.age_v1.specs.Stanza.{StanzaValue}
use Rattle.age_v1.specs.Identities.{UnwrapAnswer, Unwraps, FirstThatAnswers, FirstAnswer}

decider_is : {I : Type 0} (one : I) (passed : List I) (decider : I) (later : List I) → Path (List I) (one ∷ []) (passed ++ decider ∷ later)
    → decider ≡ one
decider_is one [] decider later is = cc
decider_is one (p ∷ []) decider later is = absurd (Prim.cc)
decider_is one (p ∷ q ∷ passed) decider later is = absurd (Prim.cc)

-- a list of one that stayed
pub alone_same : {I : Type 0} (one then : I) → Path (List I) (then ∷ []) (one ∷ []) → then ≡ one
alone_same one then same = decider_is one [] then [] (sym same)

module _ {I A : Type 0} (asks : I → Option A → I → Type 0) (one : I) where
  pub alone : (answer : Option A) (after : I) → asks one answer after → FirstThatAnswers asks (one ∷ []) answer (after ∷ [])
  alone None after asked = (asked, tt)
  alone (Some a) after asked = record {
    passed = [];
    passed_after = [];
    decider = one;
    decider_after = after;
    later = [];
    all_before = refl;
    all_after = refl;
    none = tt;
    answers = asked;
  }

  pub alone_asked : (answer : Option A) (after : List I) → FirstThatAnswers asks (one ∷ []) answer after → (then : I) × asks one answer then
  alone_asked None [] none = absurd none
  alone_asked None (then ∷ rest) none = (then, none.0)
  alone_asked (Some a) after decides = (
    decides.decider_after,
    subst (λ i. asks i (Some a) decides.decider_after)
        (decider_is one decides.passed decides.decider decides.later decides.all_before) decides.answers,
  )

  pub alone_is : (answer : Option A) (then : I) → FirstThatAnswers asks (one ∷ []) answer (then ∷ []) → asks one answer then
  alone_is None then none = none.0
  alone_is (Some a) then decides =
      subst (λ i. asks one (Some a) i) (decider_is then decides.passed_after decides.decider_after decides.later decides.all_after)
      (subst (λ i. asks i (Some a) decides.decider_after)
      (decider_is one decides.passed decides.decider decides.later decides.all_before) decides.answers)

pub alone_answers : {I : Type 0} (unwraps : I → List StanzaValue → UnwrapAnswer → I → Type 0) (one : I) (stanzas : List StanzaValue)
    (answer : UnwrapAnswer) (after : I) → Unwraps unwraps one stanzas answer after → FirstAnswer unwraps (one ∷ []) stanzas answer
alone_answers unwraps one stanzas answer after asked =
    (after ∷ [], alone (λ identity own next. Unwraps unwraps identity stanzas own next) one answer after asked)
