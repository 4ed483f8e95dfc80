-- What the one identity that WITH names answers.
use Rattle.std.specs.Prelude.{◌≡◌, ℕ, List, [], ◌∷◌, ◌++◌, Option, Some, None, refl}
use Rattle.std.proofs.Common.{sym, subst}
use Rattle.age.specs.Stanza.{StanzaValue}
use Rattle.age.specs.Identities.{UnwrapAnswer, Steady, FirstOf, UnlessAnswered, Unwraps, FirstAnswer, IsFileFor, FirstThatAnswers}
use Rattle.age.specs.AskedInTurn.{either_way}
use Rattle.age_bench.specs.Bench.{bench_seal}
use Rattle.age_bench.specs.Names.{AsksWith, answers_of}
use Rattle.age_bench.specs.declared.names.With.{With}

-- ---- one who doesn't change, and answers to each item by itself

first_same : {S : Type 0} (x y : S) (xs ys : List S) → x ∷ xs ≡ y ∷ ys → x ≡ y
first_same x y xs ys is = Prim.cc

module _ {S X A : Type 0} (asks : S → X → Option A → Type 0) where
  -- the one of a list of one that decides is that one
  decider : (before : S) (passed later : List S) (one : S) → before ∷ [] ≡ passed ++ one ∷ later → one ≡ before
  decider before [] later one is = sym (first_same before one [] later is)
  decider before (p ∷ []) later one is = absurd (Prim.cc)
  decider before (p ∷ q ∷ passed) later one is = absurd (Prim.cc)

  -- of a list of one
  pub first_of_one : (one : S) (xs : List X) (answer : Option A) (after : List S)
      → FirstThatAnswers (λ s own then. Unwraps (FirstOf (Steady asks)) s xs own then) (one ∷ []) answer after
      → FirstOf (Steady asks) one xs answer one
  first_of_one one xs None [] h = absurd h
  first_of_one one xs None (next ∷ after) h = either_way asks one xs None next h.0
  first_of_one one xs (Some a) after d =
      subst (λ s. FirstOf (Steady asks) s xs (Some a) s) (decider one d.passed d.later d.decider d.all_before)
      (either_way asks d.decider xs (Some a) d.decider_after d.answers)

module _ {S T X A : Type 0} (asks : S → X → Option A → Type 0) (others : T → X → Option A → Type 0) (one : S) (other : T)
    (same : (x : X) (answer : Option A) → asks one x answer → others other x answer) where
  next_as : (xs : List X) (first : Option A) (between : S) (answer : Option A) → between ≡ one
      → (FirstOf (Steady asks) one xs answer one → FirstOf (Steady others) other xs answer other)
      → UnlessAnswered (λ s. FirstOf (Steady asks) s xs) first between answer one
      → UnlessAnswered (λ t. FirstOf (Steady others) t xs) first other answer other
  next_as xs None between answer is step h = step (subst (λ s. FirstOf (Steady asks) s xs answer one) is h)
  next_as xs (Some a) between answer is step h = (h.0, refl)

  -- another who doesn't change either, and answers to each item so
  pub as_other : (xs : List X) (answer : Option A) → FirstOf (Steady asks) one xs answer one → FirstOf (Steady others) other xs answer other
  as_other [] answer h = (h.0, refl)
  as_other (x ∷ xs) answer (first, between, asked, next) =
      (first, other, (same x first asked.0, refl), next_as xs first between answer asked.1 (λ more. as_other xs answer more) next)

-- what the one identity may answer is what WITH answers
pub answers : (with_ : With) (stanzas : List StanzaValue) (answer : UnwrapAnswer)
    → FirstAnswer (FirstOf (Steady AsksWith)) (with_ ∷ []) stanzas answer → answers_of with_ stanzas answer
answers with_ stanzas answer (after, asked) = first_of_one AsksWith with_ stanzas answer after asked

-- so a file for WITH is one for that identity
pub file_for : (with_ : With) (plain text : List ℕ) → IsFileFor bench_seal (answers_of with_) plain text
    → IsFileFor bench_seal (FirstAnswer (FirstOf (Steady AsksWith)) (with_ ∷ [])) plain text
file_for with_ plain text for = record {
  file_key = for.file_key;
  stanzas = for.stanzas;
  is_file = for.is_file;
  bytes = for.bytes;
  within = for.within;
  last = for.last;
  right = λ answer asked. for.right answer (answers with_ for.stanzas answer asked);
}
