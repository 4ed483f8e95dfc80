-- A file for one of several identities, where those before it pass over its stanzas, is one for all of them.
use Rattle.std.specs.Prelude.{◌≡◌, ◌⊎◌, ℕ, List, [], ◌∷◌, ◌++◌, Option, Some, None, Ok, Err, Result, All}
use Rattle.std.specs.List.{AllZip}
use Rattle.std.proofs.Common.{sym, subst, inl, inr}
use Rattle.std.proofs.lemmas.List.Elements.{All-head, All-tail}
use Rattle.age.specs.DecryptErrors.{OutOfMemory, DecryptRefusal}
use Rattle.age.specs.Stanza.{StanzaValue}
use Rattle.age.specs.Identities.{UnwrapAnswer, Unwraps, FirstAnswer, IsFileFor}
use Rattle.age.specs.Payload.{Seal}
use Rattle.age_claims.specs.Claims.{AnswersAlways}
use Rattle.age_claims.proofs.Alone.{alone}

first_is : {I : Type 0} (a b : I) (more others : List I) → Path (List I) (a ∷ more) (b ∷ others) → b ≡ a
first_is a b more others is = cc

rest_is : {I : Type 0} (a b : I) (more others : List I) → Path (List I) (a ∷ more) (b ∷ others) → more ≡ others
rest_is a b more others is = cc

not_none : {A : Type 0} (a : A) → Path (Option A) (Some a) None → ⊥
not_none a is = absurd (Prim.cc)

-- the file key, or want of memory
abbrev IsKeyOrWant : List ℕ → UnwrapAnswer → Type 0
IsKeyOrWant file_key answer = (answer ≡ Some (Ok file_key)) ⊎ (answer ≡ Some (Err OutOfMemory))

module _ {I : Type 0} (unwraps : I → List StanzaValue → UnwrapAnswer → I → Type 0) (one : I) (back : List I) (stanzas : List StanzaValue)
    (file_key : List ℕ)
    (right : (answer : UnwrapAnswer) → FirstAnswer unwraps (one ∷ []) stanzas answer → IsKeyOrWant file_key answer) where
  abbrev Asks : I → UnwrapAnswer → I → Type 0
  Asks identity own next = Unwraps unwraps identity stanzas own next

  abbrev Passes : I → I → Type 0
  Passes identity next = Asks identity None next

  by_one : (answer : UnwrapAnswer) (after : I) → Asks one answer after → IsKeyOrWant file_key answer
  by_one answer after asked = right answer (after ∷ [], alone Asks one answer after asked)

  one_answers : {X : Type 0} (next : I) → Asks one None next → X
  one_answers next asked = elim (by_one None next asked) [
    | inl is ↦ absurd (not_none _ (sym is))
    | inr is ↦ absurd (not_none _ (sym is))
  ]

  passed_over : (a : Result (List ℕ) DecryptRefusal) → (Path UnwrapAnswer (Some a) None) ⊎ (Path UnwrapAnswer (Some a) (Some (Err OutOfMemory)))
      → IsKeyOrWant file_key (Some a)
  passed_over a (inl is) = absurd (not_none a is)
  passed_over a (inr is) = inr is

  by_decider : (front : List I) → All (AnswersAlways unwraps stanzas None) front → (a : Result (List ℕ) DecryptRefusal) (passed passed_after : List I)
      (decider decider_after : I) (later : List I) → Path (List I) (front ++ one ∷ back) (passed ++ decider ∷ later)
      → AllZip Passes passed passed_after → Asks decider (Some a) decider_after → IsKeyOrWant file_key (Some a)
  by_decider [] over a [] passed_after decider decider_after later is none asked =
      by_one (Some a) decider_after (subst (λ i. Asks i (Some a) decider_after) (first_is one decider back later is) asked)
  by_decider [] over a (p ∷ passed) [] decider decider_after later is none asked = absurd none
  by_decider [] over a (p ∷ passed) (q ∷ passed_after) decider decider_after later is none asked =
      one_answers q (subst (λ i. Passes i q) (first_is one p back (passed ++ decider ∷ later) is) none.0)
  by_decider (f ∷ front) over a [] passed_after decider decider_after later is none asked =
      passed_over a (All-head (AnswersAlways unwraps stanzas None) f front over (Some a) decider_after
      (subst (λ i. Asks i (Some a) decider_after) (first_is f decider (front ++ one ∷ back) later is) asked))
  by_decider (f ∷ front) over a (p ∷ passed) [] decider decider_after later is none asked = absurd none
  by_decider (f ∷ front) over a (p ∷ passed) (q ∷ passed_after) decider decider_after later is none asked =
      by_decider front (All-tail (AnswersAlways unwraps stanzas None) f front over) a passed passed_after decider decider_after later
      (rest_is f p (front ++ one ∷ back) (passed ++ decider ∷ later) is) none.1 asked

  by_none : (front after : List I) → AllZip Passes (front ++ one ∷ back) after → ⊥
  by_none [] [] none = none
  by_none [] (x ∷ after) none = one_answers x none.0
  by_none (f ∷ front) [] none = none
  by_none (f ∷ front) (x ∷ after) none = by_none front after none.1

  ring : (front : List I) → All (AnswersAlways unwraps stanzas None) front → (answer : UnwrapAnswer)
      → FirstAnswer unwraps (front ++ one ∷ back) stanzas answer
      → IsKeyOrWant file_key answer
  ring front over None (after, none) = absurd (by_none front after none)
  ring front over (Some a) (after, decides) =
      by_decider front over a decides.passed decides.passed_after decides.decider decides.decider_after decides.later decides.all_before decides.none
      decides.answers

pub for_all : {I : Type 0} (seal_of : Seal) (unwraps : I → List StanzaValue → UnwrapAnswer → I → Type 0) (front : List I) (one : I) (back : List I)
    (plain file : List ℕ)
    → (for : IsFileFor seal_of (FirstAnswer unwraps (one ∷ [])) plain file) → All (AnswersAlways unwraps for.stanzas None) front
    → IsFileFor seal_of (FirstAnswer unwraps (front ++ one ∷ back)) plain file
for_all seal_of unwraps front one back plain file for over = record {
  file_key = for.file_key;
  stanzas = for.stanzas;
  is_file = for.is_file;
  bytes = for.bytes;
  within = for.within;
  last = for.last;
  right = ring unwraps one back for.stanzas for.file_key for.right front over;
}
