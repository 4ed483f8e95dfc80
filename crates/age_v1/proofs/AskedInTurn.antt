-- Who is asked on a list and who is asked item by item.
use Rattle.std.specs.Prelude.{◌≡◌, List, [], ◌∷◌, Option, None, Some}
use Rattle.std.proofs.Common.{◌∙◌, subst, inl, inr}
use Rattle.age_v1.specs.Identities.{FirstOf, Steady, UnlessAnswered, Unwraps}

module _ {S X A : Type 0} (asks : S → X → Option A → S → Type 0) where
  -- asking a list of one by the relation on lists is asking that one
  pub one_asked : (before : S) (x : X) (first answer : Option A) (between after : S) → asks before x first between
      → UnlessAnswered (λ s. FirstOf asks s []) first between answer after → asks before x answer after
  one_asked before x None answer between after asked (none, same) = rw (none, same) asked
  one_asked before x (Some a) answer between after asked (is, same) = rw (is, same) asked

  singly_then : (xs : List X) (first : Option A) (between : S) (answer : Option A) (after : S)
      → ((s : S) → FirstOf (λ s x. FirstOf asks s (x ∷ [])) s xs answer after → FirstOf asks s xs answer after)
      → UnlessAnswered (λ s. FirstOf (λ s x. FirstOf asks s (x ∷ [])) s xs) first between answer after
      → UnlessAnswered (λ s. FirstOf asks s xs) first between answer after
  singly_then xs None between answer after more next = more between next
  singly_then xs (Some a) between answer after more next = next

  -- so going item by item it does what it does on the list
  pub singly : (before : S) (xs : List X) (answer : Option A) (after : S) → FirstOf (λ s x. FirstOf asks s (x ∷ [])) before xs answer after
      → FirstOf asks before xs answer after
  singly before [] answer after h = h
  singly before (x ∷ xs) answer after h =
      let (first, between, one, next) = h in
      let (own, then, asked, ended) = one in (
        first,
        between,
        one_asked before x own first then between asked ended,
        singly_then xs first between answer after
            (λ s more. singly s xs answer after more) next,
      )

-- of one who doesn't change, and answers to each item by itself
module _ {S X A : Type 0} (asks : S → X → Option A → Type 0) where
  stays_on : (xs : List X) (first : Option A) (between : S) (answer : Option A) (after : S)
      → ((s : S) → FirstOf (Steady asks) s xs answer after → after ≡ s)
      → UnlessAnswered (λ s. FirstOf (Steady asks) s xs) first between answer after → after ≡ between
  stays_on xs None between answer after step h = step between h
  stays_on xs (Some a) between answer after step h = h.1

  stays : (before : S) (xs : List X) (answer : Option A) (after : S) → FirstOf (Steady asks) before xs answer after → after ≡ before
  stays before [] answer after h = h.1
  stays before (x ∷ xs) answer after (first, between, asked, next) =
      stays_on xs first between answer after (λ s. stays s xs answer after) next ∙ asked.1

  -- the one who is there afterwards is the same
  in_order : (before : S) (xs : List X) (answer : Option A) (after : S) → FirstOf (Steady asks) before xs answer after
      → FirstOf (Steady asks) before xs answer before
  in_order before xs answer after h = subst (λ s. FirstOf (Steady asks) before xs answer s) (stays before xs answer after h) h

  -- so it doesn't matter which of its calls is made
  pub either_way : (before : S) (xs : List X) (answer : Option A) (after : S) → Unwraps (FirstOf (Steady asks)) before xs answer after
      → FirstOf (Steady asks) before xs answer before
  either_way before xs answer after (inl h) = in_order before xs answer after h
  either_way before xs answer after (inr h) = in_order before xs answer after (singly (Steady asks) before xs answer after h)
