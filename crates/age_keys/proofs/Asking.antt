-- Asking one stanza is asking a list of it.
use Rattle.std.proofs.Common.{[], ◌∷◌, Option, Some, None, refl}
use Rattle.age_v1.specs.Identities.{UnlessAnswered, FirstOf}

module _ {S X A : Type 0} (asks : S → X → Option A → S → Type 0) where
  ended : (answer : Option A) (after : S) → UnlessAnswered (λ s. FirstOf asks s []) answer after answer after
  ended None after = (refl, refl)
  ended (Some a) after = (refl, refl)

  pub asked_one : (before : S) (x : X) (answer : Option A) (after : S) → asks before x answer after → FirstOf asks before (x ∷ []) answer after
  asked_one before x answer after asked = (answer, after, asked, ended answer after)
