-- What an X25519 identity answers to stanzas that its secret doesn't open.
use Rattle.std.specs.Prelude.{◌≡◌, ◌⊎◌, ℕ, List, [], ◌∷◌, Option, Some, None, Err, All}
use Rattle.std.proofs.Common.{subst, inl, inr}
use Rattle.std.proofs.lemmas.List.Elements.{All-head, All-tail}
use Rattle.age.specs.AskedInTurn.{either_way}
use Rattle.age.specs.DecryptErrors.{OutOfMemory}
use Rattle.age.specs.Identities.{UnwrapAnswer, Steady, FirstOf, UnlessAnswered}
use Rattle.age.specs.Stanza.{StanzaValue}
use Rattle.age.specs.X25519.{UnwrapsBy}
use Rattle.age.specs.X25519Laws.{PassesUnopened}
use Rattle.age_claims.specs.Claims.{AnswersAlways, IsUnopened}

-- nothing, or want of memory
abbrev IsNoneOrWant : UnwrapAnswer → Type 0
IsNoneOrWant answer = (answer ≡ None) ⊎ (answer ≡ Some (Err OutOfMemory))

module _ {S : Type 0} (asks : S → StanzaValue → UnwrapAnswer → Type 0) (i : S) (Passed : StanzaValue → Type 0)
    (passes : (stanza : StanzaValue) (answer : UnwrapAnswer) → Passed stanza → asks i stanza answer → IsNoneOrWant answer) where
  next_passed : (xs : List StanzaValue) (first : UnwrapAnswer) (between : S) (answer : UnwrapAnswer) (after : S) → IsNoneOrWant first → between ≡ i
      → UnlessAnswered (λ s. FirstOf (Steady asks) s xs) first between answer after
      → ((answer : UnwrapAnswer) (after : S) → FirstOf (Steady asks) i xs answer after → IsNoneOrWant answer) → IsNoneOrWant answer
  next_passed xs first between answer after (inl is) stays next own =
      let then : FirstOf (Steady asks) between xs answer after = rw is at next in
      own answer after (subst (λ s. FirstOf (Steady asks) s xs answer after) stays then)
  next_passed xs first between answer after (inr want) stays next own = inr ((rw want at next).0)

  all_passed : (xs : List StanzaValue) → All Passed xs → (answer : UnwrapAnswer) (after : S) → FirstOf (Steady asks) i xs answer after
      → IsNoneOrWant answer
  all_passed [] over answer after h = inl h.0
  all_passed (x ∷ xs) over answer after (first, between, asked, next) =
      next_passed xs first between answer after (passes x first (All-head Passed x xs over) asked.0) asked.1 next
      (all_passed xs (All-tail Passed x xs over))

module _ (opened : List ℕ → List ℕ → List ℕ → Option (List ℕ)) (shared_of : List ℕ → List ℕ → List ℕ) (public_of : List ℕ → List ℕ) (secret : List ℕ)
    (unopened : PassesUnopened opened shared_of public_of secret) where
  passes : (stanza : StanzaValue) (answer : UnwrapAnswer) → IsUnopened opened shared_of public_of secret stanza
      → UnwrapsBy opened shared_of public_of secret stanza answer → IsNoneOrWant answer
  passes stanza answer (inl other) (inl (differs, none)) = inl none
  passes stanza answer (inl other) (inr (tag, own)) = absurd (other tag)
  passes stanza answer (inr (tag, closed)) asked = unopened stanza closed.0 tag closed.1 closed.2 answer asked

  -- it answers nothing, or want of memory
  pub never_opens : (stanzas : List StanzaValue) → All (IsUnopened opened shared_of public_of secret) stanzas
      → AnswersAlways (FirstOf (Steady (UnwrapsBy opened shared_of public_of))) stanzas None secret
  never_opens stanzas over answer after asked =
      all_passed (UnwrapsBy opened shared_of public_of) secret (IsUnopened opened shared_of public_of secret) passes stanzas over answer secret
      (either_way (UnwrapsBy opened shared_of public_of) secret stanzas answer after asked)
