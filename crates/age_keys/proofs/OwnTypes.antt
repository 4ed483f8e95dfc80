-- Identities that answer to one type of stanzas.
use Rattle.std.specs.Prelude.{◌≡◌, ◌⊎◌, ℕ, not, List, None, Some, Err, IsTrue, bytes_eq}
use Rattle.std.proofs.Common.{◌∙◌, ap, inl, inr}
use Rattle.age_error.specs.DecryptErrors.{OutOfMemory}
use Rattle.age_v1.specs.Stanza.{StanzaValue}
use Rattle.age_v1.specs.Identities.{UnwrapAnswer}
use Rattle.age_format.proofs.Tags.{other_tag}
use Rattle.age_v1.specs.RecipientType.{UnwrapsType}

-- nothing was answered, and nothing changed
pub unchanged : {I : Type 0} (identity after : I) (answer : UnwrapAnswer) → after ≡ identity → (answer ≡ None) ⊎ (answer ≡ Some (Err OutOfMemory))
    → ((answer ≡ None) × (after ≡ identity)) ⊎ (answer ≡ Some (Err OutOfMemory))
unchanged identity after answer same (inl none) = inl (none, same)
unchanged identity after answer same (inr want) = inr want

module _ {P : Type 0} (Has : P → StanzaValue → Type 0) (made_of : P → List ℕ → UnwrapAnswer) (tag : List ℕ) where
  -- a stanza of another type is passed over
  pub passes_other : (s : StanzaValue) (answer : UnwrapAnswer) → IsTrue (not (bytes_eq s.tag tag)) → UnwrapsType Has made_of tag s answer
      → (answer ≡ None) ⊎ (answer ≡ Some (Err OutOfMemory))
  passes_other s answer other (inl passed) = inl passed.1
  passes_other s answer other (inr own) = absurd (other_tag s.tag tag other own.0)

  -- to a stanza of the type that has these parts and no others it answers what it makes of them
  pub answers_own : (s : StanzaValue) (parts : P) (answer : UnwrapAnswer) → s.tag ≡ tag → Has parts s → ((other : P) → Has other s → other ≡ parts)
      → UnwrapsType Has made_of tag s answer → (answer ≡ made_of parts s.body) ⊎ (answer ≡ Some (Err OutOfMemory))
  answers_own s parts answer same has one (inl other) = absurd (other.0 same)
  answers_own s parts answer same has one (inr (own, inl none)) = absurd (none.0 parts has)
  answers_own s parts answer same has one (inr (own, inr (inl found))) =
      let (other, of_other, is) = found in
      inl (is ∙ ap (λ p. made_of p s.body) (one other of_other))
  answers_own s parts answer same has one (inr (own, inr (inr want))) = inr want
