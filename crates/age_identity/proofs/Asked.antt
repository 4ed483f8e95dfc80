-- The first entry that answers decides.
use Rattle.std.proofs.Common.{◌≡◌, arith, refl, map, length, Result, List, [], ◌∷◌, ℕ, Some, None}
use Rattle.age_error.specs.DecryptErrors.{DecryptRefusal}
use Rattle.age_v1.specs.Stanza.{StanzaValue}
use Rattle.age_v1.specs.Identities.{UnwrapAnswer}
use Rattle.age_identity.specs.Asking.{EntryAnswers, EntriesAnswer}
use Rattle.age_identity.specs.Entries.{entry_of}
use Rattle.age_identity.specs.declared.entry.IdentityFileEntry.{IdentityFileEntry}

module _ {S : Type 0} (asks : List ℕ → StanzaValue → UnwrapAnswer → Type 0) (stanzas : List StanzaValue) where
  -- where there is none, there is no answer
  pub none_answers : (entries : List (IdentityFileEntry S)) → length entries ≡ 0 → EntriesAnswer asks (map (λ e. entry_of e) entries) stanzas None
  none_answers [] is = (refl, refl)
  none_answers (first ∷ tail) is = absurd (omega (arith, is))

  -- where the first one answers, that is the answer
  pub first_answers : (entries tail : List (IdentityFileEntry S)) (first : IdentityFileEntry S) (own : Result (List ℕ) DecryptRefusal)
      → entries ≡ first ∷ tail → EntryAnswers asks stanzas (entry_of first) (Some own)
      → EntriesAnswer asks (map (λ e. entry_of e) entries) stanzas (Some own)
  first_answers entries tail first own is h = rw is (Some own, stanzas, (h, refl), (refl, refl))

  -- where it doesn't, the others decide
  pub others_answer : (entries tail : List (IdentityFileEntry S)) (first : IdentityFileEntry S) (answer : UnwrapAnswer)
      → entries ≡ first ∷ tail → EntryAnswers asks stanzas (entry_of first) None → EntriesAnswer asks (map (λ e. entry_of e) tail) stanzas answer
      → EntriesAnswer asks (map (λ e. entry_of e) entries) stanzas answer
  others_answer entries tail first answer is h next = rw is (None, stanzas, (h, refl), next)
