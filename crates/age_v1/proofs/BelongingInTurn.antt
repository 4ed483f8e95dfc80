-- Identities that go stanza by stanza: when they belong to a recipient.
use Rattle.std.specs.Prelude.{◌≡◌, ◌⊎◌, ℕ, Bool, List, [], ◌∷◌, ◌++◌, None, Some, Ok, Err, All, IsTrue, length}
use Rattle.std.proofs.Common.{subst, inl, inr}
use Rattle.std.proofs.lemmas.List.Elements.{All-head, All-tail}
use Rattle.age_error.specs.DecryptErrors.{OutOfMemory}
use Rattle.age_v1.specs.Stanza.{StanzaValue}
use Rattle.age_v1.specs.Recipients.{WrapAnswer, Wrapped}
use Rattle.age_v1.specs.Identities.{UnwrapAnswer, FirstOf, UnlessAnswered}
use Rattle.age_v1.proofs.AskedInTurn.{singly}
use Rattle.age_v1.specs.Belonging.{MayWrap, AnswersBeside, BelongsTo}

-- the file key, or want of memory
abbrev IsKeyOrWant : List ℕ → UnwrapAnswer → Type 0
IsKeyOrWant file_key answer = (answer ≡ Some (Ok file_key)) ⊎ (answer ≡ Some (Err OutOfMemory))

module _ {I : Type 0} (asks : I → StanzaValue → UnwrapAnswer → I → Type 0) where
  -- to a strange stanza it answers nothing and doesn't change, unless memory is refused
  abbrev pub PassesOver : (StanzaValue → Type 0) → I → Type 0
  PassesOver Strange identity = (s : StanzaValue) (answer : UnwrapAnswer) (after : I) → Strange s → asks identity s answer after
      → ((answer ≡ None) × (after ≡ identity)) ⊎ (answer ≡ Some (Err OutOfMemory))

  module _ {R : Type 0} (wraps : R → List ℕ → List ℕ → WrapAnswer → List ℕ → Type 0) where
    -- to the first stanza that the recipient wraps a file key in it answers the file key, unless memory is refused
    abbrev pub OpensFirst : R → I → Type 0
    OpensFirst recipient identity = (file_key : List ℕ) (wrapped : Wrapped) → length file_key ≡ 16 → MayWrap wraps file_key recipient wrapped
        → (first : StanzaValue) × (more : List StanzaValue) × (wrapped.stanzas ≡ first ∷ more)
        × ((answer : UnwrapAnswer) (after : I) → asks identity first answer after → IsKeyOrWant file_key answer)

    module _ (Strange : StanzaValue → Type 0) (recipient : R) (identity : I) (passes : PassesOver Strange identity) where
      first_is : (file_key : List ℕ) (rest : List StanzaValue) (first answer : UnwrapAnswer) (between after : I) → IsKeyOrWant file_key first
          → UnlessAnswered (λ i. FirstOf asks i rest) first between answer after → IsKeyOrWant file_key answer
      first_is file_key rest first answer between after (inl key) next = inl ((rw key at next).0)
      first_is file_key rest first answer between after (inr want) next = inr ((rw want at next).0)

      passed : (file_key : List ℕ) (before rest : List StanzaValue) (answer : UnwrapAnswer) (after : I) → All Strange before
          → ((answer : UnwrapAnswer) (after : I) → FirstOf asks identity rest answer after → IsKeyOrWant file_key answer)
          → FirstOf asks identity (before ++ rest) answer after → IsKeyOrWant file_key answer
      passed file_key [] rest answer after strange own asked = own answer after asked
      passed file_key (s ∷ before) rest answer after strange own asked =
          let (first, between, one, next) = asked in
          elim (passes s first between (All-head Strange s before strange) one) [
            | inl over ↦
                let then : FirstOf asks between (before ++ rest) answer after = rw over.0 at next in
                passed file_key before rest answer after (All-tail Strange s before strange) own
                (subst (λ i. FirstOf asks i (before ++ rest) answer after) over.1 then)
            | inr want ↦ first_is file_key (before ++ rest) first answer between after (inr want) next
          ]

      -- so an identity that goes stanza by stanza answers the file key beside them
      pub beside : OpensFirst recipient identity → AnswersBeside wraps (FirstOf asks) Strange recipient identity
      beside opens file_key wrapped before later answer after sixteen wraps_so strange asked =
          let (first, more, are, own) = opens file_key wrapped sixteen wraps_so in
          let of_own : (answer : UnwrapAnswer) (after : I) → FirstOf asks identity (wrapped.stanzas ++ later) answer after
          → IsKeyOrWant file_key answer =
          λ a t h.
          let (one, between, says, next) = rw are at h in
          first_is file_key (more ++ later) one a between t (own one between says) next in
          elim asked [
            | inl on_list ↦ passed file_key before (wrapped.stanzas ++ later) answer after strange of_own on_list
            | inr in_turn ↦
                passed file_key before (wrapped.stanzas ++ later) answer after strange of_own
                (singly asks identity (before ++ (wrapped.stanzas ++ later)) answer after in_turn)
          ]

    -- So an identity that goes stanza by stanza belongs to the recipient.
    pub by_stanza : (is_strange : StanzaValue → Bool) (recipient : R) (identity : I) → PassesOver (λ s. IsTrue (is_strange s)) identity
        → OpensFirst recipient identity → BelongsTo wraps (FirstOf asks) is_strange recipient identity
    by_stanza is_strange recipient identity passes opens = beside (λ s. IsTrue (is_strange s)) recipient identity passes opens
