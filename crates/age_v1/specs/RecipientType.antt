-- What an identity answers to a stanza, where it answers to one type of stanzas: by that type's tag, by what a stanza of the type has, and
-- by what the identity makes of it and of the body. And the seal of a file key that such a stanza's body is.
use Rattle.std.specs.Prelude.{Err, List, None, Some, replicate, ℕ, ◌≡◌, ◌≢◌, ◌⊎◌}
use Rattle.age_error.specs.DecryptErrors.{InvalidHeader, OutOfMemory}
use Rattle.age_v1.specs.Stanza.{StanzaValue}
use Rattle.age_v1.specs.Identities.{UnwrapAnswer}

-- the nonce of a seal of a file key
-- standard: the nonce is 12 zero bytes, since each wrap key is used once
abbrev pub no_nonce : List ℕ
no_nonce = replicate 12 0

module _ {P : Type 0} (Has : P → StanzaValue → Type 0) (made_of : P → List ℕ → UnwrapAnswer) where
  -- What an identity of one type answers to a stanza of that type: where the stanza lacks what the type asks it is refused, else what it
  -- has and its body decide. Memory can be refused.
  abbrev pub UnwrapsOwn : StanzaValue → UnwrapAnswer → Type 0
  UnwrapsOwn s answer =
      (((parts : P) → Has parts s → ⊥) × (answer ≡ Some (Err InvalidHeader)))
      ⊎ ((parts : P) × Has parts s × (answer ≡ made_of parts s.body))
      ⊎ (answer ≡ Some (Err OutOfMemory))

  -- What it answers to any stanza: one with another tag is passed over.
  abbrev pub UnwrapsType : List ℕ → StanzaValue → UnwrapAnswer → Type 0
  UnwrapsType tag s answer = ((s.tag ≢ tag) × (answer ≡ None)) ⊎ ((s.tag ≡ tag) × UnwrapsOwn s answer)
