-- An identity whose answer to a stanza is one, but for want of memory, gives one file key to the stanzas of a header.
use Rattle.std.specs.Prelude.{◌≡◌, ◌⊎◌, ℕ, Bool, List, [], ◌∷◌, Option, Some, None, Ok, Err, codes}
use Rattle.std.proofs.Common.{◌∙◌, ap, sym, subst, inl, inr}
use Rattle.age.specs.DecryptErrors.{OutOfMemory}
use Rattle.age.specs.AskedInTurn.{either_way}
use Rattle.age.specs.Stanza.{StanzaValue}
use Rattle.age.specs.Identities.{UnwrapAnswer, Unwraps, Steady, FirstOf, UnlessAnswered}
use Rattle.age.specs.RecipientType.{UnwrapsOwn, UnwrapsType}
use Rattle.age.specs.X25519.{HasShare, opened_with, UnwrapsBy}
use Rattle.age.specs.Scrypt.{PassphraseIdentity, HasStretching, key_under, UnwrapsUnder}
use Rattle.age.proofs.Columns.{columns_same}
use Rattle.age_claims.specs.Claims.{GiveOneKey}
use Rattle.age_claims.proofs.Alone.{alone_asked}
use Rattle.age_claims.proofs.Unopened.{first_of, one_stretching}

-- the same answer, or one of the two is want of memory
abbrev AreSame : UnwrapAnswer → UnwrapAnswer → Type 0
AreSame a b = (a ≡ b) ⊎ (a ≡ Some (Err OutOfMemory)) ⊎ (b ≡ Some (Err OutOfMemory))

same_key : (key other : List ℕ) → AreSame (Some (Ok key)) (Some (Ok other)) → key ≡ other
same_key key other (inl is) = cc
same_key key other (inr (inl want)) = absurd (Prim.cc)
same_key key other (inr (inr want)) = absurd (Prim.cc)

module _ {S : Type 0} (asks : S → StanzaValue → UnwrapAnswer → Type 0)
    (one : (s : S) (stanza : StanzaValue) (a b : UnwrapAnswer) → asks s stanza a → asks s stanza b → AreSame a b) where
  abbrev Goes : S → List StanzaValue → UnwrapAnswer → S → Type 0
  Goes = FirstOf (Steady asks)

  same_first : (i : S) (xs : List StanzaValue) (first : UnwrapAnswer) (between second : S) (a b : UnwrapAnswer) (after later : S) → between ≡ i
      → second ≡ i
      → UnlessAnswered (λ s. Goes s xs) first between a after → UnlessAnswered (λ s. Goes s xs) first second b later
      → ((a b : UnwrapAnswer) (after later : S) → Goes i xs a after → Goes i xs b later → AreSame a b) → AreSame a b
  same_first i xs None between second a b after later stays remains next more own =
      own a b after later (subst (λ s. Goes s xs a after) stays next) (subst (λ s. Goes s xs b later) remains more)
  same_first i xs (Some x) between second a b after later stays remains next more own = inl (next.0 ∙ sym more.0)

  next_same : (i : S) (xs : List StanzaValue) (first other : UnwrapAnswer) (between second : S) (a b : UnwrapAnswer) (after later : S)
      → AreSame first other → between ≡ i → second ≡ i
      → UnlessAnswered (λ s. Goes s xs) first between a after → UnlessAnswered (λ s. Goes s xs) other second b later
      → ((a b : UnwrapAnswer) (after later : S) → Goes i xs a after → Goes i xs b later → AreSame a b) → AreSame a b
  next_same i xs first other between second a b after later (inl is) stays remains next more own =
      same_first i xs first between second a b after later stays remains next
      (subst (λ f. UnlessAnswered (λ s. Goes s xs) f second b later) (sym is) more) own
  next_same i xs first other between second a b after later (inr (inl want)) stays remains next more own = inr (inl ((rw want at next).0))
  next_same i xs first other between second a b after later (inr (inr want)) stays remains next more own = inr (inr ((rw want at more).0))

  answers_same : (i : S) (xs : List StanzaValue) (a b : UnwrapAnswer) (after later : S) → Goes i xs a after → Goes i xs b later → AreSame a b
  answers_same i [] a b after later h k = inl (h.0 ∙ sym k.0)
  answers_same i (x ∷ xs) a b after later (first, between, asked, next) (other, second, wanted, more) =
      next_same i xs first other between second a b after later (one i x first other asked.0 wanted.0) asked.1 wanted.1 next more (answers_same i xs)

  pub gives_one : (identity : S) → GiveOneKey Goes (identity ∷ [])
  gives_one identity stanzas key other after later first second =
      let (then, asked) = alone_asked (λ i own next. Unwraps Goes i stanzas own next) identity (Ok key) after first in
      let (next, wanted) = alone_asked (λ i own next. Unwraps Goes i stanzas own next) identity (Ok other) later second in
      same_key key other (answers_same identity stanzas (Some (Ok key)) (Some (Ok other)) identity identity
      (either_way asks identity stanzas (Some (Ok key)) then asked) (either_way asks identity stanzas (Some (Ok other)) next wanted))

-- where a stanza has what the type asks in one way, an identity of the type answers so
module _ {P : Type 0} (Has : P → StanzaValue → Type 0) (made_of : P → List ℕ → UnwrapAnswer) (tag : List ℕ)
    (one : (s : StanzaValue) (p q : P) → Has p s → Has q s → p ≡ q) where
  own_same : (s : StanzaValue) (a b : UnwrapAnswer) → UnwrapsOwn Has made_of s a → UnwrapsOwn Has made_of s b → AreSame a b
  own_same s a b (inl (none, bad)) (inl (lacks, is)) = inl (bad ∙ sym is)
  own_same s a b (inl (none, bad)) (inr (inl (q, holds, says))) = absurd (none q holds)
  own_same s a b (inl (none, bad)) (inr (inr want)) = inr (inr want)
  own_same s a b (inr (inl (p, has, is))) (inl (none, bad)) = absurd (none p has)
  own_same s a b (inr (inl (p, has, is))) (inr (inl (q, holds, says))) = inl (is ∙ ap (λ x. made_of x s.body) (one s p q has holds) ∙ sym says)
  own_same s a b (inr (inl (p, has, is))) (inr (inr want)) = inr (inr want)
  own_same s a b (inr (inr want)) its = inr (inl want)

  type_same : (s : StanzaValue) (a b : UnwrapAnswer) → UnwrapsType Has made_of tag s a → UnwrapsType Has made_of tag s b → AreSame a b
  type_same s a b (inl (other, none)) (inl (differs, nothing)) = inl (none ∙ sym nothing)
  type_same s a b (inl (other, none)) (inr (same, its)) = absurd (other same)
  type_same s a b (inr (same, own)) (inl (other, none)) = absurd (other same)
  type_same s a b (inr (same, own)) (inr (equal, its)) = own_same s a b own its

one_share : (s : StanzaValue) (p q : List ℕ) → HasShare p s → HasShare q s → p ≡ q
one_share s p q h o = columns_same p q h.bytes.bytes o.bytes.bytes (first_of _ _ _ _ (sym h.args ∙ o.args))

pub x25519_one : (opened : List ℕ → List ℕ → List ℕ → Option (List ℕ)) (shared_of : List ℕ → List ℕ → List ℕ) (public_of : List ℕ → List ℕ)
    (secret : List ℕ)
    → GiveOneKey (FirstOf (Steady (UnwrapsBy opened shared_of public_of))) (secret ∷ [])
x25519_one opened shared_of public_of secret =
    gives_one (UnwrapsBy opened shared_of public_of)
    (λ i s a b. type_same HasShare (opened_with opened shared_of public_of i) (codes "X25519") one_share s a b) secret

pub passphrase_one : (opened : List ℕ → List ℕ → List ℕ → Option (List ℕ)) (stretch_of : List ℕ → List ℕ → ℕ → List ℕ) (accepts : ℕ → Bool)
    (identity : PassphraseIdentity) → GiveOneKey (FirstOf (Steady (UnwrapsUnder opened stretch_of accepts))) (identity ∷ [])
passphrase_one opened stretch_of accepts identity =
    gives_one (UnwrapsUnder opened stretch_of accepts)
    (λ i s a b. type_same HasStretching (λ with_ body. Some (key_under opened stretch_of accepts i with_ body)) (codes "scrypt")
    (λ s p q h o. sym (one_stretching p q s h o)) s a b) identity
