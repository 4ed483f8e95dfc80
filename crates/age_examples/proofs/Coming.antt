-- An identity that belongs to one of the recipients always gives their keys back.
use Rattle.std.specs.Prelude.{◌≡◌, ◌⊎◌, ℕ, Bool, List, [], ◌∷◌, ◌++◌, All, IsTrue, Option, Some, None, Ok, Err, length, refl}
use Rattle.std.specs.List.{AllZip}
use Rattle.std.proofs.Common.{◌∙◌, sym, ap, subst, append_assoc, inl, inr}
use Rattle.std.proofs.lemmas.List.Elements.{All-nil, All-head, All-tail, All-append}
use Rattle.age.specs.Belonging.{MayWrap}
use Rattle.age.specs.DecryptErrors as decrypt
use Rattle.age.specs.Identities.{FirstThatAnswers, UnwrapAnswer, Unwraps}
use Rattle.age.specs.Recipients.{WrapAnswer, Wrapped, has_scrypt}
use Rattle.age.specs.Several.{BelongsToOne, HoldAnswers, WrapsStrange, grease_beside, stanzas_of}
use Rattle.age.specs.Stanza.{StanzaValue}
use Rattle.age_examples.specs.Keys.{AlwaysGiveKeysBack, GiveKeysBack}

decider_is : {I : Type 0} (one : I) (passed : List I) (decider : I) (later : List I) → Path (List I) (one ∷ []) (passed ++ decider ∷ later)
    → decider ≡ one
decider_is one [] decider later is = cc
decider_is one (p ∷ []) decider later is = absurd (Prim.cc)
decider_is one (p ∷ q ∷ passed) decider later is = absurd (Prim.cc)

-- of one identity the first that answers is itself
alone_asked : {I A : Type 0} (asks : I → Option A → I → Type 0) (one : I) (answer : Option A) (after : List I)
    → FirstThatAnswers asks (one ∷ []) answer after
    → (then_so : I) × asks one answer then_so
alone_asked asks one None [] none = absurd none
alone_asked asks one None (next ∷ rest) none = (next, none.0)
alone_asked asks one (Some a) after decides = (
  decides.decider_after,
  subst (λ i. asks i (Some a) decides.decider_after)
      (decider_is one decides.passed decides.decider decides.later decides.all_before) decides.answers,
)

key_is : (key other : List ℕ) → Path UnwrapAnswer (Some (Ok key)) (Some (Ok other))
    ⊎ Path UnwrapAnswer (Some (Ok key)) (Some (Err decrypt.OutOfMemory)) → key ≡ other
key_is key other (inl is) = cc
key_is key other (inr is) = absurd (Prim.cc)

module _ {R I : Type 0} (wraps : R → List ℕ → List ℕ → WrapAnswer → List ℕ → Type 0)
    (unwraps : I → List StanzaValue → UnwrapAnswer → I → Type 0) where
  -- who always gives it gives no other
  pub no_other : (recipients : List R) (grease : StanzaValue) (draws left : List ℕ) (identities : List I)
      → AlwaysGiveKeysBack wraps unwraps recipients grease draws left identities
      → GiveKeysBack wraps unwraps recipients grease draws left identities
  no_other recipients grease draws left identities always file file_key after prepares first =
      key_is file_key file.file_key (always file (Some (Ok file_key)) prepares (after, first))

  module _ (is_strange : StanzaValue → Bool) where
    -- the recipient's stanzas among those of all
    found : (file_key : List ℕ) (front : List R) (recipient : R) (back : List R) (answers : List Wrapped) → length file_key ≡ 16
        → AllZip (MayWrap wraps file_key) (front ++ recipient ∷ back) answers → All (WrapsStrange wraps is_strange) front
        → (before : List StanzaValue) × (wrapped : Wrapped) × (later : List StanzaValue) × MayWrap wraps file_key recipient wrapped
        × All (λ s. IsTrue (is_strange s)) before × (stanzas_of answers ≡ before ++ (wrapped.stanzas ++ later))
    found file_key [] recipient back [] sixteen each strange = absurd each
    found file_key [] recipient back (a ∷ answers) sixteen each strange =
        ([], a, stanzas_of answers, each.0, All-nil (λ s. IsTrue (is_strange s)), refl)
    found file_key (r ∷ front) recipient back [] sixteen each strange = absurd each
    found file_key (r ∷ front) recipient back (a ∷ answers) sixteen each strange =
        let (before, wrapped, later, wraps_so, passed, is) =
        found file_key front recipient back answers sixteen each.1 (All-tail (WrapsStrange wraps is_strange) r front strange) in (
          a.stanzas ++ before,
          wrapped,
          later,
          wraps_so,
          All-append (λ s. IsTrue (is_strange s)) a.stanzas before
              (All-head (WrapsStrange wraps is_strange) r front strange file_key a sixteen each.0) passed,
          ap (λ l. a.stanzas ++ l) is ∙ sym (append_assoc a.stanzas before (wrapped.stanzas ++ later)),
        )

  pub always_back : HoldAnswers wraps → (recipients : List R) (identity : I) (grease : StanzaValue) (draws left : List ℕ)
      → BelongsToOne wraps unwraps recipients identity
      → AlwaysGiveKeysBack wraps unwraps recipients grease draws left (identity ∷ [])
  always_back hold recipients identity grease draws left one file answer prepares asked =
      let holds = hold recipients (Some grease) draws left file prepares in
      let each : AllZip (MayWrap wraps file.file_key) (one.front ++ one.recipient ∷ one.back) holds.answers =
      subst (λ l. AllZip (MayWrap wraps file.file_key) l holds.answers) one.all holds.each in
      let (before, wrapped, later, wraps_so, passed, is) =
      found one.is_strange file.file_key one.front one.recipient one.back holds.answers holds.sixteen each one.strange in
      let rest : List StanzaValue = grease_beside (has_scrypt (stanzas_of holds.answers)) (Some grease) in
      let are : file.stanzas ≡ before ++ (wrapped.stanzas ++ (later ++ rest)) =
      holds.in_order ∙ ap (λ l. l ++ rest) is ∙ append_assoc before (wrapped.stanzas ++ later) rest
      ∙ ap (λ l. before ++ l) (append_assoc wrapped.stanzas later rest) in
      let (after, own) = alone_asked (λ i a t. Unwraps unwraps i file.stanzas a t) identity answer asked.0 asked.1 in
      one.belongs file.file_key wrapped before (later ++ rest) answer after holds.sixteen wraps_so passed
      (subst (λ l. Unwraps unwraps identity l answer after) are own)
