-- What a recipient of a passphrase wraps, an identity of it unwraps.
use Rattle.std.proofs.Common.{◌≡◌, ◌⊎◌, inl, inr, ◌↔◌, ℕ, ◌+◌, ◌≤◌, ◌<◌, ◌^◌, ◌∙◌, Bool, true, false, List, [], ◌∷◌, ◌++◌, length, take, drop, ap, sym, refl, Option, Some, None, Result, Ok, Err, if◌then◌else◌, nat_le, ltb-true, le-leb, arith}
use Rattle.std.specs.Prelude.{codes, nat_lt}
use Rattle.std.proofs.lemmas.Fmt.{decimal_injective}
use Rattle.std.specs.List.{list_all}
use Rattle.std.proofs.lemmas.Bool.{and_parts}
use Rattle.std.proofs.lemmas.List.Elements.{All-nil, All-cons, All-append}
use Rattle.age_error.specs.Bytes.{AreBytes, AreBytesOf}
use Rattle.age_error.specs.declared.suite.ScryptError.{ScryptError}
use Rattle.age_error.specs.declared.suite.ScryptError.TheVariants.{InvalidParams}
use Rattle.age_error.specs.EncryptErrors.{WorkFactorRefused}
use Rattle.age_error.specs.DecryptErrors.{DecryptRefusal, DecryptionFailed, OutOfMemory as out_of_memory}
use Rattle.age_suite.specs.Draw.{taken, left_after}
use Rattle.age_suite.specs.Suite.{IsCipher, IsStretching}
use Rattle.age_base64.specs.Base64.{columns}
use Rattle.age_base64.proofs.Columns.{columns_same}
use Rattle.age_v1.specs.Stanza.{StanzaValue}
use Rattle.age_v1.specs.Recipients.{Wrapped, WrapAnswer}
use Rattle.age_v1.specs.Identities.{UnwrapAnswer, Steady, FirstOf}
use Rattle.age_v1.specs.Belonging.{BelongsTo}
use Rattle.age_v1.proofs.BelongingInTurn.{OpensFirst, by_stanza}
use Rattle.age_v1.specs.Encrypting.{WithDrawn, IsOrNoMemory}
use Rattle.age_format.proofs.Outcomes.{same_value, no_refusal, was_due}
use Rattle.age_v1.specs.RecipientType.{no_nonce}
use Rattle.age_v1.specs.Scrypt.{PassphraseRecipient, PassphraseIdentity, Stretching, HasStretching, stretch_salt, scrypt_stanza, wrapped_under, WrapsWithSalt, WrapsUnder, key_under, UnwrapsUnder}
use Rattle.age_keys.specs.ScryptLaws.{IsMeantFor, has_other_tag, RefusesUnopened}
use Rattle.age_keys.proofs.Opening.{no_nonce-bytes}
use Rattle.age_keys.proofs.OwnTypes.{unchanged, passes_other, answers_own}
use Rattle.age_keys.proofs.Unwrapped.{was_drawn}

-- a suite that stretched a passphrase accepts the factor
pub accepted : (key : List ℕ) (accepts : Bool) → Path (Result (List ℕ) ScryptError) (Ok key) (Err InvalidParams) ↔ (accepts ≡ false) → accepts ≡ true
accepted key true refused = refl
accepted key false refused = absurd (let is = refused.1 refl in Prim.cc)

-- a stanza that was made
made : (due stanza : StanzaValue) → IsOrNoMemory (Ok due) (Ok stanza) → stanza ≡ due
made due stanza (inl is) = cc
made due stanza (inr want) = absurd (Prim.cc)

module _ (seal_of : List ℕ → List ℕ → List ℕ → List ℕ) (stretch_of : List ℕ → List ℕ → ℕ → List ℕ) (accepts : ℕ → Bool) where
  -- what was wrapped with what was drawn
  pub wraps : (recipient : PassphraseRecipient) (file_key draws salt between label left key : List ℕ) (stanza : StanzaValue)
      (stanzas : List StanzaValue) (labels : List (List ℕ))
      → Some salt ≡ taken 16 draws → between ≡ left_after 16 draws → Some label ≡ taken 24 between → left ≡ left_after 24 between
      → AreBytesOf 16 file_key → AreBytesOf 16 salt → AreBytesOf 24 label → accepts recipient.factor ≡ true
      → key ≡ stretch_of recipient.passphrase (stretch_salt salt) recipient.factor
      → IsOrNoMemory (Ok (scrypt_stanza salt recipient.factor (seal_of key no_nonce file_key))) (Ok stanza)
      → stanzas ≡ [] ++ stanza ∷ [] → labels ≡ columns label ∷ []
      → WrapsUnder seal_of stretch_of accepts recipient file_key draws (Ok (record { stanzas = stanzas; labels = labels })) left
  wraps recipient file_key draws salt between label left key stanza stanzas labels first rest second more f s l takes is stanza_is all labelled =
      rw (← first, ← rest, ← second, ← more, takes, all, made _ stanza stanza_is, is, labelled) (f, s, l, inl (refl, refl))

all_bytes : (xs : List ℕ) → list_all (λ b. nat_lt b 256) xs ≡ true → AreBytes xs
all_bytes [] h = All-nil (λ b. b < 2 ^ 8)
all_bytes (x ∷ xs) h =
    let (first, rest) = and_parts (nat_lt x 256) (list_all (λ b. nat_lt b 256) xs) h in
    All-cons (λ b. b < 2 ^ 8) x xs (omega (arith, ltb-true x 256 first)) (all_bytes xs rest)

salt-bytes : (salt : List ℕ) → AreBytesOf 16 salt → AreBytes (stretch_salt salt)
salt-bytes salt h = All-append (λ b. b < 2 ^ 8) (codes "age-encryption.org/v1/scrypt") salt
    (all_bytes (codes "age-encryption.org/v1/scrypt") refl) h.bytes

first_of : (a b : List ℕ) (s t : List (List ℕ)) → a ∷ s ≡ b ∷ t → a ≡ b
first_of a b s t is = cc

second_of : (a b c d : List ℕ) (s t : List (List ℕ)) → a ∷ b ∷ s ≡ c ∷ d ∷ t → b ≡ d
second_of a b c d s t is = cc

-- a stanza has one salt and one work factor
one_stretching : (with_ other : Stretching) (s : StanzaValue) → HasStretching with_ s → HasStretching other s → other ≡ with_
one_stretching with_ other s h o =
    let same = sym o.args ∙ h.args in
    let salt : other.salt ≡ with_.salt = columns_same other.salt with_.salt o.bytes.bytes h.bytes.bytes (first_of _ _ _ _ same) in
    let factor : other.factor ≡ with_.factor =
    decimal_injective other.factor with_.factor (omega (arith, o.fits)) (omega (arith, h.fits)) (second_of _ _ _ _ _ _ same) in
    λ i. record { salt = salt i; factor = factor i }

module _ (opened : List ℕ → List ℕ → List ℕ → Option (List ℕ)) (stretch_of : List ℕ → List ℕ → ℕ → List ℕ) (accepts : ℕ → Bool)
    (identity : PassphraseIdentity) where
  not_opened : (with_ : Stretching) (body : List ℕ) → nat_le with_.factor identity.most ≡ true → accepts with_.factor ≡ true
      → opened (stretch_of identity.passphrase (stretch_salt with_.salt) with_.factor) no_nonce body ≡ None
      → key_under opened stretch_of accepts identity with_ body ≡ Err DecryptionFailed
  not_opened with_ body within takes shut = rw (within, takes, shut) refl

  failed : (made : Result (List ℕ) DecryptRefusal) (answer : UnwrapAnswer) → made ≡ Err DecryptionFailed
      → (answer ≡ Some made) ⊎ (answer ≡ Some (Err out_of_memory))
      → (answer ≡ Some (Err DecryptionFailed)) ⊎ (answer ≡ Some (Err out_of_memory))
  failed made answer shut (inl is) = inl (is ∙ ap Some shut)
  failed made answer shut (inr want) = inr want

  pub refuses_unopened : RefusesUnopened opened stretch_of accepts identity
  refuses_unopened s with_ tag has most takes shut answer asked =
      failed (key_under opened stretch_of accepts identity with_ s.body) answer
      (not_opened with_ s.body (le-leb with_.factor identity.most most) takes shut)
      (answers_own HasStretching (λ other body. Some (key_under opened stretch_of accepts identity other body))
      (codes "scrypt") s with_ answer tag has
      (λ other of_other. one_stretching with_ other s has of_other) asked)

-- wrapped where the suite accepts the factor
pub was_accepted : (accepts : Bool) (made wrapped : Wrapped) → (if accepts then Ok made else Err WorkFactorRefused) ≡ Ok wrapped
    → (accepts ≡ true) × (made ≡ wrapped)
was_accepted true made wrapped is = (refl, same_value made wrapped is)
was_accepted false made wrapped is = no_refusal wrapped WorkFactorRefused (sym is)

module _ (seal_of : List ℕ → List ℕ → List ℕ → List ℕ) (opened : List ℕ → List ℕ → List ℕ → Option (List ℕ))
    (stretch_of : List ℕ → List ℕ → ℕ → List ℕ)
    (accepts : ℕ → Bool) (cipher : IsCipher seal_of opened) (stretching : IsStretching stretch_of accepts) (recipient : PassphraseRecipient)
    (identity : PassphraseIdentity) (meant : IsMeantFor recipient identity) (passphrase : AreBytes recipient.passphrase) (some : 1 ≤ recipient.factor)
    (most : recipient.factor ≤ 63) where
  module _ (file_key salt : List ℕ) (f : AreBytesOf 16 file_key) (s : AreBytesOf 16 salt) (takes : accepts recipient.factor ≡ true) where
    abbrev with_this : Stretching
    with_this = record { salt = salt; factor = recipient.factor }

    abbrev key : List ℕ
    key = stretch_of recipient.passphrase (stretch_salt salt) recipient.factor

    abbrev sealed : List ℕ
    sealed = seal_of key no_nonce file_key

    abbrev stanza : StanzaValue
    stanza = scrypt_stanza salt recipient.factor sealed

    key-bytes : AreBytesOf 32 key
    key-bytes = stretching recipient.passphrase (stretch_salt salt) recipient.factor passphrase (salt-bytes salt s) (omega (arith, most)) takes

    sealed-size : AreBytesOf (length file_key + 16) sealed
    sealed-size = cipher.seal_is_longer key no_nonce file_key key-bytes no_nonce-bytes f.bytes

    has_stretching : HasStretching with_this stanza
    has_stretching = record { args = refl; bytes = s; some = some; fits = omega (arith, most); body = sealed-size.len ∙ ap (λ n. n + 16) f.len }

    opens : key_under opened stretch_of accepts identity with_this sealed ≡ Ok file_key
    opens =
        let within : nat_le recipient.factor identity.most ≡ true = le-leb recipient.factor identity.most meant.most in
        let whole : opened key no_nonce sealed ≡ Some file_key =
        (cipher.opens_exactly key no_nonce sealed file_key key-bytes no_nonce-bytes sealed-size.bytes).1 (f.bytes, refl) in
        rw (meant.same, within, takes, whole) refl

    key_or_want : (answer : UnwrapAnswer) → (answer ≡ Some (key_under opened stretch_of accepts identity with_this sealed))
        ⊎ (answer ≡ Some (Err out_of_memory))
        → (answer ≡ Some (Ok file_key)) ⊎ (answer ≡ Some (Err out_of_memory))
    key_or_want answer (inl is) = inl (is ∙ ap Some opens)
    key_or_want answer (inr want) = inr want

    answered : (answer : UnwrapAnswer) → UnwrapsUnder opened stretch_of accepts identity stanza answer
        → (answer ≡ Some (Ok file_key)) ⊎ (answer ≡ Some (Err out_of_memory))
    answered answer asked =
        key_or_want answer
        (answers_own HasStretching (λ with_ body. Some (key_under opened stretch_of accepts identity with_ body))
        (codes "scrypt") stanza with_this answer refl
        has_stretching (λ other of_other. one_stretching with_this other stanza has_stretching of_other) asked)

  abbrev Wraps : PassphraseRecipient → List ℕ → List ℕ → WrapAnswer → List ℕ → Type 0
  Wraps = WrapsUnder seal_of stretch_of accepts

  abbrev Asks : PassphraseIdentity → StanzaValue → UnwrapAnswer → PassphraseIdentity → Type 0
  Asks = Steady (UnwrapsUnder opened stretch_of accepts)

  opens_first : OpensFirst Asks Wraps recipient identity
  opens_first file_key wrapped sixteen wraps_so =
      let (draws, left, made_so) = wraps_so in
      let (enough, given) = was_drawn (nat_le 16 (length draws)) 16
      (λ salt. WithDrawn 24 (λ label. WrapsWithSalt seal_of stretch_of accepts recipient file_key salt label)) draws left
      wrapped made_so in
      let (more, wrapping) = was_drawn (nat_le 24 (length (drop 16 draws))) 24
      (WrapsWithSalt seal_of stretch_of accepts recipient file_key (take 16 draws)) (drop 16 draws) left
      wrapped given in
      let (f, s, l, after) = wrapping in
      let due = was_due (wrapped_under seal_of stretch_of accepts recipient file_key (take 16 draws) (take 24 (drop 16 draws)))
      (drop 24 (drop 16 draws)) left wrapped after in
      let (takes, is) = was_accepted (accepts recipient.factor) _ wrapped due in (
        stanza file_key (take 16 draws) f s takes,
        [],
        ap (λ w. w.stanzas) (sym is),
        λ answer next asked. answered file_key
            (take 16 draws) f s takes answer asked.0,
      )

  pub belongs : BelongsTo Wraps (FirstOf Asks) has_other_tag recipient identity
  belongs =
      by_stanza Asks Wraps has_other_tag recipient identity
      (λ s answer after other asked. unchanged identity after answer asked.1
      (passes_other HasStretching (λ with_ body. Some (key_under opened stretch_of accepts identity with_ body))
      (codes "scrypt") s answer other asked.0)) opens_first
