-- What an identity of another passphrase answers to the stanza of a file.
use Rattle.std.proofs.Common.{◌∙◌, inl, inr, ap, sym, subst, refl, ltb-true, le-leb, arith}
use Rattle.std.specs.Prelude.{◌≡◌, ◌⊎◌, ℕ, ◌+◌, ◌≤◌, ◌<◌, ◌^◌, Bool, true, List, [], ◌∷◌, Option, Some, None, Ok, Err, MatchOption, codes, nat_lt}
use Rattle.std.proofs.lemmas.Fmt.{decimal_injective}
use Rattle.std.specs.List.{AllZip, list_all}
use Rattle.std.proofs.lemmas.Bool.{and_parts}
use Rattle.std.proofs.lemmas.List.Elements.{All-nil, All-cons, All-append}
use Rattle.age.specs.Bytes.{AreBytes, AreBytesOf}
use Rattle.age.specs.Belonging.{MayWrap}
use Rattle.age.specs.Draw.{taken, left_after}
use Rattle.age.specs.EncryptErrors.{ShortRandom}
use Rattle.age.specs.Encrypting.{Ends, Prepared}
use Rattle.age.specs.Recipients.{Wrapped}
use Rattle.age.specs.Several.{HoldsAnswers}
use Rattle.age.specs.DecryptErrors.{DecryptionFailed, OutOfMemory}
use Rattle.age.specs.Suite.{IsCipher, IsStretching}
use Rattle.age.specs.AskedInTurn.{either_way, one_asked}
use Rattle.age.specs.Stanza.{StanzaValue}
use Rattle.age.specs.Identities.{UnwrapAnswer, Unwraps, Steady, FirstOf}
use Rattle.age.specs.RecipientType.{no_nonce}
use Rattle.age.specs.Scrypt.{PassphraseRecipient, PassphraseIdentity, Stretching, HasStretching, stretch_salt, scrypt_stanza}
use Rattle.age.specs.Scrypt.{WrapsUnder, key_under, UnwrapsUnder}
use Rattle.age.proofs.Columns.{columns_same}

all_bytes : (xs : List ℕ) → list_all (λ b. nat_lt b 256) xs ≡ true → AreBytes xs
all_bytes [] h = All-nil (λ b. b < 2 ^ 8)
all_bytes (x ∷ xs) h =
    let (first, rest) = and_parts (nat_lt x 256) (list_all (λ b. nat_lt b 256) xs) h in
    All-cons (λ b. b < 2 ^ 8) x xs (omega (arith, ltb-true x 256 first)) (all_bytes xs rest)

no_nonce-bytes : AreBytesOf 12 no_nonce
no_nonce-bytes = record { len = refl; bytes = all_bytes no_nonce refl }

salt-bytes : (salt : List ℕ) → AreBytesOf 16 salt → AreBytes (stretch_salt salt)
salt-bytes salt h =
    All-append (λ b. b < 2 ^ 8) (codes "age-encryption.org/v1/scrypt") salt (all_bytes (codes "age-encryption.org/v1/scrypt") refl) h.bytes

pub first_of : (a b : List ℕ) (s t : List (List ℕ)) → a ∷ s ≡ b ∷ t → a ≡ b
first_of a b s t is = cc

second_of : (a b c d : List ℕ) (s t : List (List ℕ)) → a ∷ b ∷ s ≡ c ∷ d ∷ t → b ≡ d
second_of a b c d s t is = cc

-- what is drawn for a recipient that answers was there
was_drawn : {A : Type 0} (drawn : Option (List ℕ)) (draws left : List ℕ) (answer : A) (goes_on : List ℕ → Type 0)
    → MatchOption drawn (Ends (Err ShortRandom) draws (Ok answer) left) goes_on → (bytes : List ℕ) × goes_on bytes
was_drawn None draws left answer goes_on (short, same) = absurd (Prim.cc)
was_drawn (Some bytes) draws left answer goes_on went = (bytes, went)

module _ (seal_of : List ℕ → List ℕ → List ℕ → List ℕ) (stretch_of : List ℕ → List ℕ → ℕ → List ℕ) (accepts : ℕ → Bool)
    (recipient : PassphraseRecipient) (file_key : List ℕ) where
  may_wrap : (wrapped : Wrapped) → MayWrap (WrapsUnder seal_of stretch_of accepts) file_key recipient wrapped → AreBytesOf 16 file_key
  may_wrap wrapped (draws, left, wraps) =
      let (salt, more) = was_drawn (taken 16 draws) draws left wrapped _ wraps in
      let (label, all) = was_drawn (taken 24 (left_after 16 draws)) (left_after 16 draws) left wrapped _ more in
      all.0

  by_answers : (answers : List Wrapped) → AllZip (MayWrap (WrapsUnder seal_of stretch_of accepts) file_key) (recipient ∷ []) answers
      → AreBytesOf 16 file_key
  by_answers [] none = absurd none
  by_answers (wrapped ∷ answers) each = may_wrap wrapped each.0

  -- a file key that is wrapped under a passphrase is 16 bytes
  pub wrapped_bytes : (file : Prepared) → file.file_key ≡ file_key → HoldsAnswers (WrapsUnder seal_of stretch_of accepts) (recipient ∷ []) None file
      → AreBytesOf 16 file_key
  wrapped_bytes file same holds =
      by_answers holds.answers (subst (λ k. AllZip (MayWrap (WrapsUnder seal_of stretch_of accepts) k) (recipient ∷ []) holds.answers) same
      holds.each)

-- a stanza has one salt and one work factor
pub one_stretching : (with_ other : Stretching) (s : StanzaValue) → HasStretching with_ s → HasStretching other s → other ≡ with_
one_stretching with_ other s h o =
    let same = sym o.args ∙ h.args in
    let salt : other.salt ≡ with_.salt = columns_same other.salt with_.salt o.bytes.bytes h.bytes.bytes (first_of _ _ _ _ same) in
    let factor : other.factor ≡ with_.factor = decimal_injective other.factor with_.factor (omega (arith, o.fits)) (omega (arith, h.fits))
    (second_of _ _ _ _ _ _ same) in
    λ i. record { salt = salt i; factor = factor i }

module _ (seal_of : List ℕ → List ℕ → List ℕ → List ℕ) (opened : List ℕ → List ℕ → List ℕ → Option (List ℕ))
    (stretch_of : List ℕ → List ℕ → ℕ → List ℕ)
    (accepts : ℕ → Bool) (cipher : IsCipher seal_of opened) (stretching : IsStretching stretch_of accepts) (recipient : PassphraseRecipient)
    (identity : PassphraseIdentity) (passphrase : AreBytes recipient.passphrase) (some : 1 ≤ recipient.factor) (most : recipient.factor ≤ 63)
    (within : recipient.factor ≤ identity.most) (file_key salt : List ℕ) (f : AreBytesOf 16 file_key) (s : AreBytesOf 16 salt)
    (takes : accepts recipient.factor ≡ true) where
  abbrev with_this : Stretching
  with_this = record { salt = salt; factor = recipient.factor }

  abbrev key : List ℕ
  key = stretch_of recipient.passphrase (stretch_salt salt) recipient.factor

  abbrev sealed : List ℕ
  sealed = seal_of key no_nonce file_key

  abbrev stanza : StanzaValue
  stanza = scrypt_stanza salt recipient.factor sealed

  key-bytes : AreBytesOf 32 key
  key-bytes = stretching recipient.passphrase (stretch_salt salt) recipient.factor passphrase (salt-bytes salt s) (omega (arith, most)) takes

  has_stretching : HasStretching with_this stanza
  has_stretching = record {
    args = refl;
    bytes = s;
    some = some;
    fits = omega (arith, most);
    body = (cipher.seal_is_longer key no_nonce file_key key-bytes no_nonce-bytes f.bytes).len ∙ ap (λ n. n + 16) f.len;
  }

  abbrev FailsOr : UnwrapAnswer → Type 0
  FailsOr answer = (answer ≡ Some (Err DecryptionFailed)) ⊎ (answer ≡ Some (Err OutOfMemory))

  module _ (unopened : opened (stretch_of identity.passphrase (stretch_salt salt) recipient.factor) no_nonce sealed ≡ None) where
    fails : key_under opened stretch_of accepts identity with_this sealed ≡ Err DecryptionFailed
    fails = rw (le-leb recipient.factor identity.most within, takes, unopened) refl

    answered : (answer : UnwrapAnswer) → UnwrapsUnder opened stretch_of accepts identity stanza answer → FailsOr answer
    answered answer (inl (other, none)) = absurd (other refl)
    answered answer (inr (tag, inl (none, bad))) = absurd (none with_this has_stretching)
    answered answer (inr (tag, inr (inl (parts, has, is)))) =
        inl (is ∙ ap (λ p. Some (key_under opened stretch_of accepts identity p sealed)) (one_stretching with_this parts stanza has_stretching has)
        ∙ ap Some fails)
    answered answer (inr (tag, inr (inr want))) = inr want

    pub each : (answer : UnwrapAnswer) (after : PassphraseIdentity)
        → Unwraps (FirstOf (Steady (UnwrapsUnder opened stretch_of accepts))) identity (stanza ∷ []) answer after → FailsOr answer
    each answer after asked =
        let (first, between, one, next) = either_way (UnwrapsUnder opened stretch_of accepts) identity (stanza ∷ []) answer after asked in
        answered answer (one_asked (Steady (UnwrapsUnder opened stretch_of accepts)) identity stanza first answer between identity one next).0
