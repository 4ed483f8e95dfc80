-- What an X25519 recipient wraps its identity unwraps.
use Rattle.std.proofs.Common.{◌≡◌, ◌⊎◌, inl, inr, ℕ, ◌+◌, ◌∙◌, Bool, true, false, List, [], ◌∷◌, length, take, drop, ap, sym, refl, Option, Some, None, Result, Ok, Err, MatchOption, if◌then◌else◌, nat_le}
use Rattle.std.specs.Prelude.{bytes_eq, codes}
use Rattle.age_error.specs.Bytes.{AreBytes, AreBytesOf}
use Rattle.age_error.specs.EncryptErrors.{EncryptRefusal, ShortRandom, ZeroSharedSecret}
use Rattle.age_error.specs.DecryptErrors.{OutOfMemory as out_of_memory}
use Rattle.age_suite.specs.Suite.{IsCipher, IsAgreement}
use Rattle.age_suite.proofs.Digests.{hkdf_of-bytes}
use Rattle.age_base64.specs.Base64.{columns}
use Rattle.age_base64.proofs.Columns.{columns_same}
use Rattle.age_v1.specs.Stanza.{StanzaValue}
use Rattle.age_v1.specs.Recipients.{Wrapped}
use Rattle.age_v1.specs.Identities.{UnwrapAnswer}
use Rattle.age_v1.specs.Encrypting.{Ends}
use Rattle.age_format.proofs.Outcomes.{same_value, no_refusal, was_due}
use Rattle.age_v1.specs.RecipientType.{no_nonce}
use Rattle.age_v1.specs.X25519.{wrap_key, no_secret, x25519_stanza, HasShare, WrapsWithEphemeral, wrapped_with, opened_with, UnwrapsBy}
use Rattle.age_keys.specs.X25519Laws.{UnwrapsWhatItWraps}
use Rattle.age_keys.proofs.Opening.{no_nonce-bytes}
use Rattle.age_keys.proofs.OwnTypes.{answers_own}

-- bytes were drawn
pub was_drawn : (enough : Bool) (n : ℕ) (goes_on : List ℕ → List ℕ → Result Wrapped EncryptRefusal → List ℕ → Type 0) (draws left : List ℕ)
    (wrapped : Wrapped)
    → MatchOption (if enough then Some (take n draws) else None) (Ends (Err ShortRandom) draws (Ok wrapped) left)
    (λ bytes. goes_on bytes (if enough then drop n draws else draws) (Ok wrapped) left)
    → (enough ≡ true) × goes_on (take n draws) (drop n draws) (Ok wrapped) left
was_drawn true n goes_on draws left wrapped h = (refl, h)
was_drawn false n goes_on draws left wrapped h = no_refusal wrapped ShortRandom h.0

-- wrapped where the secret isn't the one that everybody shares
was_wrapped : (zero : Bool) (made wrapped : Wrapped) → (if zero then Err ZeroSharedSecret else Ok made) ≡ Ok wrapped
    → (zero ≡ false) × (made ≡ wrapped)
was_wrapped true made wrapped is = no_refusal wrapped ZeroSharedSecret (sym is)
was_wrapped false made wrapped is = (refl, same_value made wrapped is)

-- a stanza has one share
pub one_share : (share other : List ℕ) (s : StanzaValue) → AreBytes share → s.args ≡ columns share ∷ [] → HasShare other s → other ≡ share
one_share share other s b are h =
    let same : columns other ≡ columns share = cc (h.args, are) in
    columns_same other share h.bytes.bytes b same

key-is_bytes : (share recipient shared : List ℕ) → AreBytesOf 32 (wrap_key share recipient shared)
key-is_bytes share recipient shared = hkdf_of-bytes _ _ _

module _ (seal_of : List ℕ → List ℕ → List ℕ → List ℕ) (opened : List ℕ → List ℕ → List ℕ → Option (List ℕ)) (shared_of : List ℕ → List ℕ → List ℕ)
    (public_of : List ℕ → List ℕ) (cipher : IsCipher seal_of opened) (agreement : IsAgreement shared_of public_of) where
  module _ (secret file_key ephemeral : List ℕ) (s : AreBytesOf 32 secret) (f : AreBytesOf 16 file_key) (e : AreBytesOf 32 ephemeral) where
    abbrev share : List ℕ
    share = public_of ephemeral

    abbrev shared : List ℕ
    shared = shared_of ephemeral (public_of secret)

    abbrev key : List ℕ
    key = wrap_key share (public_of secret) shared

    abbrev sealed : List ℕ
    sealed = seal_of key no_nonce file_key

    abbrev stanza : StanzaValue
    stanza = x25519_stanza share sealed

    key-bytes : AreBytesOf 32 key
    key-bytes = key-is_bytes share (public_of secret) shared

    sealed-size : AreBytesOf (length file_key + 16) sealed
    sealed-size = cipher.seal_is_longer key no_nonce file_key key-bytes no_nonce-bytes f.bytes

    has_share : HasShare share stanza
    has_share = record { args = refl; bytes = agreement.public_is_bytes ephemeral e; body = sealed-size.len ∙ ap (λ n. n + 16) f.len }

    opens : bytes_eq shared no_secret ≡ false → opened_with opened shared_of public_of secret share sealed ≡ Some (Ok file_key)
    opens other =
        let alike : shared_of secret share ≡ shared = agreement.alike secret ephemeral s e in
        let whole : opened key no_nonce sealed ≡ Some file_key =
        (cipher.opens_exactly key no_nonce sealed file_key key-bytes no_nonce-bytes sealed-size.bytes).1 (f.bytes, refl) in
        rw (alike, other, whole) refl

    key_or_want : bytes_eq shared no_secret ≡ false → (answer : UnwrapAnswer)
        → (answer ≡ opened_with opened shared_of public_of secret share sealed) ⊎ (answer ≡ Some (Err out_of_memory))
        → (answer ≡ Some (Ok file_key)) ⊎ (answer ≡ Some (Err out_of_memory))
    key_or_want other answer (inl is) = inl (is ∙ opens other)
    key_or_want other answer (inr want) = inr want

    answered : bytes_eq shared no_secret ≡ false → (answer : UnwrapAnswer) → UnwrapsBy opened shared_of public_of secret stanza answer
        → (answer ≡ Some (Ok file_key)) ⊎ (answer ≡ Some (Err out_of_memory))
    answered other answer asked =
        key_or_want other answer
        (answers_own HasShare (opened_with opened shared_of public_of secret) (codes "X25519") stanza share answer refl has_share
        (λ other_share of_other. one_share share other_share stanza has_share.bytes.bytes refl of_other) asked)

  pub unwraps_what_it_wraps : UnwrapsWhatItWraps seal_of opened shared_of public_of
  unwraps_what_it_wraps secret file_key draws left wrapped s wraps =
      let (enough, given) = was_drawn (nat_le 32 (length draws)) 32
      (WrapsWithEphemeral seal_of shared_of public_of (public_of secret) file_key) draws left wrapped wraps in
      let (f, e, after) = given in
      let ephemeral = take 32 draws in
      let due = was_due (wrapped_with seal_of shared_of public_of (public_of secret) file_key ephemeral) (drop 32 draws) left wrapped after in
      let (other, made) = was_wrapped (bytes_eq (shared_of ephemeral (public_of secret)) no_secret) _ wrapped due in
      record {
        stanza = stanza secret file_key ephemeral s f e;
        one = ap (λ w. w.stanzas) (sym made);
        no_labels = ap (λ w. w.labels) (sym made);
        unwraps = answered secret file_key ephemeral s f e other;
      }
