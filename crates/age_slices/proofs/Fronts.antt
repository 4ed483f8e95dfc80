-- What is told of a front that begins as a file.
use Rattle.std.proofs.Common.{◌≡◌, ◌∙◌, ◌⊎◌, refl, sym, ap, subst, inl, inr, ℕ, ◌+◌, Bool, List, ◌++◌, length, take, drop, take_at, drop_at, length-append, arith}
use Rattle.std.specs.Prelude.{Some, None, Result, Ok, Err, codes}
use Rattle.age.specs.Identities.{decided, AnswersFirst, UnwrapAnswer}
use Rattle.age.specs.DecryptErrors.{DecryptRefusal, DecryptionFailed, ExcessiveWork, InvalidHeader, InvalidMac, Io, KeyDecryptionFailed, NoMatchingKeys, PluginResolve, UnknownFormat, OutOfMemory, decrypt_refusal}
use Rattle.age.specs.File.{BeginsAsFile, file_front}
use Rattle.age.specs.Payload.{payload_key}
use Rattle.age.specs.Header.{IsHeader, KeepsScryptRule, covered_text, header_text}
use Rattle.age.specs.HeaderV1.{HeaderValue}
use Rattle.age.specs.HeaderMac.{header_mac}
use Rattle.age.specs.Mac.{hkdf_of}
use Rattle.age.specs.Stanza.{StanzaValue}
use Rattle.age.specs.HeaderTexts.{canonical}
use Rattle.age.specs.Texts.{RefusesKey}
use Rattle.age.specs.Types.{DecryptError}
use Rattle.age.specs.HeaderVerdict.{Bad, Header, IsVerdict, UnknownVersion, Verdict}
use Rattle.age_slices.specs.Opening.{BeginsWith, IsNoFront, IsTooShort, OpensHeader}
use Rattle.age_slices.specs.declared.opening.PayloadAt.{PayloadAt}

-- a header's text is read as that header, whatever follows
abbrev ReadsBack : Type 0
ReadsBack = (legacy : Bool) (stanzas : List StanzaValue) (mac more : List ℕ) → IsHeader stanzas mac
    → IsVerdict legacy (header_text stanzas mac ++ more) (header_text stanzas mac) (Header stanzas mac)

-- an input has at most one verdict
abbrev HasOneVerdict : Type 0
HasOneVerdict = (legacy : Bool) (input front other : List ℕ) (v w : Verdict) → IsVerdict legacy input front v
    → IsVerdict legacy input other w → (front ≡ other) × (v ≡ w)

front_same : (a b x y : List ℕ) → length a ≡ length b → a ++ x ≡ b ++ y → a ≡ b
front_same a b x y size is = sym (take_at a x (length a) refl) ∙ ap (λ l. take (length a) l) is ∙ take_at b y (length a) (sym size)

rest_same : (a b x y : List ℕ) → length a ≡ length b → a ++ x ≡ b ++ y → x ≡ y
rest_same a b x y size is = sym (drop_at a x (length a) refl) ∙ ap (λ l. drop (length a) l) is ∙ drop_at b y (length a) (sym size)

same_stanzas : (s t : List StanzaValue) (m n : List ℕ) → Header s m ≡ Header t n → s ≡ t
same_stanzas s t m n is = cc

same_mac : (s t : List StanzaValue) (m n : List ℕ) → Header s m ≡ Header t n → m ≡ n
same_mac s t m n is = cc

no_bad : {X : Type 0} (s : List StanzaValue) (m : List ℕ) → Path Verdict Bad (Header s m) → X
no_bad s m is = absurd (Prim.cc)

no_version : {X : Type 0} (s : List StanzaValue) (m : List ℕ) → Path Verdict UnknownVersion (Header s m) → X
no_version s m is = absurd (Prim.cc)

same_key : (a b : List ℕ) → Path UnwrapAnswer (Some (Ok a)) (Some (Ok b)) → a ≡ b
same_key a b is = cc

same_refusal : (a b : DecryptRefusal) → Path UnwrapAnswer (Some (Err a)) (Some (Err b)) → a ≡ b
same_refusal a b is = cc

no_key : {X : Type 0} (a : List ℕ) (e : DecryptRefusal) → Path UnwrapAnswer (Some (Ok a)) (Some (Err e)) → X
no_key a e is = absurd (Prim.cc)

none_is : {X : Type 0} (own : Result (List ℕ) DecryptRefusal) → Path UnwrapAnswer None (Some own) → X
none_is own is = absurd (Prim.cc)

payload_at : (found : PayloadAt) (key : List ℕ) (place : ℕ) → found.key ≡ key → found.place ≡ place
    → found ≡ record { key = key; place = place }
payload_at found key place p q =
    let made : List ℕ → ℕ → PayloadAt = λ key place. record { key = key; place = place } in
    ap (λ x. made x found.place) p ∙ ap (λ y. made key y) q

front_length : (file_key : List ℕ) (stanzas : List StanzaValue) (nonce : List ℕ) → length nonce ≡ 16
    → length (file_front file_key stanzas nonce) ≡ length (header_text stanzas (header_mac file_key (covered_text stanzas))) + 16
unfolding file_front
front_length file_key stanzas nonce sixteen =
    length-append (header_text stanzas (header_mac file_key (covered_text stanzas))) nonce
    ∙ ap (λ n. length (header_text stanzas (header_mac file_key (covered_text stanzas))) + n) sixteen

pub key_is : (file_key nonce key : List ℕ) → key ≡ hkdf_of nonce (codes "payload") file_key → key ≡ payload_key file_key nonce
unfolding payload_key
key_is file_key nonce key is = is

module _ (reads : ReadsBack) (one : HasOneVerdict) (front : List ℕ) where
  module _ (stanzas : List StanzaValue) (mac nonce more : List ℕ) (begins : BeginsAsFile stanzas mac nonce more front) where
    verdict_of : IsVerdict canonical front (header_text stanzas mac) (Header stanzas mac)
    verdict_of = subst (λ input. IsVerdict canonical input (header_text stanzas mac) (Header stanzas mac)) (sym begins.whole)
        (reads canonical stanzas mac (nonce ++ more) begins.header)

    -- it isn't too short
    long_enough : IsTooShort front → ⊥
    long_enough (inl undecided) =
        let verdict = verdict_of in
        undecided (header_text stanzas mac) verdict.more (Header stanzas mac) verdict.whole verdict.decides
    long_enough (inr (h, has, short)) =
        let same = one canonical front (header_text h.stanzas h.mac) (header_text stanzas mac) (Header h.stanzas h.mac)
        (Header stanzas mac) has verdict_of in
        omega (
          arith,
          short,
          ap length same.0,
          ap length begins.whole,
          length-append (header_text stanzas mac) (nonce ++ more),
          length-append nonce more,
          begins.sixteen.len,
        )

    -- and no file begins otherwise
    no_other : (e : DecryptRefusal) → IsNoFront front e → e ≡ OutOfMemory
    no_other InvalidHeader (inl (head, bad)) =
        let same = one canonical front head (header_text stanzas mac) Bad (Header stanzas mac) bad verdict_of in
        no_bad stanzas mac same.1
    no_other InvalidHeader (inr (h, has, broken)) =
        let same = one canonical front (header_text h.stanzas h.mac) (header_text stanzas mac) (Header h.stanzas h.mac)
        (Header stanzas mac) has verdict_of in
        absurd (broken (subst (λ s. KeepsScryptRule s) (sym (same_stanzas h.stanzas stanzas h.mac mac same.1)) begins.rule))
    no_other UnknownFormat (head, unknown) =
        let same = one canonical front head (header_text stanzas mac) UnknownVersion (Header stanzas mac) unknown verdict_of in
        no_version stanzas mac same.1
    no_other OutOfMemory is = refl
    no_other DecryptionFailed is = absurd is
    no_other (ExcessiveWork required target) is = absurd is
    no_other InvalidMac is = absurd is
    no_other (Io e) is = absurd is
    no_other KeyDecryptionFailed is = absurd is
    no_other NoMatchingKeys is = absurd is
    no_other (PluginResolve e) is = absurd is

    -- what was read of it is the same header and nonce
    same_begin : (h : HeaderValue) (read : List ℕ) → BeginsWith h read front → (h.stanzas ≡ stanzas) × (h.mac ≡ mac) × (read ≡ nonce)
    same_begin h read (left, other) =
        let own : IsVerdict canonical front (header_text h.stanzas h.mac) (Header h.stanzas h.mac) =
        subst (λ input. IsVerdict canonical input (header_text h.stanzas h.mac) (Header h.stanzas h.mac)) (sym other.whole)
        (reads canonical h.stanzas h.mac (read ++ left) other.header) in
        let same = one canonical front (header_text h.stanzas h.mac) (header_text stanzas mac) (Header h.stanzas h.mac)
        (Header stanzas mac) own verdict_of in
        let after : read ++ left ≡ nonce ++ more = rest_same (header_text h.stanzas h.mac) (header_text stanzas mac) (read ++ left) (nonce ++ more)
        (ap length same.0) (sym other.whole ∙ begins.whole) in (
          same_stanzas h.stanzas stanzas h.mac mac same.1,
          same_mac h.stanzas stanzas h.mac mac same.1,
          front_same read nonce left more (other.sixteen.len ∙ sym begins.sixteen.len) after,
        )

  module _ {I : Type 0} (unwraps : I → List StanzaValue → UnwrapAnswer → I → Type 0) (identities asked : List I) where
    -- more of the file is needed
    pub too_short : IsTooShort front → OpensHeader unwraps identities identities front (Ok None)
    too_short short = record {
      success = (refl, short);
      honest = λ file_key stanzas nonce more begins right.
          absurd (long_enough stanzas (header_mac file_key (covered_text stanzas)) nonce more begins short);
    }

    -- no file begins so
    pub no_front : (e : DecryptError) → IsNoFront front (decrypt_refusal e) → OpensHeader unwraps identities identities front (Err e)
    no_front e none = record {
      success = inl (refl, none);
      honest = λ file_key stanzas nonce more begins right.
          no_other stanzas (header_mac file_key (covered_text stanzas)) nonce more begins (decrypt_refusal e) none;
    }

    module _ (h : HeaderValue) (nonce : List ℕ) (begins : BeginsWith h nonce front) where
      why_refused : (file_key : List ℕ) (own : UnwrapAnswer) → (own ≡ Some (Ok file_key)) ⊎ (own ≡ Some (Err OutOfMemory))
          → h.mac ≡ header_mac file_key (covered_text h.stanzas) → (e : DecryptRefusal) → RefusesKey (decided own) h e → e ≡ OutOfMemory
      why_refused file_key None (inl is) right e why = none_is (Ok file_key) is
      why_refused file_key None (inr is) right e why = none_is (Err OutOfMemory) is
      why_refused file_key (Some (Ok key)) (inl is) right e (inl (wrong, mac)) =
          absurd (wrong (right ∙ ap (λ k. header_mac k (covered_text h.stanzas)) (sym (same_key key file_key is))))
      why_refused file_key (Some (Ok key)) (inl is) right e (inr (found, memory)) = memory
      why_refused file_key (Some (Ok key)) (inr is) right e why = no_key key OutOfMemory is
      why_refused file_key (Some (Err own)) (inl is) right e why = no_key file_key own (sym is)
      why_refused file_key (Some (Err own)) (inr is) right e why = why ∙ same_refusal own OutOfMemory is

      -- the identities or the MAC refuse
      pub refused : (answer : UnwrapAnswer) → AnswersFirst unwraps identities asked h.stanzas answer → (e : DecryptError)
          → RefusesKey (decided answer) h (decrypt_refusal e) → OpensHeader unwraps identities asked front (Err e)
      refused answer answers e why = record {
        success = inr (record { h = h; nonce = nonce; begins = begins; answer = answer; answers = answers; why = why });
        honest = λ file_key stanzas other more file right.
            let mac = header_mac file_key (covered_text stanzas) in
            let (stanzas_are, mac_is, nonce_is) = same_begin stanzas mac other more file h nonce begins in
            let own = right answer (asked, subst (λ s. AnswersFirst unwraps identities asked s answer) stanzas_are answers) in
            why_refused file_key answer own (mac_is ∙ ap (λ s. header_mac file_key (covered_text s)) (sym stanzas_are)) (decrypt_refusal e) why;
      }

      -- the payload is told
      pub told : (file_key : List ℕ) → AnswersFirst unwraps identities asked h.stanzas (Some (Ok file_key))
          → h.mac ≡ header_mac file_key (covered_text h.stanzas) → (found : PayloadAt) → found.key ≡ payload_key file_key nonce
          → found.place ≡ length (header_text h.stanzas h.mac) + 16 → OpensHeader unwraps identities asked front (Ok (Some found))
      told file_key answers right found key place =
          let begun : BeginsAsFile h.stanzas (header_mac file_key (covered_text h.stanzas)) nonce begins.0 front =
          subst (λ m. BeginsAsFile h.stanzas m nonce begins.0 front) right begins.1 in
          let at : found.place ≡ length (file_front file_key h.stanzas nonce) =
          place ∙ ap (λ m. length (header_text h.stanzas m) + 16) right ∙ sym (front_length file_key h.stanzas nonce begun.sixteen.len) in record {
            success = (
              file_key,
              h.stanzas,
              answers,
              record { nonce = nonce; more = begins.0; begins = begun; key = key; place = at },
            );
            honest = λ other stanzas read more file own.
                let (stanzas_are, mac_is, nonce_is) = same_begin stanzas (header_mac other (covered_text stanzas)) read more file h nonce begins in
                elim (own (Some (Ok file_key)) (
                  asked,
                  subst
                      (λ s. AnswersFirst unwraps identities asked s (Some (Ok file_key))) stanzas_are answers,
                )) [
                  | inl is ↦
                      let same = same_key file_key other is in
                      ap (λ x. Some x) (payload_at found (payload_key other read) (length (file_front other stanzas read))
                      (key ∙ ap (λ k. payload_key k nonce) same ∙ ap (λ n. payload_key other n) nonce_is)
                      (at ∙ ap (λ k. length (file_front k h.stanzas nonce)) same ∙ ap (λ s. length (file_front other s nonce)) stanzas_are
                      ∙ ap (λ n. length (file_front other stanzas n)) nonce_is))
                  | inr none ↦ no_key file_key OutOfMemory none
                ];
          }
