-- A file to whose stanzas an identity answers no file key is refused as it answers.
use Rattle.std.specs.Prelude.{◌≡◌, ◌⊎◌, ℕ, List, Some, Ok, Err, Result, MatchResult, IfOk, IfErr}
use Rattle.std.proofs.Common.{◌∙◌, refl, ap, sym, subst, inl, inr, arith}
use Rattle.age.specs.DecryptErrors.{DecryptRefusal, OutOfMemory}
use Rattle.age.specs.Stretch.{whole}
use Rattle.age.specs.Armor.{Carries}
use Rattle.age.specs.Header.{covered_text}
use Rattle.age.specs.HeaderMac.{header_mac}
use Rattle.age.specs.HeaderTexts.{canonical}
use Rattle.age.specs.Stanza.{StanzaValue}
use Rattle.age.specs.Identities.{UnwrapAnswer, Unwraps, decided, Decrypts}
use Rattle.age.specs.Payload.{Seal, payload, payload_key}
use Rattle.age.specs.File.{BeginsAsFile, IsFileOf}
use Rattle.age.specs.FileLaws.{OneHeader}
use Rattle.age.specs.WholeFiles.{read_of, RefusesRest, RefusesDecrypting}
use Rattle.age.proofs.Accepted.{ReadsAlone, HasOneVerdict, begins as file_begins, begins_as, front_accepted, reads_back}
use Rattle.age_claims.specs.Claims.{AnswersAlways}
use Rattle.age_claims.proofs.Given.{CarriesOne}

no_key : {X : Type 0} (a : List ℕ) (e : DecryptRefusal) → Path UnwrapAnswer (Some (Ok a)) (Some (Err e)) → X
no_key a e is = absurd (Prim.cc)

no_value : {X : Type 0} (a : List ℕ) (e : DecryptRefusal) → Path (Result (List ℕ) DecryptRefusal) (Ok a) (Err e) → X
no_value a e is = absurd (Prim.cc)

module _ {I : Type 0} (seal_of : Seal) (unwraps : I → List StanzaValue → UnwrapAnswer → I → Type 0) (before after : I) (text file plain key : List ℕ)
    (stanzas : List StanzaValue) (f : IsFileOf seal_of key stanzas plain file) (this : UnwrapAnswer) (why : DecryptRefusal)
    (is : decided this ≡ Err why)
    (each : AnswersAlways unwraps stanzas this before) where
  -- it isn't decrypted
  pub no_success : CarriesOne → OneHeader seal_of → Carries text file → (given : List ℕ) → Decrypts seal_of unwraps before text given after → ⊥
  no_success one_list one_header carries given d =
      let same : d.carried ≡ file = one_list text d.carried file d.carries carries in
      let got : IsFileOf seal_of d.file_key d.stanzas given file = subst (λ (x : List ℕ). IsFileOf seal_of d.file_key d.stanzas given x) same
      d.is_file in
      let stanzas_are : d.stanzas ≡ stanzas = one_header d.file_key key d.stanzas stanzas given plain file got f in
      elim (each (Some (Ok d.file_key)) after (subst (λ (s : List StanzaValue). Unwraps unwraps before s (Some (Ok d.file_key)) after) stanzas_are
      d.given)) [
        | inl answer ↦ no_value d.file_key why (ap decided answer ∙ is)
        | inr none ↦ no_key d.file_key OutOfMemory none
      ]

  abbrev mac : List ℕ
  mac = header_mac key (covered_text stanzas)

  abbrev sealed : List ℕ
  sealed = payload seal_of (payload_key key f.nonce) plain

  begins : read_of text ≡ whole file → BeginsAsFile stanzas mac f.nonce sealed (read_of text).bytes
  begins start_is =
      subst (λ bytes. BeginsAsFile stanzas mac f.nonce sealed bytes) (sym (ap (λ s. s.bytes) start_is)) (file_begins seal_of key stanzas plain file f)

  -- and the refusal is that answer, or want of memory
  pub refused_so : ReadsAlone → HasOneVerdict → read_of text ≡ whole file → (refusal : DecryptRefusal)
      → RefusesDecrypting seal_of unwraps before text after refusal
      → (refusal ≡ why) ⊎ (refusal ≡ OutOfMemory)
  refused_so alone one start_is refusal (inl (same, inl memory)) = inr memory
  refused_so alone one start_is refusal (inl (same, inr lacks)) =
      inr (front_accepted alone one canonical _ stanzas mac f.nonce sealed 0 0 (read_of text) lacks.left 0 lacks.place refusal
      (begins_as stanzas mac f.nonce sealed (read_of text).bytes (begins start_is)) (record { same = refl; below = omega arith }) lacks.why)
  refused_so alone one start_is refusal (inr asked) =
      let (stanzas_are, mac_is, nonce_is, left, end) = reads_back alone one (read_of text) asked.left 0 asked.place asked.h asked.nonce
      stanzas mac f.nonce sealed asked.front (begins start_is) in
      elim (each asked.answer after (subst (λ (s : List StanzaValue). Unwraps unwraps before s asked.answer after) stanzas_are asked.asked)) [
        | inl answer ↦ inl (subst (λ (k : Result (List ℕ) DecryptRefusal). RefusesRest seal_of text k asked.h asked.nonce asked.left refusal)
            (ap decided answer ∙ is) asked.why)
        | inr memory ↦ inr (subst (λ (k : Result (List ℕ) DecryptRefusal). RefusesRest seal_of text k asked.h asked.nonce asked.left refusal)
            (ap decided memory) asked.why)
      ]

pub both_ways : {T E : Type 0} (P : T → Type 0) (Q R : E → Type 0) (result : Result T E) → IfOk result P → IfErr result Q → ((x : T) → P x → ⊥)
    → ((e : E) → Q e → R e)
    → MatchResult result (λ x. ⊥) R
both_ways P Q R (Ok x) p q none more = none x p
both_ways P Q R (Err e) p q none more = more e q
