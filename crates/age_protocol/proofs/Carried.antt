-- What carries a file for an identity is decrypted to its plaintext, or refused for want of memory.
use Rattle.std.proofs.Common.{◌≡◌, ◌∙◌, refl, sym, ap, subst, inl, inr, ℕ, true, List, [], ◌∷◌, Some, Ok, Err, arith}
use Rattle.age_error.specs.DecryptErrors.{DecryptRefusal, OutOfMemory, decrypt_refusal, decrypt_of_io}
use Rattle.age_io.specs.Stretch.{whole, stretch-ext}
use Rattle.age_v1.specs.Armor.{Carries}
use Rattle.age_v1.specs.DeliveredArmor.{text_delivers, stretch_of, Clean}
use Rattle.age_v1.specs.HeaderTexts.{canonical}
use Rattle.age_v1.specs.Stanza.{StanzaValue}
use Rattle.age_v1.specs.HeaderMac.{header_mac}
use Rattle.age_v1.specs.Identities.{UnwrapAnswer, Unwraps, decided, FirstAnswer, IsFileFor}
use Rattle.age_v1.specs.Header.{covered_text}
use Rattle.age_v1.specs.Payload.{Seal, payload, LastIsNoMiddle, payload_key}
use Rattle.age_v1.specs.File.{BeginsAsFile, IsFileOf}
use Rattle.age_protocol.specs.WholeFiles.{read_of, RefusesRest, RefusesAsked, RefusesDecrypting}
use Rattle.age_protocol.specs.Laws.{OneHeader, OnePlain, GivesBack, RefusesNone}
use Rattle.age_protocol.proofs.Alone.{alone_answers}
use Rattle.age_protocol.proofs.Accepted.{ReadsAlone, HasOneVerdict, front_accepted, reads_back, memory_or_not, begins as file_begins, begins_as}

-- a text carries one list
abbrev pub CarriesOne : Type 0
CarriesOne = (text bytes others : List ℕ) → Carries text bytes → Carries text others → bytes ≡ others

-- and delivers it
abbrev pub DeliversCarried : Type 0
DeliversCarried = (text bytes : List ℕ) → Carries text bytes → text_delivers text true ≡ record { bytes = bytes; ending = Clean }

same_key : (a b : List ℕ) → Path UnwrapAnswer (Some (Ok a)) (Some (Ok b)) → a ≡ b
same_key a b is = cc

no_key : {X : Type 0} (a : List ℕ) (e : DecryptRefusal) → Path UnwrapAnswer (Some (Ok a)) (Some (Err e)) → X
no_key a e is = absurd (Prim.cc)

module _ {I : Type 0} (seal_of : Seal) (unwraps : I → List StanzaValue → UnwrapAnswer → I → Type 0) where
  pub gives_back : CarriesOne → OneHeader seal_of → OnePlain seal_of → GivesBack seal_of unwraps
  gives_back one_list one_header one_plain before after text file plain given carries for is =
      let same : is.carried ≡ file = one_list text is.carried file is.carries carries in
      let got : IsFileOf seal_of is.file_key is.stanzas given file = subst (λ x. IsFileOf seal_of is.file_key is.stanzas given x) same is.is_file in
      let stanzas : is.stanzas ≡ for.stanzas = one_header is.file_key for.file_key is.stanzas for.stanzas given plain file got for.is_file in
      elim (for.right (Some (Ok is.file_key)) (alone_answers unwraps before for.stanzas (Some (Ok is.file_key)) after
      (subst (λ s. Unwraps unwraps before s (Some (Ok is.file_key)) after) stanzas is.given))) [
        | inl answer ↦
            let key : is.file_key ≡ for.file_key = same_key is.file_key for.file_key answer in
            one_plain for.file_key is.stanzas for.stanzas given plain file is.bytes for.bytes
            (subst (λ k. IsFileOf seal_of k is.stanzas given file) key got) for.is_file
        | inr none ↦ no_key is.file_key OutOfMemory none
      ]

  module _ (alone : ReadsAlone) (one : HasOneVerdict) (before after : I) (text file plain : List ℕ) (refusal : DecryptRefusal)
      (for : IsFileFor seal_of (FirstAnswer unwraps (before ∷ [])) plain file) (start_is : read_of text ≡ whole file) where
    abbrev f : IsFileOf seal_of for.file_key for.stanzas plain file
    f = for.is_file

    abbrev sealed : List ℕ
    sealed = payload seal_of (payload_key for.file_key f.nonce) plain

    begins : BeginsAsFile for.stanzas (header_mac for.file_key (covered_text for.stanzas)) f.nonce sealed (read_of text).bytes
    begins = subst (λ bytes. BeginsAsFile for.stanzas (header_mac for.file_key (covered_text for.stanzas)) f.nonce sealed bytes)
        (sym (ap (λ s. s.bytes) start_is)) (file_begins seal_of for.file_key for.stanzas plain file f)

    asked_none : RefusesAsked seal_of unwraps before text after refusal → refusal ≡ OutOfMemory
    asked_none asked =
        let h = asked.h in
        let (stanzas_are, mac_is, nonce_is, left, end) = reads_back alone one (read_of text) asked.left 0 asked.place h asked.nonce
        for.stanzas _ f.nonce sealed asked.front begins in
        let right : h.mac ≡ header_mac for.file_key (covered_text h.stanzas) =
        mac_is ∙ ap (λ s. header_mac for.file_key (covered_text s)) (sym stanzas_are) in
        let key : payload_key for.file_key f.nonce ≡ payload_key for.file_key asked.nonce = ap (λ n. payload_key for.file_key n) (sym nonce_is) in
        let all : asked.left ≡ whole (payload seal_of (payload_key for.file_key asked.nonce) plain) =
        stretch-ext asked.left (whole (payload seal_of (payload_key for.file_key asked.nonce) plain))
        (left ∙ ap (λ k. payload seal_of k plain) key) (end ∙ ap (λ s. s.ends_well) start_is) in
        elim (for.right asked.answer (alone_answers unwraps before for.stanzas asked.answer after
        (subst (λ s. Unwraps unwraps before s asked.answer after) stanzas_are asked.asked))) [
          | inl is ↦ elim (subst (λ a. RefusesRest seal_of text (decided a) h asked.nonce asked.left refusal) is asked.why) [
            | inl wrong ↦ absurd (wrong.0 right)
            | inr refuses ↦ elim (memory_or_not refuses.1.error) [
              | inl memory ↦ refuses.1.is ∙ ap (λ e. decrypt_refusal (decrypt_of_io e)) memory
              | inr other ↦ absurd (refuses.1.bad other plain for.bytes for.within (subst (λ k. LastIsNoMiddle seal_of k plain) key for.last) all)
            ]
          ]
          | inr is ↦ subst (λ a. RefusesRest seal_of text (decided a) h asked.nonce asked.left refusal) is asked.why
        ]

    none : RefusesDecrypting seal_of unwraps before text after refusal → refusal ≡ OutOfMemory
    none why = elim why [
      | inl (same, inl memory) ↦ memory
      | inl (same, inr lacks) ↦
          front_accepted alone one canonical _ for.stanzas _ f.nonce sealed 0 0 (read_of text) lacks.left 0 lacks.place refusal
          (begins_as for.stanzas _ f.nonce sealed (read_of text).bytes begins)
          (record { same = refl; below = omega arith }) lacks.why
      | inr asked ↦ asked_none asked
    ]

  pub refuses_none : ReadsAlone → HasOneVerdict → DeliversCarried → RefusesNone seal_of unwraps
  refuses_none alone one delivers before after text file plain refusal carries for why =
      none alone one before after text file plain refusal for (ap stretch_of (delivers text file carries)) why
