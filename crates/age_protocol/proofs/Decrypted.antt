-- What a refusal says of the identities and of the text.
use Rattle.std.specs.Prelude.{◌≡◌, ◌⊎◌, ◌≤◌, ◌<◌, ℕ, Bool, ◌&&◌, IsTrue, List, Result, Ok, Err, IfErr}
use Rattle.std.proofs.Common.{◌∙◌, inl, inr, subst}
use Rattle.age_error.specs.declared.decrypt.DecryptError.{DecryptError}
use Rattle.age_error.specs.DecryptErrors.{DecryptRefusal, decrypt_refusal}
use Rattle.age_io.specs.declared.traits.Read.{Ghosts, Ghosts as ReadMembers}
use Rattle.age_io.specs.Stretch.{Stretch}
use Rattle.age_v1.specs.DeliveredArmor.{text_delivers, stretch_of}
use Rattle.age_protocol.specs.Decrypting.{ReadsFront, RefusesFront, WhyNoFront}
use Rattle.age_error.specs.FileErrors.{DecryptsUnless}
use Rattle.age_protocol.specs.Texts.{RefusesKey, RefusesText, BeginsText}
use Rattle.age_error.specs.declared.file.FileError.{FileError}
use Rattle.age_error.specs.declared.file.FileError.TheVariants.{Io, Encrypt, Decrypt}
use Rattle.age_format.specs.HeaderV1.{HeaderValue}
use Rattle.age_v1.specs.HeaderTexts.{canonical}
use Rattle.age_suite.specs.declared.suite.Suite.{Ghosts as SuiteMembers}
use Rattle.age_stream.specs.declared.reader.StreamReader.{StreamReader}
use Rattle.age_protocol.specs.OpeningFile.{AnswersReader}

module _ {S R : Type 0} {suite : SuiteMembers S} {read : ReadMembers R} where
  -- a refusal after an identity has decided has its cause
  pub refused_key : (key : Result (List ℕ) DecryptRefusal) (h : HeaderValue) (nonce : List ℕ) (input : R)
      (result : Result (StreamReader S R suite read) DecryptError) → AnswersReader key h nonce input result
      → IfErr result (λ e. RefusesKey key h (decrypt_refusal e))
  refused_key (Err own) h nonce input (Ok r) d = tt
  refused_key (Err own) h nonce input (Err e) d = d
  refused_key (Ok key) h nonce input (Ok r) d = tt
  refused_key (Ok key) h nonce input (Err e) (inl wrong) = inl wrong
  refused_key (Ok key) h nonce input (Err e) (inr right) = inr right

-- two facts that stay stay together
pub both_told : (a b a' b' : Bool) → a' ≡ a → b' ≡ b → IsTrue (a && b) → IsTrue (a' && b')
both_told a b a' b' p q t = rw (p, q) t

-- why what a text delivers doesn't begin as a file, said of the reader that gives the text
pub refuses_text : {A R : Type 0} (read : Ghosts A) (r_tells : R → Bool) (r_rest : R → Stretch) (r_faults : R → ℕ) (text last : A)
    (reader r_last : R) (e : DecryptRefusal)
    → read.tells text ≡ r_tells reader → read.faults text ≡ r_faults reader → read.faults last ≡ r_faults r_last → read.place text ≡ 0
    → read.rest text ≡ stretch_of (text_delivers (r_rest reader).bytes (r_rest reader).ends_well)
    → RefusesFront canonical read text last e → RefusesText r_tells r_rest r_faults reader r_last e
refuses_text read r_tells r_rest r_faults text last reader r_last e told old_faults new_faults start is refuses = record {
  no_fewer_faults = subst (λ (n : ℕ). n ≤ r_faults r_last) old_faults (subst (λ (n : ℕ). read.faults text ≤ n) new_faults refuses.same.faults);
  device = λ d. subst (λ (n : ℕ). n < r_faults r_last) old_faults (subst (λ (n : ℕ). read.faults text < n) new_faults (refuses.device d));
  left = read.rest last;
  place = read.place last;
  why = λ tells_text.
      let delivers = stretch_of (text_delivers (r_rest reader).bytes (r_rest reader).ends_well) in
      let by_text : WhyNoFront canonical (read.faults text) (read.faults last) delivers (read.rest last) (read.place text) (read.place last) e =
      subst (λ (s : Stretch). WhyNoFront canonical (read.faults text) (read.faults last) s (read.rest last) (read.place text) (read.place last) e)
      is (refuses.why (told ∙ tells_text)) in
      let by_place : WhyNoFront canonical (read.faults text) (read.faults last) delivers (read.rest last) 0 (read.place last) e =
      subst (λ (p : ℕ). WhyNoFront canonical (read.faults text) (read.faults last) delivers (read.rest last) p (read.place last) e) start by_text in
      let by_faults : WhyNoFront canonical (r_faults reader) (read.faults last) delivers (read.rest last) 0 (read.place last) e =
      subst (λ (n : ℕ). WhyNoFront canonical n (read.faults last) delivers (read.rest last) 0 (read.place last) e) old_faults by_place in
      subst (λ (n : ℕ). WhyNoFront canonical (r_faults reader) n delivers (read.rest last) 0 (read.place last) e) new_faults by_faults;
}

-- and so is the header that was read
pub begins_text : {R : Type 0} (r_tells : R → Bool) (r_rest : R → Stretch) (reader : R) (h : HeaderValue) (nonce : List ℕ)
    (tells : Bool) (start left : Stretch) (start_place place : ℕ) → tells ≡ r_tells reader → start_place ≡ 0
    → start ≡ stretch_of (text_delivers (r_rest reader).bytes (r_rest reader).ends_well)
    → (IsTrue tells → ReadsFront start left start_place place h nonce) → BeginsText r_tells r_rest reader h nonce left
begins_text r_tells r_rest reader h nonce tells start left start_place place told at_front is front = record {
  place = place;
  front = λ tells_text.
      let by_place : ReadsFront start left 0 place h nonce =
      subst (λ (p : ℕ). ReadsFront start left p place h nonce) at_front (front (told ∙ tells_text)) in
      subst (λ (s : Stretch). ReadsFront s left 0 place h nonce) is by_place;
}

-- what follows from each cause follows
pub by_cause : {A B C : Type 0} → (A → C) → (B → C) → A ⊎ B → C
by_cause f g (inl a) = f a
by_cause f g (inr b) = g b

-- a refusal of decryption says what follows from what it says
pub decrypts_weaker : (P Q : DecryptRefusal → Type 0) → ((refusal : DecryptRefusal) → P refusal → Q refusal) → (e : FileError)
    → DecryptsUnless P e → DecryptsUnless Q e
decrypts_weaker P Q f (Decrypt e) d = f (decrypt_refusal e) d
decrypts_weaker P Q f (Io e) d = tt
decrypts_weaker P Q f (Encrypt e) d = d
