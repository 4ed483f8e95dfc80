-- A file whose payload was read by its chunks.
use Rattle.std.proofs.Common.{◌≡◌, ◌∙◌, ◌⊎◌, sym, ap, subst, inl, inr, ℕ, ◌≤◌, List, ◌++◌, length, drop, drop_at, append_assoc, length-append, arith}
use Rattle.std.specs.Prelude.{Bool, true, false, Option, Some, None, Ok, Err}
use Rattle.age.specs.Bytes.{AreBytes, AreBytesOf}
use Rattle.age.specs.DeliveredPayload.{payload_delivers}
use Rattle.age.specs.File.{BeginsAsFile, IsFileOf, file_front, file_text}
use Rattle.age.specs.Payload.{payload_key, Seal, payload}
use Rattle.age.specs.Header.{covered_text, header_text}
use Rattle.age.specs.HeaderMac.{header_mac}
use Rattle.age.specs.Stanza.{StanzaValue}
use Rattle.age.specs.PayloadLaws.{OpensToPayload, PayloadOpens}
use Rattle.age.specs.Stretch.{Stretch, whole}
use Rattle.age.specs.DecryptErrorVariants as decrypt
use Rattle.age.specs.ErrorVariants as io
use Rattle.age.specs.FileErrorVariants as files
use Rattle.age.specs.Identities.{FirstAnswer, IsFileFor, UnwrapAnswer}
use Rattle.age.specs.Types.{DecryptError, Error}
use Rattle.age_slices.specs.Opening.{IsPayloadAt, OpensHeader}
use Rattle.age_slices.specs.Reading.{ReadsByChunks}
use Rattle.age_slices.specs.declared.opening.PayloadAt.{PayloadAt}

-- the front of a file, and what follows it
pub front_and_more : (file_key : List ℕ) (stanzas : List StanzaValue) (nonce more file : List ℕ)
    → BeginsAsFile stanzas (header_mac file_key (covered_text stanzas)) nonce more file → file ≡ file_front file_key stanzas nonce ++ more
unfolding file_front
front_and_more file_key stanzas nonce more file begins =
    begins.whole ∙ sym (append_assoc (header_text stanzas (header_mac file_key (covered_text stanzas))) nonce more)

module _ (file_key : List ℕ) (stanzas : List StanzaValue) (file : List ℕ) (found : PayloadAt) (at : IsPayloadAt file_key stanzas file found) where
  pub within : found.place ≤ length file
  within =
      let is = front_and_more file_key stanzas at.nonce at.more file at.begins in
      omega (arith, at.place, ap length is, length-append (file_front file_key stanzas at.nonce) at.more)

  pub left : drop found.place file ≡ at.more
  left =
      let is = front_and_more file_key stanzas at.nonce at.more file at.begins in
      ap (λ f. drop found.place f) is ∙ drop_at (file_front file_key stanzas at.nonce) at.more found.place (sym at.place)

  -- what was read to the last chunk is the plaintext of the file
  pub is_file : (seal_of : Seal) (opened : List ℕ → List ℕ → List ℕ → Option (List ℕ)) → OpensToPayload seal_of opened → AreBytesOf 32 found.key
      → AreBytes (drop found.place file) → (plain : List ℕ) → payload_delivers opened found.key 0 (whole (drop found.place file)) ≡ whole plain
      → IsFileOf seal_of file_key stanzas plain file
  unfolding file_text
  is_file seal_of opened opens_to of_key bytes plain read =
      let stretch = opens_to found.key (whole (drop found.place file)) plain of_key bytes read in
      let sealed : drop found.place file ≡ payload seal_of found.key plain = ap (λ (s : Stretch). s.bytes) stretch in
      let more : at.more ≡ payload seal_of (payload_key file_key at.nonce) plain = sym left ∙ sealed ∙ ap (λ k. payload seal_of k plain) at.key in
      record {
        nonce = at.nonce;
        header = at.begins.header;
        rule = at.begins.rule;
        sixteen = at.begins.sixteen;
        whole = front_and_more file_key stanzas at.nonce at.more file at.begins ∙ ap (λ m. file_front file_key stanzas at.nonce ++ m) more;
      }

none_told : {X : Type 0} (found : PayloadAt) → Path (Option PayloadAt) None (Some found) → X
none_told found is = absurd (Prim.cc)

same_told : (found other : PayloadAt) → Path (Option PayloadAt) (Some found) (Some other) → found ≡ other
same_told found other is = cc

true_false : {X : Type 0} → Path Bool false true → X
true_false is = absurd (Prim.cc)

module _ {I : Type 0} (unwraps : I → List StanzaValue → UnwrapAnswer → I → Type 0) (seal_of : Seal)
    (opened : List ℕ → List ℕ → List ℕ → Option (List ℕ)) (identities asked : List I) (file : List ℕ) where
  begins_for : (plain : List ℕ) (for : IsFileFor seal_of (FirstAnswer unwraps identities) plain file)
      → BeginsAsFile for.stanzas (header_mac for.file_key (covered_text for.stanzas)) for.is_file.nonce
      (payload seal_of (payload_key for.file_key for.is_file.nonce) plain) file
  unfolding file_text file_front
  begins_for plain for = record {
    header = for.is_file.header;
    rule = for.is_file.rule;
    sixteen = for.is_file.sixteen;
    whole = for.is_file.whole ∙ append_assoc (header_text for.stanzas (header_mac for.file_key (covered_text for.stanzas))) for.is_file.nonce
        (payload seal_of (payload_key for.file_key for.is_file.nonce) plain);
  }

  pub refused_short : OpensHeader unwraps identities asked file (Ok None)
      → ReadsByChunks unwraps seal_of identities asked file (Err (files.Decrypt (decrypt.Io io.UnexpectedEof)))
  refused_short told = record {
    success = tt;
    honest = λ plain for. none_told _ (told.honest for.file_key for.stanzas for.is_file.nonce _ (begins_for plain for) for.right);
  }

  pub refused_header : (e : DecryptError) → OpensHeader unwraps identities asked file (Err e)
      → ReadsByChunks unwraps seal_of identities asked file (Err (files.Decrypt e))
  refused_header e told = record {
    success = tt;
    honest = λ plain for. told.honest for.file_key for.stanzas for.is_file.nonce _ (begins_for plain for) for.right;
  }

  pub place_within : (found : PayloadAt) → OpensHeader unwraps identities asked file (Ok (Some found)) → found.place ≤ length file
  place_within found told =
      let (file_key, stanzas, answers, at) = told.success in
      within file_key stanzas file found at

  module _ (found : PayloadAt) (told : OpensHeader unwraps identities asked file (Ok (Some found))) (of_key : AreBytesOf 32 found.key)
      (sealed : List ℕ) (is : sealed ≡ drop found.place file) where
    read_for : PayloadOpens seal_of opened → (plain : List ℕ) → IsFileFor seal_of (FirstAnswer unwraps identities) plain file
        → payload_delivers opened found.key 0 (whole sealed) ≡ whole plain
    read_for opens plain for =
        let nonce = for.is_file.nonce in
        let more = payload seal_of (payload_key for.file_key nonce) plain in
        let own = same_told found _ (told.honest for.file_key for.stanzas nonce more (begins_for plain for) for.right) in
        let key : found.key ≡ payload_key for.file_key nonce = ap (λ (x : PayloadAt). x.key) own in
        let place : found.place ≡ length (file_front for.file_key for.stanzas nonce) = ap (λ (x : PayloadAt). x.place) own in
        let left : sealed ≡ more = is ∙ ap (λ f. drop found.place f) (front_and_more for.file_key for.stanzas nonce more file (begins_for plain for))
        ∙ drop_at (file_front for.file_key for.stanzas nonce) more found.place (sym place) in
        ap (λ k. payload_delivers opened k 0 (whole sealed)) key ∙ ap (λ s. payload_delivers opened (payload_key for.file_key nonce) 0 (whole s)) left
        ∙ opens (payload_key for.file_key nonce) plain (subst (λ k. AreBytesOf 32 k) key of_key) for.bytes for.within for.last

    pub done : OpensToPayload seal_of opened → PayloadOpens seal_of opened → AreBytes sealed → (plain : List ℕ)
        → payload_delivers opened found.key 0 (whole sealed) ≡ whole plain → ReadsByChunks unwraps seal_of identities asked file (Ok plain)
    done opens_to opens bytes plain read =
        let (file_key, stanzas, answers, at) = told.success in
        let there : payload_delivers opened found.key 0 (whole (drop found.place file)) ≡ whole plain = subst
        (λ s. payload_delivers opened found.key 0 (whole s) ≡ whole plain) is read in record {
          success = (
            file_key,
            stanzas,
            answers,
            is_file file_key stanzas file found at seal_of opened opens_to of_key (subst (λ s. AreBytes s) is bytes) plain there,
          );
          honest = λ other for. ap (λ (s : Stretch). s.bytes) (sym read ∙ read_for opens other for);
        }

    pub failed : PayloadOpens seal_of opened → (e : Error)
        → (e ≡ io.OutOfMemory) ⊎ ((payload_delivers opened found.key 0 (whole sealed)).ends_well ≡ false)
        → ReadsByChunks unwraps seal_of identities asked file (Err (files.Io e))
    failed opens e (inl memory) = record { success = tt; honest = λ plain for. memory }
    failed opens e (inr bad) = record {
      success = tt;
      honest = λ plain for. true_false (sym bad ∙ ap (λ (s : Stretch). s.ends_well) (read_for opens plain for));
    }
