-- What is appended of a file that was cut between two of its chunks.
use Rattle.std.specs.Prelude.{◌≡◌, ◌⊎◌, ℕ, ◌*◌, ◌≤◌, false, List, [], ◌++◌, Option, length, take}
use Rattle.std.proofs.Common.{◌∙◌, sym, ap, subst, inl, inr}
use Rattle.age.specs.Copying.{AppendsFront}
use Rattle.age.specs.CopyingLemmas.{front-nothing}
use Rattle.age.specs.Decrypting.{ReadsFront}
use Rattle.age.specs.DeliveredPayload.{payload_delivers}
use Rattle.age.specs.File.{file_front}
use Rattle.age.specs.FileLaws.{ReadsBack}
use Rattle.age.specs.Header.{covered_text}
use Rattle.age.specs.HeaderMac.{header_mac}
use Rattle.age.specs.HeaderV1.{HeaderValue}
use Rattle.age.specs.Identities.{UnwrapAnswer, IsFileFor}
use Rattle.age.specs.Payload.{Seal, last_piece, payload, payload_key}
use Rattle.age.specs.PayloadLaws.{CutPayload}
use Rattle.age.specs.Stanza.{StanzaValue}
use Rattle.age.specs.Stretch.{Stretch, whole, stretch-ext}
use Rattle.age.specs.Texts.{UnderMac}
use Rattle.age_claims.proofs.Lengthened.{payload_key-bytes}
use Rattle.age_claims.proofs.SameFronts.{fronted}

-- a writer that stayed as it was was given a beginning of anything
pub nothing_or : {W X : Type 0} (appended : W → List ℕ → W → Type 0) (old new : W) (all : List ℕ) → appended old [] old
    → (X → AppendsFront appended all old new) → (new ≡ old) ⊎ X → AppendsFront appended all old new
nothing_or appended old new all none out (inl same) = front-nothing appended all old new (subst (λ w. appended old [] w) (sym same) none)
nothing_or appended old new all none out (inr x) = out x

module _ {W : Type 0} (appended : W → List ℕ → W → Type 0) (old new : W) (seal_of : Seal) (opened : List ℕ → List ℕ → List ℕ → Option (List ℕ))
    (cut : CutPayload seal_of opened) (back : ReadsBack) (answers : List StanzaValue → UnwrapAnswer → Type 0)
    (gives : List ℕ → List StanzaValue → Type 0) (plain file : List ℕ) (for : IsFileFor seal_of answers plain file)
    (keys : (key : List ℕ) → gives key for.stanzas → key ≡ for.file_key) (n : ℕ) (fewer : n ≤ last_piece (length plain)) where
  abbrev sealing : List ℕ
  sealing = payload_key for.file_key for.is_file.nonce

  abbrev rest : List ℕ
  rest = take (65552 * n) (payload seal_of sealing plain)

  abbrev bytes : List ℕ
  bytes = file_front for.file_key for.stanzas for.is_file.nonce ++ rest

  -- it is a beginning of the plaintext
  pub of_cut : (begins : HeaderValue → List ℕ → Stretch → Type 0) (start : Stretch) → start ≡ whole bytes
      → ((h : HeaderValue) (nonce : List ℕ) (left : Stretch) → begins h nonce left → (place : ℕ) × ReadsFront start left 0 place h nonce)
      → UnderMac begins gives (λ key left. AppendsFront appended (payload_delivers opened key 0 left).bytes old new)
      → AppendsFront appended (take (65536 * n) plain) old new
  of_cut begins start is front_of under =
      let (key, h, nonce, left, begun, given, mac, out) = under in
      let (place, read) = front_of h nonce left begun in
      let front : ReadsFront (whole bytes) left 0 place h nonce = subst (λ (s : Stretch). ReadsFront s left 0 place h nonce) is read in
      let (stanzas_are, mac_is, nonce_is, left_is, end) = back (whole bytes) left 0 place h nonce for.stanzas
      (header_mac for.file_key (covered_text for.stanzas)) for.is_file.nonce rest front
      (fronted seal_of for.file_key for.stanzas plain file rest for.is_file) in
      let key_is : key ≡ for.file_key = keys key (subst (λ (s : List StanzaValue). gives key s) stanzas_are given) in
      let left_whole : left ≡ whole rest = stretch-ext left (whole rest) left_is end in
      let delivers : payload_delivers opened (payload_key key nonce) 0 left ≡ record { bytes = take (65536 * n) plain; ends_well = false } =
      ap (λ k. payload_delivers opened (payload_key k nonce) 0 left) key_is
      ∙ ap (λ m. payload_delivers opened (payload_key for.file_key m) 0 left) nonce_is
      ∙ ap (λ (s : Stretch). payload_delivers opened sealing 0 s) left_whole
      ∙ cut sealing plain n (payload_key-bytes for.file_key for.is_file.nonce) for.bytes for.within fewer in
      subst (λ (s : Stretch). AppendsFront appended s.bytes old new) delivers out
