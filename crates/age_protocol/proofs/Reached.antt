-- The reader of a file's payload stands before the plaintext.
use Rattle.std.specs.Prelude.{◌≡◌, ◌⊎◌, ℕ, true, false, List, IsTrue}
use Rattle.std.proofs.Common.{◌∙◌, sym, ap, subst, inl, inr}
use Rattle.age_suite.specs.declared.suite.Suite.{Ghosts as SuiteGhosts}
use Rattle.age_io.specs.declared.traits.Read.{Ghosts}
use Rattle.age_io.specs.Stretch.{Stretch, whole, nothing, from_place, stretch-ext}
use Rattle.age_io.specs.Reading.{StandsIn}
use Rattle.age_v1.specs.DeliveredPayload.{payload_delivers}
use Rattle.age_v1.specs.Payload.{payload, LastIsNoMiddle, payload_key}
use Rattle.age_stream.specs.ReadingLemmas.{and-left, and-right}
use Rattle.age_protocol.specs.Laws.{FileOpens, FileIsContent}

-- a stretch that ends well is what stands from the place on
reached : (content rest : Stretch) (place : ℕ) (bytes : List ℕ) → rest ≡ whole bytes → (rest ≡ from_place place content) ⊎ (rest ≡ nothing)
    → from_place place content ≡ rest
reached content rest place bytes is (inl stands) = sym stands
reached content rest place bytes is (inr none) =
    let well : true ≡ false = sym (ap (λ s. s.ends_well) is) ∙ ap (λ s. s.ends_well) none in
    absurd (Prim.cc)

module _ {S R : Type 0} (suite : SuiteGhosts S) (read : Ghosts R) where
  -- given what every reader keeps to, and what is left of a file
  pub content : ((r : R) → IsTrue (read.tells r) → IsTrue (read.steady r) → StandsIn (read.content r) (read.place r) (read.rest r))
      → FileOpens suite.seal_of → FileIsContent suite read
  content stands opens start start_place h nonce file_key stanzas plain input r front file bytes within last well told opened =
      let key = payload_key file_key nonce in
      let (stanzas_are, right, nonce_is, left, end) =
      opens start (read.rest input) start_place (read.place input) h nonce file_key stanzas plain front file in
      let rest : read.rest input ≡ whole (payload suite.seal_of key plain) =
      stretch-ext (read.rest input) (whole (payload suite.seal_of key plain)) left (end ∙ well) in
      let reader = opened.reader in
      let here = reader.honest plain bytes within
      (subst (λ n. LastIsNoMiddle suite.seal_of (payload_key file_key n) plain) (sym nonce_is) last) rest in
      let whole_inner = reached (read.content input) (read.rest input) (read.place input) (payload suite.seal_of key plain) rest
      (stands input (and-left _ _ told) (and-right _ _ told)).reaches in
      record {
        good = reader.good;
        unsought = reader.unsought;
        content = reader.content ∙ ap (λ s. payload_delivers suite.opened key 0 s) whole_inner ∙ sym reader.rest ∙ here;
        place = reader.place;
        rest = here;
      }
