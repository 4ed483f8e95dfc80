-- What is appended of a payload stands in its plaintext, however bad the payload is.
use Rattle.std.specs.Prelude.{◌≡◌, ◌⊎◌, ℕ, ◌+◌, ◌<◌, ◌&&◌, Bool, true, IsTrue, List, [], length, take, drop, Some, Ok}
use Rattle.std.proofs.Common.{◌∙◌, refl, sym, ap, subst, inl, inr, arith, length-append, length-take, take-append-drop}
use Rattle.std.proofs.lemmas.List.{drop-drop, drop_at}
use Rattle.age_suite.specs.declared.suite.Suite.{Ghosts as SuiteMembers}
use Rattle.age_io.specs.declared.traits.Read.{Ghosts as ReadMembers}
use Rattle.age_io.specs.Stretch.{Stretch, from_place, stretch-ext}
use Rattle.age_io.specs.Reading.{Delivers}
use Rattle.age_v1.specs.DeliveredArmor.{text_delivers, stretch_of}
use Rattle.age_v1.proofs.DeliveredArmors.{content_of}
use Rattle.age_format.specs.HeaderV1.{HeaderValue}
use Rattle.age_v1.specs.Stanza.{StanzaValue}
use Rattle.age_v1.specs.Identities.{UnwrapAnswer, Unwraps, FirstThatAnswers}
use Rattle.age_protocol.specs.Decrypting.{ReadsFront}
use Rattle.age_v1.specs.PayloadAnswers.{StandAt, IsGoodEnd}
use Rattle.age_stream.specs.Reader.{key_of, payload_of}
use Rattle.age_stream.specs.ReadingLemmas.{and-left}
use Rattle.age_stream.specs.declared.reader.StreamReader.{StreamReader}
use Rattle.age_v1.proofs.StandingBytes.{stand-none}
use Rattle.age_stream.proofs.Remaining.{stand-front}
use Rattle.age_v1.specs.Payload.{Seal}
use Rattle.age_protocol.specs.Texts.{BeginsText, HasFront}
use Rattle.age_io.specs.Copying.{AppendsFront, AppendsSome}
use Rattle.age_protocol.specs.Opened.{IsOpened}
use Rattle.age_protocol.specs.Parts.{AppendsOf, StandsAt, IsPartAt}
use Rattle.age_protocol.proofs.Texts.{under_mac}

-- the same with other names
pub stand-moved : (seal_of : Seal) (key key' sealed sealed' : List ℕ) (place place' : ℕ) (bytes : List ℕ) → key' ≡ key → sealed' ≡ sealed
    → place' ≡ place
    → StandAt seal_of key' sealed' place' bytes → StandAt seal_of key sealed place bytes
stand-moved seal_of key key' sealed sealed' place place' bytes p q r stands =
    subst (λ (n : ℕ). StandAt seal_of key sealed n bytes) r
    (subst (λ (l : List ℕ). StandAt seal_of key l place' bytes) q (subst (λ (l : List ℕ). StandAt seal_of l sealed' place' bytes) p stands))

pub good-moved : (seal_of : Seal) (key key' : List ℕ) (sealed sealed' : Stretch) (place place' n : ℕ) → key' ≡ key → sealed' ≡ sealed → place' ≡ place
    → IsGoodEnd seal_of key' sealed' (place' + n) → IsGoodEnd seal_of key sealed (place + n)
good-moved seal_of key key' sealed sealed' place place' n p q r good =
    subst (λ (m : ℕ). IsGoodEnd seal_of key sealed (m + n)) r
    (subst (λ (s : Stretch). IsGoodEnd seal_of key s (place' + n)) q (subst (λ (l : List ℕ). IsGoodEnd seal_of l sealed' (place' + n)) p good))

module _ {W : Type 0} (seal_of : Seal) (appended : W → List ℕ → W → Type 0) (count place : ℕ) (key : List ℕ) (sealed : Stretch) where
  first-stand : (rest : List ℕ) → StandAt seal_of key sealed.bytes place rest → StandAt seal_of key sealed.bytes place (take count rest)
  first-stand rest stands =
      stand-front seal_of key sealed.bytes place (take count rest) (drop count rest)
      (subst (λ (l : List ℕ). StandAt seal_of key sealed.bytes place l) (sym (take-append-drop count rest)) stands)

  -- of what a reader has left
  pub standing : (rest : List ℕ) (old new : W) → StandAt seal_of key sealed.bytes place rest → AppendsFront appended (take count rest) old new
      → AppendsSome appended count (StandsAt seal_of place key sealed) old new
  standing rest old new stands front = record {
    out = front.front;
    most = omega (arith, ap length front.joined, length-append front.front front.after, length-take count rest);
    holds = stand-front seal_of key sealed.bytes place front.front front.after
        (subst (λ (l : List ℕ). StandAt seal_of key sealed.bytes place l) front.joined (first-stand rest stands));
    done = front.out;
  }

  pub standing-none : (w : W) → appended w [] w → AppendsSome appended count (StandsAt seal_of place key sealed) w w
  standing-none w none = record { out = []; most = omega arith; holds = stand-none seal_of key sealed.bytes place; done = none }

  -- and where nothing is missing
  pub given : (rest : Stretch) (old new : W) → StandAt seal_of key sealed.bytes place rest.bytes
      → (rest.ends_well ≡ true → IsGoodEnd seal_of key sealed (place + length rest.bytes))
      → appended old (take count rest.bytes) new × (length rest.bytes < count → IsTrue rest.ends_well)
      → AppendsSome appended count (IsPartAt seal_of place count key sealed) old new
  given rest old new stands good done =
      let long = length-take count rest.bytes in
      record {
        out = take count rest.bytes;
        most = omega (arith, long);
        holds = (
          first-stand rest.bytes stands,
          λ less.
              let same : length rest.bytes ≡ length (take count rest.bytes) = omega (arith, long, less) in
              subst (λ (n : ℕ). IsGoodEnd seal_of key sealed (place + n)) same (good (done.1 (omega (arith, long, less)))),
        );
        done = done.0;
      }

-- the same of equal things
some-same : {W A : Type 0} (appended : W → List ℕ → W → Type 0) (count : ℕ) (Holds : List ℕ → A → List ℕ → Type 0) (key key' : List ℕ) (a b : A)
    (old new : W)
    → key ≡ key' → a ≡ b → AppendsSome appended count (Holds key a) old new → AppendsSome appended count (Holds key' b) old new
some-same appended count Holds key key' a b old new p q some =
    subst (λ x. AppendsSome appended count (Holds key' x) old new) q (subst (λ (l : List ℕ). AppendsSome appended count (Holds l a) old new) p some)

-- what the content of a reader delivers
pub same-content : (a b : Stretch) (n m : ℕ) → a ≡ b → n ≡ m → content_of a n ≡ content_of b m
same-content a b n m p q = rw (p, q) refl

-- what is left of a text after its front is what its content has there
left-is : (content rest left : Stretch) (start place : ℕ) (front : List ℕ) → rest ≡ from_place start content → Delivers front rest left
    → place ≡ start + length front → from_place place content ≡ left
left-is content rest left start place front is delivers moved =
    stretch-ext (from_place place content) left
    (ap (λ n. drop n content.bytes) moved ∙ sym (drop-drop (length front) start content.bytes)
    ∙ ap (λ l. drop (length front) l) (sym (ap (λ s. s.bytes) is) ∙ delivers.bytes) ∙ drop_at front left.bytes (length front) refl)
    (sym (delivers.end ∙ ap (λ s. s.ends_well) is))

-- of the payload of a file that was opened in a text of which nothing was read yet
module _ {I S T W : Type 0} {suite : SuiteMembers S} {read : ReadMembers T} (unwraps : I → List StanzaValue → UnwrapAnswer → I → Type 0)
    (old new : List I) (text : T) (stream : StreamReader S T suite read) (appended : W → List ℕ → W → Type 0) (count : ℕ)
    (Holds : List ℕ → Stretch → List ℕ → Type 0) (before after : W) where
  pub opened-part : read.rest text ≡ from_place (read.place text) (read.content text) → IsTrue (read.tells text && read.steady text)
      → IsOpened unwraps old new text stream → AppendsSome appended count (Holds (key_of stream) (payload_of stream)) before after
      → AppendsOf (HasFront (read.rest text) (read.place text))
      (λ file_key stanzas. FirstThatAnswers (λ identity answer next. Unwraps unwraps identity stanzas answer next) old (Some (Ok file_key)) new)
      appended count Holds before after
  opened-part fresh told made some =
      let tells = and-left (read.tells text) (read.steady text) told in
      let input = made.input in
      let front = made.asks.front tells in (
        made.file_key,
        made.h,
        made.nonce,
        read.rest input,
        (_, front),
        made.asks.first,
        made.opens.right,
        some-same appended count Holds (key_of stream) _ (payload_of stream) (read.rest input) before after made.opens.reader.same_key
            (made.opens.reader.sealed ∙ ap (λ (s : Stretch). from_place (read.place input) s) (made.asks.same.content tells)
            ∙ left-is (read.content text) (read.rest text) (read.rest input) (read.place text)
            (read.place input) _ fresh front.took.delivered front.took.moved)
            some,
      )

-- the text may be said to begin in another way, and the file key to be given in another
module _ {W : Type 0} (begins other : HeaderValue → List ℕ → Stretch → Type 0) (gives by : List ℕ → List StanzaValue → Type 0)
    (appended : W → List ℕ → W → Type 0) (count : ℕ) (Holds : List ℕ → Stretch → List ℕ → Type 0) (old new : W)
    (so : (h : HeaderValue) (nonce : List ℕ) (left : Stretch) → begins h nonce left → other h nonce left)
    (given_so : (key : List ℕ) (stanzas : List StanzaValue) → gives key stanzas → by key stanzas) where
  pub begun : AppendsOf begins gives appended count Holds old new → AppendsOf other by appended count Holds old new
  begun some =
      let Appends = λ (key : List ℕ) (sealed : Stretch). AppendsSome appended count (Holds key sealed) old new in
      under_mac begins other so gives by Appends Appends given_so (λ key sealed holds. holds) some

  pub begun-or : (new ≡ old) ⊎ AppendsOf begins gives appended count Holds old new → (new ≡ old) ⊎ AppendsOf other by appended count Holds old new
  begun-or (inl none) = inl none
  begun-or (inr some) = inr (begun some)

-- ---- a text in memory

-- a text that was read from nowhere yet stands before its content
pub fresh-text : (rest content start : Stretch) (place : ℕ) → rest ≡ start → content ≡ start → place ≡ 0 → rest ≡ from_place place content
fresh-text rest content start place p q r = p ∙ sym (ap (λ n. from_place n content) r ∙ ap (λ s. from_place 0 s) q)

pub begins-same : (a b : Stretch) (n : ℕ) → a ≡ b → n ≡ 0 → (h : HeaderValue) (nonce : List ℕ) (left : Stretch) → HasFront a n h nonce left
    → HasFront b 0 h nonce left
begins-same a b n p q h nonce left begins =
    subst (λ (s : Stretch). HasFront s 0 h nonce left) p (subst (λ (m : ℕ). HasFront a m h nonce left) q begins)

-- what was read to its end begins as the reader's text does
pub begins-read : {R : Type 0} (tells : R → Bool) (rest : R → Stretch) (reader : R) (input : List ℕ) → input ≡ (rest reader).bytes
    → (rest reader).ends_well ≡ true
    → (h : HeaderValue) (nonce : List ℕ) (left : Stretch) → HasFront (stretch_of (text_delivers input true)) 0 h nonce left
    → BeginsText tells rest reader h nonce left
begins-read tells rest reader input bytes well h nonce left begins = record {
  place = begins.0;
  front = λ told.
      subst (λ (w : Bool). ReadsFront (stretch_of (text_delivers (rest reader).bytes w)) left 0 begins.0 h nonce) (sym well)
      (subst (λ (l : List ℕ). ReadsFront (stretch_of (text_delivers l true)) left 0 begins.0 h nonce) bytes begins.1);
}
