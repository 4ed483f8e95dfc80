-- Why a reader of a payload and a reader of a text refuse, told of the reader below.
use Rattle.std.specs.Prelude.{◌≡◌, ◌⊎◌, ℕ, ◌+◌, ◌<◌, true, List, ◌++◌, length, drop, Result, Ok, Err, IsErrAnd}
use Rattle.std.proofs.Common.{◌∙◌, sym, ap, subst, refl, inl, inr, arith, drop_at, length-append}
use Rattle.std.proofs.lemmas.List.{drop-drop}
use Rattle.age_error.specs.declared.io.Error.{Error}
use Rattle.age_error.specs.declared.io.Error.TheVariants.{Armor, BadEnd, Device, OutOfMemory, TooLong, UnexpectedEof}
use Rattle.age_error.specs.declared.io.ErrorKind.TheVariants.{Interrupted}
use Rattle.age_error.specs.DecryptErrors.{DecryptRefusal, Io, IfIoRefusal}
use Rattle.age_io.specs.declared.traits.Read.{Ghosts}
use Rattle.age_io.specs.Stretch.{Stretch, from_place, stretch-ext, whole}
use Rattle.age_io.specs.Reading.{AddsNoReason, Delivers, StandsIn, TriedAgain}
use Rattle.age_io.proofs.Retrying.{tried-more, tried-own}
use Rattle.age_armor.specs.Refusing.{IsOwnRefusal, OrText}
use Rattle.age_armor.specs.Seeking.{text_outcome}
use Rattle.age_v1.specs.Payload.{Seal}
use Rattle.age_v1.specs.PayloadRefusals.{StopsAt}
use Rattle.age_stream.specs.Keeping.{Stops}
use Rattle.age_format.specs.HeaderV1.{HeaderValue}
use Rattle.age_v1.specs.Header.{header_text}
use Rattle.age_v1.specs.DeliveredArmor.{Ending, Refused}
use Rattle.age_protocol.specs.Decrypting.{ReadsFront}
use Rattle.age_protocol.specs.WholeFiles.{RefusesReading}

-- from the reader of a payload to the reader of the text that it was in
pub from_stream : {S A : Type 0} (refuses : S → Error → Type 0) (below : A → Error → Type 0) (Own : Error → Type 0) (stream : S) (input text : A)
    (e : Error)
    → ((e : Error) → refuses stream e → Own e ⊎ TriedAgain below input e) → (Own (Device Interrupted) → ⊥)
    → AddsNoReason (TriedAgain below) text input → TriedAgain refuses stream e → Own e ⊎ TriedAgain below text e
from_stream refuses below Own stream input text e named patient narrows h =
    elim (tried-own below Own input e patient (tried-more refuses (λ r f. Own f ⊎ TriedAgain below r f) stream input named e h)) [
      | inl own ↦ inl own
      | inr inner ↦ inr (narrows e inner)
    ]

-- from the reader of a text to the reader that gives it
pub from_text : {A R : Type 0} (refuses : A → Error → Type 0) (read : Ghosts R) (text : A) (reader : R) (e : Error)
    → ((e : Error) → refuses text e → OrText read reader e) → TriedAgain refuses text e → OrText read reader e
from_text refuses read text reader e named h =
    tried-own read.refuses (IsOwnRefusal (read.tells reader) (read.steady reader) (text_outcome (read.content reader) (read.place reader)).ending)
    reader e (λ is. is)
    (tried-more refuses (OrText read) text reader named e h)

-- a reader that never refuses has no reason
no_reason : {R : Type 0} (r : R) (e : Error) → TriedAgain (λ _ _. ⊥) r e → ⊥
no_reason r e h = elim h [ inl plain ↦ plain.1 | inr worn ↦ worn.1 ]

-- why a text is refused that is told
own_fault : (ending : Ending) (e : Error) → IsOwnRefusal true true ending e → (e ≡ OutOfMemory) ⊎ (ending ≡ Refused e)
own_fault ending (Armor fault) h = inr (h refl refl)
own_fault ending OutOfMemory h = inl refl
own_fault ending UnexpectedEof h = inr (h refl refl)
own_fault ending TooLong h = absurd (h refl)
own_fault ending _ h = absurd h

-- from the reader of a text in memory, which never refuses
pub from_slice : {A R : Type 0} (refuses : A → Error → Type 0) (text : A) (bytes : R) (content : Stretch) (place : ℕ) (file : List ℕ) (e : Error)
    → content ≡ whole file → place ≡ 0
    → ((e : Error) → refuses text e → IsOwnRefusal true true (text_outcome content place).ending e ⊎ TriedAgain (λ _ _. ⊥) bytes e)
    → TriedAgain refuses text e → RefusesReading file e
from_slice refuses text bytes content place file e all front named h =
    let Own = IsOwnRefusal true true (text_outcome content place).ending in
    elim (tried-own (λ _ _. ⊥) Own bytes e (λ is. is) (tried-more refuses (λ r f. Own f ⊎ TriedAgain (λ _ _. ⊥) r f) text bytes named e h)) [
      | inl own ↦ rw (all, front) at (own_fault (text_outcome content place).ending e own)
      | inr none ↦ absurd (no_reason bytes e none)
    ]

-- what a reader of a text that hadn't failed has left, once some bytes were read
left-stands : (content rest left : Stretch) (place : ℕ) (front : List ℕ) → StandsIn content place rest → Delivers front rest left → 0 < length front
    → left ≡ from_place (place + length front) content
left-stands content rest left place front stands came some =
    elim stands.reaches [
      | inl is ↦
          let bytes : drop place content.bytes ≡ front ++ left.bytes = sym (ap (λ s. s.bytes) is) ∙ came.bytes in
          stretch-ext _ _
          (sym (drop_at front left.bytes (length front) refl) ∙ ap (drop (length front)) (sym bytes) ∙ drop-drop (length front) place content.bytes)
          (came.end ∙ ap (λ s. s.ends_well) is)
      | inr none ↦
          let gone = ap length (sym (ap (λ s. s.bytes) none) ∙ came.bytes) in
          absurd (omega (arith, gone, some, length-append front left.bytes))
    ]

-- after the header and the nonce the rest is that of the content
pub front-stands : (content rest left : Stretch) (place after : ℕ) (h : HeaderValue) (nonce : List ℕ) → StandsIn content place rest
    → ReadsFront rest left place after h nonce → from_place after content ≡ left
front-stands content rest left place after h nonce stands front =
    let took = front.took in
    let text = header_text h.stanzas h.mac in
    let some : 0 < length (text ++ nonce) = omega (arith, length-append text nonce, took.sixteen.len) in
    ap (λ n. from_place n content) took.moved ∙ sym (left-stands content rest left place (text ++ nonce) stands took.delivered some)

-- what is said of a payload is said of another name of it
pub stops-as : (seal_of : Seal) (key : List ℕ) (payload other : Stretch) (known told : Type 0) (e : Error) → (told → known) → (told → payload ≡ other)
    → Stops seal_of key payload known e → Stops seal_of key other told e
stops-as seal_of key payload other known told e by same stops = record {
  is = stops.is;
  named = λ t. subst (λ p. (e ≡ BadEnd) ⊎ ((number : ℕ) × StopsAt seal_of key p.bytes number e)) (same t) (stops.named (by t));
}

-- what holds of a reader's refusal
pub io_refusal_weaker : (Holds More : Error → Type 0) → ((e : Error) → Holds e → More e) → (refusal : DecryptRefusal) → IfIoRefusal Holds refusal
    → IfIoRefusal More refusal
io_refusal_weaker Holds More wider (Io e) h = wider e h
io_refusal_weaker Holds More wider _ h = tt

-- what holds of a refusal holds of a result that is this refusal
pub refused_as : {T E : Type 0} (Holds : Result T E → Type 0) (result : Result T E) (e : E) → IsErrAnd result (λ x. x ≡ e) → Holds (Err e)
    → Holds result
refused_as Holds (Ok x) e is h = absurd is
refused_as Holds (Err x) e is h = subst (λ y. Holds (Err y)) (sym is) h
