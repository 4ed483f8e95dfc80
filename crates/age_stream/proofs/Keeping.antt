-- Steps that keep the payload, and what they are to a caller of the reader.
use Rattle.std.specs.Prelude.{◌≡◌, ℕ, ◌&&◌, ◌⊎◌, Bool, true, false, IsTrue, Result, IsErrAnd, OnOk, Ok, Err}
use Rattle.std.proofs.Common.{ap, ◌∙◌, refl, sym, subst, inl, inr}
use Rattle.age_error.specs.Refusals.{IsDevice}
use Rattle.age_error.specs.declared.io.Error.{Error}
use Rattle.age_error.specs.declared.io.Error.TheVariants.{Failed, BadEnd, BeforeStart, PastEnd}
use Rattle.age_suite.specs.declared.suite.Suite.{Ghosts as SuiteGhosts}
use Rattle.age_io.specs.declared.traits.Read.{Ghosts}
use Rattle.age_io.specs.Reading.{AddsNoReason, TriedAgain}
use Rattle.age_io.specs.Keeping.{SameReader, KeepsReader}
use Rattle.age_io.proofs.Keeping.{keeps-done, keeps-refused, keeps-later, keeps-more}
use Rattle.age_stream.specs.declared.reader.StreamReader.{StreamReader}
use Rattle.age_v1.specs.DeliveredPayload.{payload_delivers}
use Rattle.age_v1.specs.PayloadRefusals.{StopsAt}
use Rattle.age_stream.specs.Reader.{payload_of, tells_of, steady_of, content_of, stops_of, refuses_of}
use Rattle.age_stream.specs.declared.source.Source.{Source}
use Rattle.age_stream.specs.Reading.{payload_from, tells_from}
use Rattle.age_stream.specs.Keeping.{OwnOrInner}
use Rattle.age_stream.specs.PrivateKeeping.{IsLost, IsPayloadSeekRefusal, KeepsPayload}
use Rattle.std.proofs.lemmas.Bool.{true≢false}
use Rattle.age_stream.proofs.Sound.{same-steady}

-- a refusal that the reader below has no part in
pub own-refusal : (below : Error → Type 0) (e : Error) → IsPayloadSeekRefusal (λ _. ⊥) e → IsPayloadSeekRefusal below e
own-refusal below e h = elim h [
  | inl seek ↦ elim seek [ inl out ↦ inl (inl out) | inr more ↦ elim more [ inl long ↦ inl (inr (inl long)) | inr none ↦ absurd none ] ]
  | inr payload ↦ inr payload
]

-- what is told of a refusal of the reader below is itself, or that the end is bad
lost-is : (e answer : Error) → IsLost e answer → (answer ≡ BadEnd) ⊎ (answer ≡ e)
lost-is BeforeStart answer lost = inl (lost.bad tt)
lost-is PastEnd answer lost = inl (lost.bad tt)
lost-is _ answer lost = inr (lost.same (λ outside. outside))

-- an error that is handed on
pub err-is : {T E : Type 0} (result : Result T E) (e : E) → IsErrAnd result (λ x. x ≡ e) → result ≡ Err e
err-is (Err x) e is = ap (λ x. Err x) is
err-is (Ok x) e is = absurd is

-- what a refusal keeps of a reader, where it is handed on
pub kept-handed : {R T : Type 0} {read : Ghosts R} {Refuses : R → Error → Type 0} (old new : R) (result : Result T Error) (e : Error)
    → IsErrAnd result (λ x. x ≡ e) → KeepsReader {T = T} read Refuses old new (Err e) → KeepsReader read Refuses old new result
kept-handed {R} {T} {read} {Refuses} old new result e is keeps =
    subst (λ r. KeepsReader {T = T} read Refuses old new r) (sym (err-is result e is)) keeps

module _ {R : Type 0} (read : Ghosts R) where
  -- a reader that tells its bytes, and stays with them, still does
  pub told-later : (a b : R) → SameReader read a b → IsTrue (read.tells a && read.steady a) → IsTrue (read.tells b && read.steady b)
  told-later a b same told = rw (same.tells, same.steady) told

  pub told-before : (a b : R) → SameReader read a b → IsTrue (read.tells b && read.steady b) → IsTrue (read.tells a && read.steady a)
  told-before a b same told = rw (same.tells, same.steady) at told

  -- a state that adds no reason to the inner reader's adds none to all
  pub own-narrows : (Own : Error → Type 0) (a b : R) → AddsNoReason (TriedAgain read.refuses) a b → AddsNoReason (OwnOrInner read Own) a b
  own-narrows Own a b fewer e h = elim h [ inl own ↦ inl own | inr inner ↦ inr (fewer e inner) ]

module _ {R : Type 0} {read : Ghosts R} (a b : Source R read) where
  module _ {Own : Error → Type 0} where
    -- a read of the inner reader that was tried again, after which the payload is the same
    pub payload-filled : {T U : Type 0} {x : T} {y : U} → (IsTrue (tells_from a) → payload_from b ≡ payload_from a) →
        KeepsReader read (TriedAgain read.refuses) a.inner b.inner (Ok x) → KeepsPayload Own a b (Ok y)
    payload-filled same keeps =
        record { inner = keeps-done read (OwnOrInner read Own) a.inner b.inner keeps.same keeps.narrows; payload = same }

    pub payload-asked : {T U : Type 0} (e : Error) → (IsTrue (tells_from a) → payload_from b ≡ payload_from a) →
        KeepsReader {T = T} read (TriedAgain read.refuses) a.inner b.inner (Err e) → KeepsPayload {T = U} Own a b (Err e)
    payload-asked e same keeps =
        record {
          inner = record { same = keeps.same; device = keeps.device; patient = keeps.patient; why = inr keeps.why; narrows = tt };
          payload = same;
        }

    -- what a success keeps, whatever it gives
    pub payload-done : {T U : Type 0} {x : T} {y : U} → KeepsPayload Own a b (Ok x) → KeepsPayload Own a b (Ok y)
    payload-done keeps =
        record { inner = keeps-done read (OwnOrInner read Own) a.inner b.inner keeps.inner.same keeps.inner.narrows; payload = keeps.payload }

    -- what a refusal keeps, whatever the call gives otherwise
    pub payload-refused : {T U : Type 0} (e : Error) → KeepsPayload {T = T} Own a b (Err e) → KeepsPayload {T = U} Own a b (Err e)
    payload-refused e keeps =
        record {
          inner = record { same = keeps.inner.same; device = keeps.inner.device; patient = keeps.inner.patient; why = keeps.inner.why; narrows = tt };
          payload = keeps.payload;
        }

    -- and where it is handed on
    pub payload-handed : {T U : Type 0} (result : Result U Error) (e : Error) → IsErrAnd result (λ x. x ≡ e) →
        KeepsPayload {T = T} Own a b (Err e) → KeepsPayload Own a b result
    payload-handed result e is keeps = subst (λ r. KeepsPayload Own a b r) (sym (err-is result e is)) (payload-refused e keeps)

    -- a step, and then a refusal of this kind that isn't the device's
    pub payload-ended : {T U : Type 0} {result : Result T Error} (e : Error) → KeepsPayload Own a b result →
        (IsDevice e → ⊥) → Own e → KeepsPayload {T = U} Own a b (Err e)
    payload-ended e keeps other own =
        record { inner = keeps-refused read (OwnOrInner read Own) a.inner b.inner e keeps.inner.same other (inl own); payload = keeps.payload }

    -- two steps are one
    pub payload-later : {T U : Type 0} {x : T} (result : Result U Error) (c : Source R read) →
        KeepsPayload Own a b (Ok x) → KeepsPayload Own b c result → KeepsPayload Own a c result
    payload-later result c one two =
        record {
          inner = keeps-later read (OwnOrInner read Own) result a.inner b.inner c.inner one.inner.same one.inner.narrows
              (own-narrows read Own a.inner b.inner one.inner.narrows) two.inner;
          payload = λ told. two.payload (told-later read a.inner b.inner one.inner.same told) ∙ one.payload told;
        }

  -- the same step, of which more may be the reason
  pub payload-more : {T : Type 0} {Own More : Error → Type 0} (result : Result T Error) → ((e : Error) → Own e → More e) →
      KeepsPayload Own a b result → KeepsPayload More a b result
  payload-more result wider keeps =
      record {
        inner = keeps-more read _ (OwnOrInner read _) result a.inner b.inner
            (λ e h. elim h [ inl own ↦ inl (wider e own) | inr inner ↦ inr inner ]) keeps.inner;
        payload = keeps.payload;
      }

  -- a read was refused, and told so by a seek
  pub payload-lost : {T U : Type 0} (below : Error → Type 0) (e answer : Error) → IsLost e answer →
      KeepsPayload {T = T} (λ _. ⊥) a b (Err e) → KeepsPayload {T = U} (IsPayloadSeekRefusal below) a b (Err answer)
  payload-lost below e answer lost keeps =
      record {
        inner = record {
          same = keeps.inner.same;
          device = λ is. keeps.inner.device (lost.device is);
          patient = λ is. keeps.inner.patient (lost.patient is);
          why = elim (lost-is e answer lost) [
            | inl bad ↦ inl (inr (inl bad))
            | inr same ↦ elim keeps.inner.why [ inl none ↦ absurd none | inr tried ↦ inr (rw same tried) ]
          ];
          narrows = tt;
        };
        payload = keeps.payload;
      }

module _ {S R : Type 0} {suite : SuiteGhosts S} {read : Ghosts R} where
  -- the reader's content is the same
  pub content-kept : {T : Type 0} {Own : Error → Type 0} {result : Result T Error} (old new : StreamReader S R suite read) →
      KeepsPayload Own old.source new.source result → new.key ≡ old.key → IsTrue (tells_of old)
      → content_of new ≡ content_of old
  content-kept old new keeps key told =
      ap (λ p. payload_delivers suite.opened new.key 0 p) (keeps.payload told) ∙ ap (λ k. payload_delivers suite.opened k 0 (payload_of old)) key

  -- so it is the same reader
  pub stream-kept : {T : Type 0} {Own : Error → Type 0} {result : Result T Error} (old new : StreamReader S R suite read) →
      KeepsPayload Own old.source new.source result → new.key ≡ old.key →
      (tells_of new ≡ tells_of old) × (steady_of new ≡ steady_of old)
  stream-kept old new keeps key = (
    rw (keeps.inner.same.tells, keeps.inner.same.steady) refl,
    same-steady (read.tells old.source.inner) (read.steady old.source.inner) (content_of old).ends_well (read.tells new.source.inner) (read.steady
        new.source.inner)
        (content_of new).ends_well
        keeps.inner.same.tells keeps.inner.same.steady (λ told. ap (λ d. d.ends_well) (content-kept old new keeps key told)),
  )

  -- what is said of the payload after a step was said of it before
  pub stops-kept : {T : Type 0} {Own : Error → Type 0} {result : Result T Error} (old new : StreamReader S R suite read) →
      KeepsPayload Own old.source new.source result → new.key ≡ old.key → (e : Error) → stops_of new e → stops_of old e
  stops-kept old new keeps key e h = record {
    is = h.is;
    named = λ told.
        let named = h.named (told-later read old.source.inner new.source.inner keeps.inner.same told) in
        subst (λ p. (e ≡ BadEnd) ⊎ ((number : ℕ) × StopsAt suite.seal_of old.key p.bytes number e)) (keeps.payload told)
        (subst (λ k. (e ≡ BadEnd) ⊎ ((number : ℕ) × StopsAt suite.seal_of k (payload_of new).bytes number e)) key named);
  }

  -- A reader that has failed after a step only if it had before adds no reason.
  pub stream_narrows : {T : Type 0} {Own : Error → Type 0} {x : T} (was : Bool) (old new : StreamReader S R suite read)
      → (was ≡ true → old.place.failed ≡ true) →
      KeepsPayload Own old.source new.source (Ok x) → new.key ≡ old.key → (e : Error) →
      ((was ≡ true) × (e ≡ Failed)) ⊎ OwnOrInner read (stops_of new) new.source.inner e → refuses_of old e
  stream_narrows was old new good keeps key e h = elim h [
    | inl failed ↦ inl (good failed.0, failed.1)
    | inr own ↦ inr (elim own [ inl stops ↦ inl (stops-kept old new keeps key e stops) | inr inner ↦ inr (keeps.inner.narrows e inner) ])
  ]

  pub ok_narrows : {T : Type 0} {Own : Error → Type 0} (result : Result T Error) (old new : StreamReader S R suite read) →
      KeepsPayload Own old.source new.source result → new.key ≡ old.key → OnOk result (new.place.failed ≡ false) →
      OnOk result ((e : Error) → refuses_of new e → refuses_of old e)
  ok_narrows (Ok x) old new keeps key good = stream_narrows new.place.failed old new (λ is. absurd (true≢false (sym is ∙ good))) keeps key
  ok_narrows (Err e) old new keeps key good = tt
