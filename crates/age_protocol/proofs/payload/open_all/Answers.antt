use Rattle.std.specs.Prelude.{◌≡◌, ◌⊎◌, ◌&&◌, IsTrue}
use Rattle.std.proofs.Common.{◌∙◌, refl, sym, subst, inl, inr}
use Rattle.std.proofs.lemmas.Result.{IfErr-weaker, on_ok_weaker}
use Rattle.age_error.specs.ErrorLemmas.{of_error}
use Rattle.age_error.specs.declared.io.Error.{Error}
use Rattle.age_error.specs.declared.io.Error.TheVariants.{Device, OutOfMemory}
use Rattle.age_error.specs.declared.io.ErrorKind.TheVariants.{Interrupted}
use Rattle.age_io.specs.Reading.{TriedAgain}
use Rattle.age_io.specs.Stretch.{from_place, stretch-ext, whole}
use Rattle.age_io.proofs.Retrying.{tried-more, tried-own}
use Rattle.age_v1.specs.DeliveredPayload.{payload_delivers}
use Rattle.age_stream.specs.Keeping.{IsPayloadRefusal, Stops}
use Rattle.age_stream.specs.Reader.{refuses_of}
use Rattle.age_protocol.proofs.payload.open_all.Goals as goal

pub returns-clause-opened : goal.returns-clause-opened
returns-clause-opened g c = λ reader_told writer_told.
    let given = payload_delivers g.S.Suite.opened c.args.key 0 (g.R.Read.rest c.args.reader.now) in
    let made = c.in_ok-stream.ensures.made in
    on_ok_weaker c.copy_all.result
    (λ copied. (given.bytes, made.success reader_told given.bytes (made.rest ∙ stretch-ext given (whole given.bytes) refl copied.0), copied.1))
    (rw made.rest at (c.copy_all.ensures.all (made.tells ∙ reader_told) writer_told))

pub returns-in_err-stream-clause-why : goal.returns-in_err-stream-clause-why
returns-in_err-stream-clause-why g c = of_error _ _ c.in_err-stream.field-0.0 c.from_residual.ensures.1 (inl c.in_err-stream.ensures.memory)

-- why copying from a reader of a payload refuses
why_copied : {S R Some All Long : Type 0} (refuses : S → Error → Type 0) (below : R → Error → Type 0) (Own : Error → Type 0) (stream : S)
    (inner : R) (e : Error)
    → ((e : Error) → refuses stream e → Own e ⊎ TriedAgain below inner e) → (Own (Device Interrupted) → ⊥) → (Long → Own e)
    → ((e ≡ OutOfMemory) ⊎ TriedAgain refuses stream e ⊎ (Some × All)) ⊎ Long → (e ≡ OutOfMemory) ⊎ Some ⊎ Own e ⊎ TriedAgain below inner e
why_copied refuses below Own stream inner e named patient too_long (inr long) = inr (inr (inl (too_long long)))
why_copied refuses below Own stream inner e named patient too_long (inl (inl memory)) = inl memory
why_copied refuses below Own stream inner e named patient too_long (inl (inr (inr writes))) = inr (inl writes.0)
why_copied refuses below Own stream inner e named patient too_long (inl (inr (inl reads))) =
    inr (inr (tried-own below Own inner e patient (tried-more refuses (λ r f. Own f ⊎ TriedAgain below r f) stream inner named e reads)))

pub returns-clause-why : goal.returns-clause-why
returns-clause-why g c =
    let read = g.R.Read in
    let reader = c.args.reader.now in
    let made = c.in_ok-stream.ensures.made in
    let own = Stops g.S.Suite.seal_of c.args.key (from_place (read.place reader) (read.content reader))
    (IsTrue (read.tells reader && read.steady reader)) in
    IfErr-weaker c.copy_all.result _ _
    (λ e why. why_copied refuses_of read.refuses own c.in_ok-stream.stream reader e made.named (λ s. s.is)
    (λ long. record { is = subst IsPayloadRefusal (sym long.0) tt; named = λ told. absurd (long.1 (made.tells ∙ told)) }) why)
    c.copy_all.ensures.named
