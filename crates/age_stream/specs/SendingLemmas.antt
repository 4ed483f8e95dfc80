-- What stays of a writer that chunks are sent to.
use Rattle.std.specs.Prelude.{ℕ, Bool, Result, Ok, Err}
use Rattle.std.proofs.Common.{inl, inr, subst}
use Rattle.age_error.specs.Refusals.{IsInterruption}
use Rattle.age_error.specs.declared.io.Error.{Error}
use Rattle.age_io.specs.Writing.{HandsOn, KeepsWriter}
use Rattle.age_io.specs.WritingLemmas.{hands-on-patient}
use Rattle.age_stream.specs.Sending.{RefusesChunk}

module _ {W : Type 0} (refuses : W → ℕ → Error → Type 0) where
  pub refuses-chunk-narrows : (a b : W) → ((e : Error) → HandsOn refuses b e → HandsOn refuses a e) → (e : Error) →
      RefusesChunk refuses b e → RefusesChunk refuses a e
  refuses-chunk-narrows a b narrows e (inl memory) = inl memory
  refuses-chunk-narrows a b narrows e (inr handed) = inr (narrows e handed)

  pub refuses-chunk-patient : (w : W) (e : Error) → RefusesChunk refuses w e → IsInterruption e → ⊥
  refuses-chunk-patient w e (inl memory) is = subst IsInterruption memory is
  refuses-chunk-patient w e (inr handed) is = hands-on-patient refuses w e handed is

  -- a writer that was given a chunk
  pub keeps-chunk : {T : Type 0} (tells : W → Bool) (faults : W → ℕ) (old new : W) (r : Result T Error) →
      KeepsWriter {T = T} tells faults (HandsOn refuses) old new r → KeepsWriter {T = T} tells faults (RefusesChunk refuses) old new r
  keeps-chunk tells faults old new (Ok x) k = record {
    same_tells = k.same_tells;
    no_fewer_faults = k.no_fewer_faults;
    device = tt;
    why = tt;
    narrows = refuses-chunk-narrows old new k.narrows;
  }
  keeps-chunk tells faults old new (Err e) k = record {
    same_tells = k.same_tells;
    no_fewer_faults = k.no_fewer_faults;
    device = k.device;
    why = inr k.why;
    narrows = tt;
  }
