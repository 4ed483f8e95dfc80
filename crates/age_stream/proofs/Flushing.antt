-- What a flush of a payload does, by what the flush of its inner writer does.
use Rattle.std.specs.Prelude.{◌≡◌, ℕ, ◌+◌, Bool, true, false, List, [], Ok, Err}
use Rattle.std.proofs.Common.{arith, ap, inl, inr}
use Rattle.age_error.specs.declared.io.Error.{Error}
use Rattle.age_io.specs.Writing.{Flushes, Retried}
use Rattle.age_io.specs.WritingLemmas.{hands-on-narrows, hands-on-patient}
use Rattle.age_v1.specs.Payload.{Seal}
use Rattle.age_stream.specs.SendingLemmas.{refuses-chunk-narrows}
use Rattle.age_stream.specs.Writing.{Appended, Refused, taken_len}
use Rattle.age_stream.specs.WritingLemmas.{Appended-flushed, Refused-narrows}
use Rattle.age_stream.specs.declared.writer.StreamWriter.{StreamWriter}
use Rattle.age_stream.proofs.Sent.{sends-nothing}

module _ {S W : Type 0} (seal_of : Seal) (tells : W → Bool) (faults : W → ℕ) (refuses : W → ℕ → Error → Type 0)
    (appended : W → List ℕ → W → Type 0) where
  pub flushes-payload : {T : Type 0} (a c : StreamWriter S W) (x : T) → a.failed ≡ false → c.failed ≡ false → c.key ≡ a.key →
      c.held ≡ a.held → c.sealed ≡ a.sealed → Flushes {T = T} tells faults (Retried refuses) appended a.inner c.inner (Ok x) →
      Flushes {T = T} (λ w. tells w.inner) (λ w. faults w.inner) (Refused refuses) (Appended seal_of appended) a c (Ok x)
  flushes-payload a c x good good_after key held sealed done =
      let count : taken_len c ≡ taken_len a + 0 = rw (held, sealed) (omega arith) in
      record {
        same_tells = done.same_tells;
        no_fewer_faults = done.no_fewer_faults;
        device = tt;
        unspent = done.unspent;
        why = tt;
        narrows = Refused-narrows refuses a c 0 good good_after count
            (refuses-chunk-narrows refuses a.inner c.inner (hands-on-narrows refuses a.inner c.inner 0 done.narrows));
        interrupted = tt;
        nothing = λ told. Appended-flushed seal_of appended a c good good_after key (ap (λ v. v.items) held) sealed (done.nothing told);
      }

  -- a refused one fails the writer
  pub flushes-refused : {T : Type 0} (a c : StreamWriter S W) (e : Error) → a.failed ≡ false → c.failed ≡ true →
      Flushes {T = T} tells faults (Retried refuses) appended a.inner c.inner (Err e) →
      Flushes {T = T} (λ w. tells w.inner) (λ w. faults w.inner) (Refused refuses) (Appended seal_of appended) a c (Err e)
  flushes-refused a c e good failed done = record {
    same_tells = done.same_tells;
    no_fewer_faults = done.no_fewer_faults;
    device = done.device;
    unspent = tt;
    why = inr (good, inr (inr (0, done.why)));
    narrows = tt;
    interrupted = λ is. absurd (hands-on-patient refuses a.inner e (0, done.why) is);
    nothing = λ told. inr (inl (record {
      good = good;
      failed = failed;
      sends = sends-nothing seal_of appended a [] c.inner (done.nothing told);
    }));
  }
