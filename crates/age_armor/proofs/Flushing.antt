-- What a flush of armor does, by what the flush of its inner writer does.
use Rattle.std.specs.Prelude.{◌≡◌, ℕ, Bool, true, false, List, [], Ok}
use Rattle.age_error.specs.declared.io.Error.{Error}
use Rattle.age_io.specs.Writing.{Flushes, Retried}
use Rattle.age_io.specs.WritingLemmas.{hands-on-narrows}
use Rattle.age_armor.specs.Writing.{Appended, Refused}
use Rattle.age_armor.specs.WritingLemmas.{Appended-same, Refused-armored}
use Rattle.age_armor.specs.declared.writer.ArmoredWriter.{ArmoredWriter}

module _ {W : Type 0} (tells : W → Bool) (faults : W → ℕ) (refuses : W → ℕ → Error → Type 0) (appended : W → List ℕ → W → Type 0)
    (nothing : (w : W) → appended w [] w) where
  pub flushes-armor : {T : Type 0} (a c : ArmoredWriter W) (x : T) → a.failed ≡ false → c.failed ≡ false → a.armored ≡ true → c.armored ≡ true →
      c.held.items ≡ a.held.items → Flushes {T = T} tells faults (Retried refuses) appended a.inner c.inner (Ok x) →
      Flushes {T = T} (λ w. tells w.inner) (λ w. faults w.inner) (Refused refuses) (Appended appended) a c (Ok x)
  flushes-armor a c x good good_after form form_after held done = record {
    same_tells = done.same_tells;
    no_fewer_faults = done.no_fewer_faults;
    device = tt;
    unspent = done.unspent;
    why = tt;
    narrows = Refused-armored refuses a c 0 good good_after form form_after (hands-on-narrows refuses a.inner c.inner 0 done.narrows);
    interrupted = tt;
    nothing = λ told. Appended-same appended nothing a c (done.nothing told) held (cc) (cc) good;
  }
