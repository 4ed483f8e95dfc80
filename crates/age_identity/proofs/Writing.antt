-- Recipients that couldn't be written.
use Rattle.std.proofs.Common.{◌≡◌, inr, subst, ℕ, ap, sym, List, take, drop, Err, Option, Bool, ◌<◌}
use Rattle.std.proofs.lemmas.List.{take-append-drop}
use Rattle.age_error.specs.Refusals.{IsDevice}
use Rattle.age_error.specs.declared.io.Error.{Error}
use Rattle.age_error.specs.declared.io.Error.TheVariants.{OutOfMemory}
use Rattle.age_io.specs.Writing.{WritesAll, Retried}
use Rattle.age_identity.specs.ConvertErrors.{ConvertRefusal, FailedToWriteOutput, IdentityFileContainsPlugin, NoIdentities}
use Rattle.age_identity.specs.Converting.{Converts}
use Rattle.age_identity.specs.Entries.{Entry}

abbrev failed_of : ConvertRefusal → Error
failed_of (FailedToWriteOutput e) = e
failed_of (IdentityFileContainsPlugin name plugin) = OutOfMemory
failed_of (NoIdentities name) = OutOfMemory

error_same : (e other : Error) → FailedToWriteOutput e ≡ FailedToWriteOutput other → e ≡ other
error_same e other is = ap failed_of is

module _ {W : Type 0} (tells : W → Bool) (faults : W → ℕ) (refuses : W → ℕ → Error → Type 0) (appended : W → List ℕ → W → Type 0) where
  pub refused_writing : (bytes text : List ℕ) (entries : List Entry) (filename : Option (List ℕ)) (old new : W) (e : Error) → bytes ≡ text →
      WritesAll {T = Unit {0}} tells faults (Retried refuses) appended old new bytes (Err e) →
      Converts tells faults refuses appended text entries filename old new (Err (FailedToWriteOutput e))
  refused_writing bytes text entries filename old new e same writes =
      let w = subst (λ b. WritesAll {T = Unit {0}} tells faults (Retried refuses) appended old new b (Err e)) same writes in
      record {
        same_tells = w.same_tells;
        no_fewer_faults = w.no_fewer_faults;
        device = λ other is. subst (λ x. IsDevice x → faults old < faults new) (error_same e other is) w.device;
        some = tt;
        native = tt;
        written = λ told. tt;
        refused = (
          inr w.why,
          λ told.
              let (n, within, out) = w.takes_front told in
              record { front = take n text; after = drop n text; joined = sym (take-append-drop n text); out = out },
        );
      }
