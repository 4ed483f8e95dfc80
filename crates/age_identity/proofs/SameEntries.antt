-- Reading a file says the same of whatever has its entries.
use Rattle.std.specs.Prelude.{◌≡◌, ℕ, List, Ok, Err}
use Rattle.std.proofs.Common.{subst, sym}
use Rattle.age_error.specs.declared.io.Error.{Error}
use Rattle.age_io.specs.declared.traits.Read.{Ghosts}
use Rattle.age_identity.specs.Entries.{Entry}
use Rattle.age_identity.specs.Files.{IsIdentityFileOf}
use Rattle.age_identity.specs.Reading.{ReadsFile}

module _ {R A B : Type 0} (read : Ghosts R) (limit : ℕ) (entries : A → List Entry) (others : B → List Entry) (input : R) where
  pub reads_so : (x : A) (y : B) → others y ≡ entries x → ReadsFile read limit entries input (Ok x) → ReadsFile read limit others input (Ok y)
  reads_so x y same (last, r) = (
    last,
    record {
      faults = r.faults;
      device = tt;
      patient = tt;
      fits = r.fits;
      file = λ told. subst (λ all. IsIdentityFileOf (read.rest input) all) (sym same) (r.file told);
      refused = tt;
    },
  )

  pub refuses_so : (e : Error) → ReadsFile read limit entries input (Err e) → ReadsFile read limit others input (Err e)
  refuses_so e (last, r) =
      (last, record { faults = r.faults; device = r.device; patient = r.patient; fits = λ told. tt; file = λ told. tt; refused = r.refused })
