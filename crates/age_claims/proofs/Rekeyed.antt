-- A file whose plaintext was encrypted to others.
use Rattle.std.specs.Prelude.{ℕ, List, IsTrue, Result, Ok, Err, OnOk}
use Rattle.std.proofs.Common.{refl, subst}
use Rattle.age.specs.Claims.{AppendsFile}
use Rattle.age.specs.Encrypting.{Prepared}
use Rattle.age.specs.Identities.{CarriesFile}
use Rattle.age.specs.Payload.{Seal}
use Rattle.age.specs.Stanza.{StanzaValue}
use Rattle.age.specs.Stretch.{Stretch, stretch-ext, whole}
use Rattle.age_claims.specs.Claims.{AppendsRekeyed}

module _ {W : Type 0} (seal_of : Seal) (gives : List ℕ → List StanzaValue → Type 0) (IsPrepared : Prepared → Type 0)
    (appended : W → List ℕ → W → Type 0) (form : List ℕ → List ℕ) (input rest : Stretch) (old new : W) where
  -- what was read of a plaintext to a clean end is that of a file, and its file was appended
  pub rekeyed_of : {T E : Type 0} (result : Result T E)
      → (IsTrue rest.ends_well → IsTrue input.ends_well × CarriesFile seal_of gives input.bytes rest.bytes)
      → OnOk result ((prepared : Prepared) × IsPrepared prepared × AppendsFile seal_of appended form prepared rest old new)
      → OnOk result (AppendsRekeyed seal_of gives IsPrepared appended form input old new)
  rekeyed_of (Ok x) carries (prepared, prepares, appends) =
      let read = carries appends.ended in
      record {
        plain = rest.bytes;
        ended = read.0;
        carries = read.1;
        prepared = prepared;
        prepares = prepares;
        appends =
            subst (λ (s : Stretch). AppendsFile seal_of appended form prepared s old new) (stretch-ext rest (whole rest.bytes) refl appends.ended)
            appends;
      }
  rekeyed_of (Err e) carries appends = tt
