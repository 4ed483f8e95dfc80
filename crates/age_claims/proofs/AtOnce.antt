-- A text that is given to a writer once it is whole.
use Rattle.std.specs.Prelude.{◌≡◌, ℕ, List}
use Rattle.std.proofs.Common.{subst}
use Rattle.age.specs.Bytes.{AreBytes}
use Rattle.age.specs.Claims.{AppendsFile}
use Rattle.age.specs.Encrypting.{Prepared}
use Rattle.age.specs.Payload.{Seal}
use Rattle.age.specs.Stretch.{Stretch, whole}
use Rattle.age.specs.WholeFiles.{IsWritten}

-- what was appended to nothing is the text
pub written_of : {V : Type 0} (seal_of : Seal) (items : V → List ℕ) (appended : V → List ℕ → V → Type 0) (form : List ℕ → List ℕ) (file : Prepared)
    (input : Stretch) (plain : List ℕ) (old new : V) → input ≡ whole plain → AreBytes plain
    → ((bytes : List ℕ) → appended old bytes new → items new ≡ bytes)
    → AppendsFile seal_of appended form file input old new → IsWritten seal_of form plain file (items new)
written_of seal_of items appended form file input plain old new is bytes alone wrote =
    let made = subst (λ (s : Stretch). AppendsFile seal_of appended form file s old new) is wrote in
    let text = alone _ made.out in
    record {
      within = made.within;
      text = text;
      carries = rw text (made.carries bytes);
      is_file = made.is_file;
    }
