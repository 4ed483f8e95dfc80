-- What is answered where records that were written are asked for.
use Rattle.std.specs.Prelude.{◌≡◌, ℕ, ◌⊎◌, List, [], ◌∷◌, Result, Ok, Err, slice_get}
use Rattle.std.specs.declared.vec.Vec.{Vec}
use Rattle.age.specs.ErrorVariants.{OutOfMemory}
use Rattle.age_records.specs.Text.{found}
use Rattle.age_records.specs.declared.error.RecordError.{RecordError}
use Rattle.age_records.specs.declared.error.RecordError.TheVariants.{Io}

-- an answer with its bytes as a list
abbrev pub record_seen : {Z : Type 0} → Result (Vec ℕ Z) RecordError → Result (List ℕ) RecordError
record_seen (Ok bytes) = Ok bytes.items
record_seen (Err e) = Err e

-- Each call was answered with the record that it asks for, or that there is none, unless for want of memory.
abbrev pub Answered : {Z : Type 0} → List (List ℕ) → List ℕ → List (Result (Vec ℕ Z) RecordError) → Type 0
Answered records [] [] = Unit {0}
Answered records (index ∷ calls) (answer ∷ answers) =
    ((record_seen answer ≡ Err (Io OutOfMemory)) ⊎ (record_seen answer ≡ found (slice_get records index))) × Answered records calls answers
Answered records _ _ = ⊥
