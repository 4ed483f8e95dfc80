-- One call of `get` more.
use Rattle.std.specs.Prelude.{Option, Some, None, Result, Ok, Err, MatchResult, slice_get, ◌⊎◌}
use Rattle.std.specs.declared.vec.Vec.{Vec}
use Rattle.std.proofs.Common.{◌≡◌, ℕ, ◌≤◌, List, [], ◌∷◌, ◌++◌, sym, ap, ◌∙◌, arith, inl, inr}
use Rattle.age.specs.ErrorVariants.{OutOfMemory}
use Rattle.age.specs.Reading.{IsQuiet}
use Rattle.age.specs.Members.{ReadMembers, SuiteMembers}
use Rattle.age_records.specs.Records.{SameRecords}
use Rattle.age_records.specs.Text.{found}
use Rattle.age_records.specs.declared.error.RecordError.{RecordError}
use Rattle.age_records.specs.declared.error.RecordError.TheVariants.{Io, NoSuchRecord}
use Rattle.age_records.specs.declared.reading.Records.{Records}
use Rattle.age_examples.specs.RecordAnswers.{Answered, record_seen}

-- what was quiet all along was quiet at first
pub quiet-before : {a b c : ℕ} → a ≤ b → b ≤ c → IsQuiet a c → IsQuiet a b
quiet-before first second quiet = record { same = omega (arith, first, second, quiet.same); below = omega (arith, second, quiet.below) }

pub same-later : {S R : Type 0} {suite : SuiteMembers S} {read : ReadMembers R} (a b c : Records S R suite read) → SameRecords a b
    → SameRecords b c → SameRecords a c
same-later a b c first second =
    let one = first.reader in
    let two = second.reader in
    record {
      count = second.count ∙ first.count;
      total = second.total ∙ first.total;
      reader = record {
        tells = two.tells ∙ one.tells;
        faults = omega (arith, one.faults, two.faults);
        opens = omega (arith, one.opens, two.opens);
        key = two.key ∙ one.key;
        payload = λ told. two.payload (one.tells ∙ told) ∙ one.payload told;
        content = λ told. two.content (one.tells ∙ told) ∙ one.content told;
      };
    }

pub answered-more : {Z : Type 0} (written : List (List ℕ)) (calls : List ℕ) (answers : List (Result (Vec ℕ Z) RecordError)) (index : ℕ)
    (answer : Result (Vec ℕ Z) RecordError) →
    Answered written calls answers → (record_seen answer ≡ Err (Io OutOfMemory)) ⊎ (record_seen answer ≡ found (slice_get written index)) →
    Answered written (calls ++ index ∷ []) (answers ++ answer ∷ [])
answered-more written [] [] index answer before one = (one, tt)
answered-more written [] (a ∷ answers) index answer before one = absurd before
answered-more written (i ∷ calls) [] index answer before one = absurd before
answered-more written (i ∷ calls) (a ∷ answers) index answer before one = (before.0, answered-more written calls answers index answer before.1 one)

pub answer-is : {Z : Type 0} (answer : Result (Vec ℕ Z) RecordError) (o : Option (List ℕ)) (Quiet : Type 0) → Quiet →
    MatchResult answer (λ bytes. o ≡ Some bytes.items) (λ e. Quiet → (e ≡ Io OutOfMemory) ⊎ ((e ≡ NoSuchRecord) × (o ≡ None))) →
    (record_seen answer ≡ Err (Io OutOfMemory)) ⊎ (record_seen answer ≡ found o)
answer-is (Ok bytes) o Quiet quiet is = inr (sym (ap found is))
answer-is (Err e) o Quiet quiet is = elim (is quiet) [
  | inl memory ↦ inl (ap Err memory)
  | inr none ↦ inr (ap Err none.0 ∙ sym (ap found none.1))
]
