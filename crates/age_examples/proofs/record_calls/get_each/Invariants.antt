use Rattle.std.proofs.Common.{◌≡◌, ℕ, IsTrue, List, take}
use Rattle.age.specs.Reading.{IsQuiet}
use Rattle.age.specs.Stretch.{whole}
use Rattle.age.specs.StreamReader.{content_of, faults_of, tells_of}
use Rattle.age_records.specs.Records.{SameRecords, reader_of}
use Rattle.age_records.specs.Text.{records_text}
use Rattle.age_examples.specs.RecordAnswers.{Answered}
use Rattle.age_examples.proofs.record_calls.get_each.Given as goal

abbrev pub invariant-loop-index : goal.invariant-loop-index
invariant-loop-index g l = record {
  same : SameRecords l.fn.records l.records;
  answered : (written : List (List ℕ)) → IsTrue (tells_of (reader_of l.fn.records))
      → content_of (reader_of l.fn.records) ≡ whole (records_text written) →
      IsQuiet (faults_of (reader_of l.fn.records)) (faults_of (reader_of l.records)) → Answered written (take l.index-index l.calls) l.answers.items;
}
