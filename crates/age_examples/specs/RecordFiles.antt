-- Records in a file.
use Rattle.std.specs.Prelude.{◌≡◌, ℕ, List, length, IsTrue}
use Rattle.age.specs.ErrorVariants as io
use Rattle.age.specs.FileErrors.{IsWant}
use Rattle.age.specs.Members.{ReadMembers, SuiteMembers}
use Rattle.age.specs.StreamReader.{content_of, tells_of}
use Rattle.age.specs.Stretch.{whole}
use Rattle.age_records.specs.Records.{len_of, reader_of}
use Rattle.age_records.specs.Text.{records_text}
use Rattle.age_records.specs.declared.error.RecordError.TheVariants.{Io}
use Rattle.age_records.specs.declared.reading.Records.{Records}
use Rattle.age_examples.specs.declared.record_files.RecordFileError.{RecordFileError}
use Rattle.age_examples.specs.declared.record_files.RecordFileError.TheVariants.{File, Record}

-- these records are the plaintext of the payload that was opened
pub record AreThese {S R : Type 0} {suite : SuiteMembers S} {read : ReadMembers R} (records : List (List ℕ))
    (opened : Records S R suite read) : Type 0 where
  pub tells : IsTrue (tells_of (reader_of opened))
  pub content : content_of (reader_of opened) ≡ whole (records_text records)
  pub count : len_of opened ≡ length records

-- memory was refused, where the records in a file are opened
abbrev pub IsOpenWant : RecordFileError → Type 0
IsOpenWant (File e) = IsWant e
IsOpenWant (Record e) = e ≡ Io io.OutOfMemory
