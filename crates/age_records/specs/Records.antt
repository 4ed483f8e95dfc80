-- What a caller sees of records that were opened, and what the calls on them answer.
use Rattle.std.specs.Prelude.{◌≡◌, ℕ, ◌+◌, ◌/◌, ◌≤◌, ◌⊎◌, IsTrue, List, length, Some, None, Result, Ok, Err, IfOk, IfErr, OnOk, MatchResult, vec_len, slice_get, ◌++◌, codes}
use Rattle.std.specs.declared.vec.Vec.{Vec}
use Rattle.std.specs.Fmt.{decimal}
use Rattle.age_error.specs.declared.io.Error.{Error}
use Rattle.age_error.specs.declared.io.Error.TheVariants.{OutOfMemory}
use Rattle.age_io.specs.declared.traits.Read.{Ghosts}
use Rattle.age_io.specs.Reading.{IsQuiet}
use Rattle.age_io.specs.Stretch.{whole}
use Rattle.age_v1.specs.Payload.{plain_len}
use Rattle.age_stream.specs.Reader.{tells_of, content_of, payload_of, faults_of, opens_of}
use Rattle.age_stream.specs.declared.reader.StreamReader.{StreamReader}
use Rattle.age_suite.specs.declared.suite.Suite.{Ghosts as SuiteGhosts}
use Rattle.age_records.specs.Text.{HoldsRecords, count_of, record_at, records_text}
use Rattle.age_records.specs.Standing.{HoldsNone, IsRecordAt}
use Rattle.age_records.specs.Payloads.{AddsNone, IfReaderRefuses, MayRefuse, RefusesRecord, SamePayload, SaysCount, Stands}
use Rattle.age_records.specs.declared.error.RecordError.{RecordError}
use Rattle.age_records.specs.declared.error.RecordError.TheVariants.{NoSuchRecord, Damaged, Io}
use Rattle.age_records.specs.declared.reading.Records.{Records}

module _ {S R : Type 0} {suite : SuiteGhosts S} {read : Ghosts R} where
  -- how many there are
  abbrev pub len_of : Records S R suite read → ℕ
  len_of r = r.count

  -- the last end: how many bytes they have in all
  abbrev pub total_of : Records S R suite read → ℕ
  total_of r = r.total

  -- the reader of the payload that they are in
  abbrev pub reader_of : Records S R suite read → StreamReader S R suite read
  reader_of r = r.reader

  -- what `Debug` prints of them: no byte of theirs
  abbrev pub debug_records : Records S R suite read → List ℕ
  debug_records r = codes "Records { len: " ++ decimal (len_of r) ++ codes ", .. }"

  -- the same records in the same payload, wherever its reader stands
  pub record SameRecords (old new : Records S R suite read) : Type 0 where
    pub count : len_of new ≡ len_of old
    pub total : total_of new ≡ total_of old
    pub reader : SamePayload (reader_of old) (reader_of new)

  -- Opening records: they are in the reader's payload, and at most 9 chunks were opened.
  pub record OpensRecords (seek_refuses : Error → Type 0) (reader : StreamReader S R suite read)
      (result : Result (Records S R suite read) RecordError) : Type 0 where
    pub same : IfOk result (λ r. SamePayload reader (reader_of r))
    pub opens : IfOk result (λ r. opens_of (reader_of r) ≤ opens_of reader + 9)
    -- why it is refused, and that what was opened has no new reason to refuse
    pub why : IfErr result (IfReaderRefuses (MayRefuse seek_refuses reader))
    pub narrows : IfOk result (λ r. AddsNone reader (reader_of r))
    -- of any payload: the number of records and the last end stand in it, and `Damaged` says that no text of records does
    pub says : IsTrue (tells_of reader) → IfOk result (λ r. SaysCount (len_of r) (total_of r) reader)
    pub damaged : IsTrue (tells_of reader) → IfErr result (λ e. e ≡ Damaged →
        (len : ℕ) → plain_len (length (payload_of reader).bytes) ≡ Some len → HoldsNone (Stands reader) len)
    -- of a plaintext that ends well: it holds so many records; where it isn't opened it holds none, or memory was refused, or the device failed
    pub exact : IsTrue (tells_of reader) → IsTrue (content_of reader).ends_well → MatchResult result
        (λ r. HoldsRecords (content_of reader).bytes × (len_of r ≡ count_of (content_of reader).bytes))
        (λ e. ((s : R) → read.faults s ≡ 0) → (e ≡ Io OutOfMemory) ⊎ ((e ≡ Damaged) × (HoldsRecords (content_of reader).bytes → ⊥)))
    -- of what was written: there are as many
    pub written : (records : List (List ℕ)) → IsTrue (tells_of reader) → content_of reader ≡ whole (records_text records) → MatchResult result
        (λ r. len_of r ≡ length records)
        (λ e. ((s : R) → read.faults s ≡ 0) → e ≡ Io OutOfMemory)

  -- Getting record i: the records stay, and at most 8 chunks were opened beside those of its bytes, or of all bytes where it is refused.
  pub record GivesRecord {Z : Type 0} (seek_refuses : Error → Type 0) (old : Records S R suite read) (i : ℕ) (new : Records S R suite read)
      (result : Result (Vec ℕ Z) RecordError) : Type 0 where
    pub same : SameRecords old new
    pub opens : opens_of (reader_of new) ≤ opens_of (reader_of old) + total_of old / 65536 + 8
    pub opens_few : IfOk result (λ bytes. opens_of (reader_of new) ≤ opens_of (reader_of old) + vec_len bytes / 65536 + 8)
    -- where there are no more records nothing is read
    pub beyond : len_of old ≤ i → (result ≡ Err NoSuchRecord) × (new ≡ old)
    -- why it is refused, and that a success leaves no new reason
    pub refused : IfErr result (RefusesRecord (len_of old) (total_of old) i (reader_of old) (reader_of new))
    pub why : IfErr result (IfReaderRefuses (MayRefuse seek_refuses (reader_of old)))
    pub narrows : OnOk result (AddsNone (reader_of old) (reader_of new))
    -- of any payload: it is what its two ends name
    pub named : IsTrue (tells_of (reader_of old)) → IfOk result (λ bytes. IsRecordAt (Stands (reader_of old)) (len_of old) i bytes.items)
    -- of a plaintext that ends well: it is what the text has
    pub exact : IsTrue (tells_of (reader_of old)) → IsTrue (content_of (reader_of old)).ends_well →
        IfOk result (λ bytes. record_at (content_of (reader_of old)).bytes i ≡ Ok bytes.items)
    -- of what was written: it is the record, or there is none, or memory was refused, or the device failed
    pub written : (records : List (List ℕ)) → IsTrue (tells_of (reader_of old)) → content_of (reader_of old) ≡ whole (records_text records) →
        MatchResult result (λ bytes. slice_get records i ≡ Some bytes.items)
        (λ e. IsQuiet (faults_of (reader_of old)) (faults_of (reader_of new))
        → (e ≡ Io OutOfMemory) ⊎ ((e ≡ NoSuchRecord) × (slice_get records i ≡ None)))
