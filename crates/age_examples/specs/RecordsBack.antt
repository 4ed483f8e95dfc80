-- Records that are written in memory, and one of them read back.
use Rattle.std.specs.Prelude.{◌≡◌, ◌⊎◌, ℕ, ◌^◌, ◌≤◌, ◌<◌, List, length, slice_get, None}
use Rattle.age.specs.Bytes.{AreBytes}
use Rattle.age.specs.DecryptErrors as decrypt
use Rattle.age.specs.EncryptErrors.{EncryptRefusal, encrypt_refusal}
use Rattle.age.specs.ErrorVariants.{OutOfMemory, TooLong}
use Rattle.age.specs.FileErrorVariants as file
use Rattle.age.specs.Payload.{Seal, payload}
use Rattle.age.specs.Types.{Error, FileError}
use Rattle.age_records.specs.Text.{records_text}
use Rattle.age_records.specs.declared.error.RecordError.{RecordError}
use Rattle.age_records.specs.declared.error.RecordError.TheVariants.{Io, NoSuchRecord, Damaged}
use Rattle.age_examples.specs.declared.record_files.RecordFileError.{RecordFileError}
use Rattle.age_examples.specs.declared.record_files.RecordFileError.TheVariants.{File, Record}

-- The bytes are the payload of the text of records, which is within the limit.
pub record IsPayloadOf (seal_of : Seal) (key : List ℕ) (records : List (List ℕ)) (sealed : List ℕ) : Type 0 where
  pub is_payload : sealed ≡ payload seal_of key (records_text records)
  pub bytes : AreBytes (records_text records)
  pub within : length (records_text records) ≤ 2 ^ 60

-- Writing the text of records is refused: memory was refused, or it is past the limit.
abbrev pub RefusesRecordsText : List (List ℕ) → Error → Type 0
RefusesRecordsText records e = (e ≡ OutOfMemory) ⊎ ((e ≡ TooLong) × (2 ^ 60 < length (records_text records)))

-- Reading record i back is refused: there is none, or it couldn't be written, or memory was refused.
abbrev pub RefusesRecordBack : List (List ℕ) → ℕ → RecordError → Type 0
RefusesRecordBack records i NoSuchRecord = slice_get records i ≡ None
RefusesRecordBack records i Damaged = ⊥
RefusesRecordBack records i (Io e) = RefusesRecordsText records e

-- Writing a file of the text of records is refused: none was prepared for, for this refusal, or as above.
abbrev pub RefusesRecordFile : (EncryptRefusal → Type 0) → List (List ℕ) → FileError → Type 0
RefusesRecordFile Unprepared records (file.Io e) = RefusesRecordsText records e
RefusesRecordFile Unprepared records (file.Encrypt e) = Unprepared (encrypt_refusal e)
RefusesRecordFile Unprepared records (file.Decrypt e) = ⊥

-- Reading record i back from the file is refused: the file couldn't be written, there is no such record, or memory was refused.
abbrev pub RefusesThrough : (EncryptRefusal → Type 0) → List (List ℕ) → ℕ → RecordFileError → Type 0
RefusesThrough Unprepared records i (File (file.Io e)) = RefusesRecordsText records e
RefusesThrough Unprepared records i (File (file.Encrypt e)) = Unprepared (encrypt_refusal e)
RefusesThrough Unprepared records i (File (file.Decrypt e)) = decrypt.decrypt_refusal e ≡ decrypt.OutOfMemory
RefusesThrough Unprepared records i (Record e) = RefusesRecordBack records i e
