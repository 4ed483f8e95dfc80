-- What bytes that are written do to the writer of a payload.
use Rattle.std.specs.Prelude.{◌≡◌, ℕ, ◌+◌, ◌^◌, ◌≤◌, ◌<◌, IsTrue, List, length, Result, Err, OnOk, OnErr, IfErr}
use Rattle.age_error.specs.Bytes.{AreBytes}
use Rattle.age_error.specs.declared.io.Error.{Error}
use Rattle.age_error.specs.declared.io.Error.TheVariants.{TooLong}
use Rattle.age_io.specs.Copying.{AppendsFront}
use Rattle.age_io.specs.Writing.{Retried, WritesAll}
use Rattle.age_io.specs.declared.traits.Write.{Ghosts}
use Rattle.age_v1.specs.Payload.{Seal, payload}
use Rattle.age_stream.specs.Sending.{RefusesChunk}
use Rattle.age_stream.specs.Writing.{Appended, HasFailed, IsGood, Refused, WasMade, inner_of, taken_len}
use Rattle.age_stream.specs.declared.writer.StreamWriter.{StreamWriter}
use Rattle.age_records.specs.Text.{records_text}

-- It took all bytes, and hasn't failed; or it refused, and has failed, unless they are past its limit.
pub record Puts {S W T : Type 0} (seal_of : Seal) (write : Ghosts W) (old new : StreamWriter S W) (bytes : List ℕ)
    (result : Result T Error) : Type 0 where
  pub writes : WritesAll (λ w. write.tells (inner_of w)) (λ w. write.faults (inner_of w)) (Retried (Refused write.refuses))
      (Appended seal_of write.appended)
      old new bytes result
  pub counts : OnOk result (taken_len new ≡ taken_len old + length bytes)
  pub good : OnOk result (IsGood new)
  pub fails : taken_len old + length bytes ≤ 2 ^ 60 → OnErr result (HasFailed new)

-- Writing records: their text was put, which is bytes; or it is too long for a plaintext, and nothing was written.
pub record WritesRecords {S W T : Type 0} (seal_of : Seal) (write : Ghosts W) (old new : StreamWriter S W) (records : List (List ℕ))
    (result : Result T Error) : Type 0 where
  pub writes : length (records_text records) ≤ 2 ^ 60 → Puts seal_of write old new (records_text records) result
  pub bytes : length (records_text records) ≤ 2 ^ 60 → AreBytes (records_text records)
  pub past_limit : 2 ^ 60 < length (records_text records) → (result ≡ Err TooLong) × (new ≡ old)
  pub in_limit : length (records_text records) ≤ 2 ^ 60 → IfErr result (λ e. e ≡ TooLong → RefusesChunk write.refuses (inner_of old) TooLong)
  -- whatever it answers, the inner writer was given a beginning of the payload of that text, and nothing else
  pub sent : IsTrue (write.tells (inner_of old)) → (key : List ℕ) (first : W) → WasMade key first old →
      AppendsFront write.appended (payload seal_of key (records_text records)) first (inner_of new)
