-- What an encryptor writes before the plaintext comes, and what the file is in the end.
use Rattle.std.specs.Prelude.{◌≡◌, ℕ, ◌≤◌, Bool, List, Result, Err, IsTrue, IfOk}
use Rattle.age_error.specs.declared.io.Error.{Error}
use Rattle.age_io.specs.Writing.{Retried, OrMemory, WritesAll}
use Rattle.age_stream.specs.Sending.{RefusesChunk}
use Rattle.age_v1.specs.Payload.{Seal, payload_key}
use Rattle.age_stream.specs.Writing.{WasMade, Finishes}
use Rattle.age_stream.specs.declared.writer.StreamWriter.{StreamWriter}
use Rattle.age_v1.specs.Encrypting.{Prepared}
use Rattle.age_v1.specs.File.{file_front, file_text}

-- The header and the nonce were appended to the output, and the writer was made over what the output then was.
pub record Starts {S W : Type 0} (tells : W → Bool) (faults : W → ℕ) (refuses : W → ℕ → Error → Type 0)
    (appended : W → List ℕ → W → Type 0) (file : Prepared) (output : W) (writer : StreamWriter S W) : Type 0 where
  pub inner : W
  pub made : WasMade (payload_key file.file_key file.nonce) inner writer
  -- of every writer
  pub same_tells : tells inner ≡ tells output
  pub no_fewer_faults : faults output ≤ faults inner
  pub narrows : (e : Error) → RefusesChunk refuses inner e → RefusesChunk refuses output e
  -- of a writer that tells its bytes
  pub front : IsTrue (tells output) → appended output (file_front file.file_key file.stanzas file.nonce) inner

-- Where the writer takes a plaintext, by writes and flushes of any number, and is finished, the file of the plaintext was
-- appended to the output.
abbrev pub WritesFile : {S W : Type 0} → Seal → (W → List ℕ → W → Type 0) → (StreamWriter S W → List ℕ → StreamWriter S W → Type 0)
    → Prepared → W → StreamWriter S W → Type 0
WritesFile {S} {W} seal_of inner_appended appended file output writer =
    (plain : List ℕ) (last : StreamWriter S W) (finished : Result W Error)
    → appended writer plain last → Finishes seal_of inner_appended appended last finished
    → IfOk finished (inner_appended output (file_text seal_of file.file_key file.stanzas file.nonce plain))

-- A refusal, and the output as it is then: a beginning of the header and the nonce was appended.
abbrev pub GivesUp : {W : Type 0} → (W → Bool) → (W → ℕ) → (W → ℕ → Error → Type 0) → (W → List ℕ → W → Type 0) → Prepared → W → W → Error → Type 0
GivesUp tells faults refuses appended file output last e =
    WritesAll {T = Unit {0}} tells faults (OrMemory (Retried refuses)) appended output last (file_front file.file_key file.stanzas file.nonce) (Err e)
