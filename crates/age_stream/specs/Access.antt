-- What a read at a place of a payload comes to.
use Rattle.std.specs.Prelude.{◌≡◌, ◌≢◌, ℕ, ◌+◌, ◌*◌, ◌/◌, ◌<◌, ◌≤◌, ◌⊎◌, IsTrue, List, length, take, drop, Ok, Err, Some, Result, IfOk, IfErr, OnOk, OnErr}
use Rattle.age_error.specs.declared.io.Error.{Error}
use Rattle.age_error.specs.declared.io.Error.TheVariants.{OutOfMemory}
use Rattle.age_error.specs.declared.io.SeekFrom.{SeekFrom}
use Rattle.age_suite.specs.declared.suite.Suite.{Ghosts as SuiteGhosts}
use Rattle.age_io.specs.Cursor.{IsOutside, sought}
use Rattle.age_io.specs.Reading.{IsQuiet, TriedAgain}
use Rattle.age_io.specs.Stretch.{from_place}
use Rattle.age_io.specs.declared.traits.Read.{Ghosts}
use Rattle.age_stream.specs.declared.reader.StreamReader.{StreamReader}
use Rattle.age_stream.specs.Reader.{payload_of, key_of, inner_of, inner_rest_of, opens_of, last_used_of, HasChunk, HasFailed, IsHolding, tells_of, content_of, place_of, plain_rest_of, faults_of}
use Rattle.age_v1.specs.PayloadAnswers.{StandAt, IsGoodEnd}
use Rattle.age_v1.specs.PayloadTargets.{below_start, sought_in, IsRefusedTarget, IsToEnd, StopsWithin, StaysOrLeads}

-- A target in a payload of so many bytes is before the plaintext's end, and the room for so many bytes from there on, which isn't empty, ends in the
-- same chunk, of this number.
pub record IsInChunk (size : ℕ) (to : SeekFrom) (place room chunk : ℕ) : Type 0 where
  pub start : ℕ
  pub leads : sought_in to place size ≡ Ok start
  pub before : IsToEnd size to place → ⊥
  pub some : 0 < room
  pub from : 65536 * chunk ≤ start
  pub within : start + room ≤ 65536 * chunk + 65536

module _ {S R : Type 0} {suite : SuiteGhosts S} {read : Ghosts R} where
  -- Which bytes it reads: those from where the seek leads, whatever the chunks are, and fewer than
  -- the buffer takes only at the end. On a plaintext that ends well it is a cursor's seek and read.
  pub record GivesAt (old new : StreamReader S R suite read) (to : SeekFrom) (buf : List ℕ) (result : Result ℕ Error) : Type 0 where
    pub count : IfOk result (λ n. n ≤ length buf)
    pub order : IsTrue (tells_of old) → IfOk result (λ n. (start : ℕ) × (sought_in to (place_of old) (length (payload_of old).bytes) ≡ Ok start)
        × (place_of new ≡ start + n) × StandAt suite.seal_of (key_of old) (payload_of old).bytes start (take n buf))
    pub cursor : IsTrue (tells_of old) → IsTrue (content_of old).ends_well → IfOk result (λ n.
        (start : ℕ) × (sought to (place_of old) (length (content_of old).bytes) ≡ Ok start)
        × (take n buf ≡ take (length buf) (drop start (content_of old).bytes)))
    pub ended : IsTrue (tells_of old) → IfOk result (λ n. n < length buf → IsGoodEnd suite.seal_of (key_of old) (payload_of old) (place_of new))

  -- Why it refuses: for its target, or since a chunk on the way is refused. That the target is outside it says of such a target alone, unless the
  -- inner reader's own reads refuse so.
  pub record RefusesAt (old new : StreamReader S R suite read) (to : SeekFrom) (buf : List ℕ) (result : Result ℕ Error) : Type 0 where
    pub cause : IsTrue (tells_of old) → IsTrue (content_of old).ends_well
        → IfErr result (λ e. e ≢ OutOfMemory → IsQuiet (faults_of old) (faults_of new) →
        sought to (place_of old) (length (content_of old).bytes) ≡ Err e)
    pub refused : IsTrue (tells_of old) → IsTrue (payload_of old).ends_well
        → IfErr result (λ e. e ≢ OutOfMemory → IsQuiet (faults_of old) (faults_of new) →
        IsRefusedTarget suite.seal_of (key_of old) (payload_of old).bytes to (place_of old) e
        ⊎ StopsWithin suite.seal_of (key_of old) (payload_of old).bytes to (place_of old) (length buf) (place_of new) e)
    pub outside : IsTrue (tells_of old) → IfErr result (λ e. IsOutside e → (TriedAgain read.refuses (inner_of old) e → ⊥) →
        sought_in to (place_of old) (length (payload_of old).bytes) ≡ Err e)

  -- What is the same after it, what is left for the next call, and where a refusal leaves it. Only a
  -- seek that refuses its target leaves the reader as it was; after any other refusal it has failed.
  pub record LeavesAt (old new : StreamReader S R suite read) (to : SeekFrom) (buf : List ℕ) (result : Result ℕ Error) : Type 0 where
    pub payload : IsTrue (tells_of old) → payload_of new ≡ payload_of old
    pub key : key_of new ≡ key_of old
    pub stands : IsTrue (tells_of old) → OnErr result (StaysOrLeads to (length (payload_of old).bytes) (place_of old) (length buf) (place_of new))
    pub rest : IsTrue (tells_of old) → IsTrue (content_of old).ends_well
        → OnOk result (plain_rest_of new ≡ from_place (place_of new) (content_of old))
    pub inner_end : IsTrue (tells_of old) → OnOk result ((inner_rest_of new).ends_well ≡ (payload_of old).ends_well)
    pub unmoved : IsTrue (tells_of old) → IfErr result (λ e. IsOutside e → sought_in to (place_of old) (length (payload_of old).bytes) ≡ Err e →
        (HasFailed new → HasFailed old) × (HasFailed old → HasFailed new) × (place_of new ≡ place_of old)
        × (IsHolding old → IsHolding new) × (opens_of new ≡ opens_of old))
    pub inner_place : IsTrue (tells_of old) → IfErr result (λ e. IsOutside e → sought_in to (place_of old) (length (payload_of old).bytes) ≡ Err e →
        read.place (inner_of new) ≡ read.place (inner_of old))
    pub inner_rest : IsTrue (tells_of old) → IfErr result (λ e. IsOutside e → sought_in to (place_of old) (length (payload_of old).bytes) ≡ Err e →
        (IsTrue (below_start to (place_of old)) → ⊥) → inner_rest_of new ≡ from_place (read.place (inner_of old)) (read.content (inner_of old)))
    pub good : OnOk result (HasFailed new → ⊥)
    pub fails : IfErr result (λ e. (IsOutside e → ⊥) → HasFailed new)

  -- How often it opens a chunk while so many bytes are asked for.
  pub record OpensAt (old new : StreamReader S R suite read) (room : ℕ) : Type 0 where
    pub counts : opens_of old ≤ opens_of new
    pub most : opens_of new ≤ opens_of old + room / 65536 + 4

  -- Of a read whose room is in one chunk: the chunk is opened at most twice, as a middle one and as the last, and not at all where it is
  -- there. Then it is there, and the one that was used last; and so is the one that had been used last before, and both where none was opened.
  pub record ReadsOneChunk (old new : StreamReader S R suite read) (chunk : ℕ) (result : Result ℕ Error) : Type 0 where
    pub opens : opens_of new ≤ opens_of old + 2
    pub none : HasChunk old chunk → opens_of new ≡ opens_of old
    pub has : OnOk result (HasChunk new chunk)
    pub uses : OnOk result (last_used_of new ≡ Some chunk)
    pub keeps_last : OnOk result ((b : ℕ) → last_used_of old ≡ Some b → HasChunk new b)
    pub keeps : HasChunk old chunk → OnOk result ((b : ℕ) → HasChunk old b → HasChunk new b)

  -- Where all that it may give is in one chunk: which of the opened chunks it has then, and that it opens none that it has.
  abbrev pub KeepsAt : (old new : StreamReader S R suite read) → SeekFrom → ℕ → Result ℕ Error → Type 0
  KeepsAt old new to room result = IsTrue (tells_of old) → (chunk : ℕ) →
      IsInChunk (length (payload_of old).bytes) to (place_of old) room chunk → ReadsOneChunk old new chunk result
