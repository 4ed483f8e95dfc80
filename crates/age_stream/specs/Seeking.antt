-- What a seek in a payload comes to.
use Rattle.std.specs.Prelude.{◌≡◌, ◌≢◌, ℕ, ◌+◌, ◌/◌, ◌%◌, ◌^◌, ◌≤◌, IsTrue, Some, length, Result, IfErr, IfOk, OnOk, Ok, Err}
use Rattle.age_error.specs.Refusals.{IsDevice, IsInterruption}
use Rattle.age_error.specs.declared.io.Error.{Error}
use Rattle.age_error.specs.declared.io.Error.TheVariants.{BeforeStart, OutOfMemory}
use Rattle.age_error.specs.declared.io.SeekFrom.{SeekFrom}
use Rattle.age_suite.specs.declared.suite.Suite.{Ghosts as SuiteGhosts}
use Rattle.age_io.specs.declared.traits.Read.{Ghosts}
use Rattle.age_io.specs.Cursor.{IsOutside, OrTooLong, Seeks}
use Rattle.age_io.specs.Reading.{IsQuiet}
use Rattle.age_io.specs.Stretch.{from_place}
use Rattle.age_stream.specs.declared.reader.StreamReader.{StreamReader}
use Rattle.age_stream.specs.Naming.{SaysWhySeek}
use Rattle.age_stream.specs.PrivateKeeping.{IsPayloadSeekRefusal}
use Rattle.age_v1.specs.Payload.{final_chunk, plain_len, EndsAsLast}
use Rattle.age_stream.specs.Reader.{payload_of, key_of, inner_of, inner_rest_of, wanted_of, opens_of, last_used_of, HasChunk, HasFailed, HoldsEnd, IsHolding, IsAfterLast, tells_of, steady_of, content_of, place_of, plain_rest_of, faults_of, refuses_of}
use Rattle.age_v1.specs.PayloadTargets.{below_start, in_length, sought_in, IsRefusedTarget, IsToEnd}

-- the target in a payload of so many bytes, and the length of its plaintext
pub record FindsTarget (to : SeekFrom) (place size target len : ℕ) : Type 0 where
  pub ok : in_length (plain_len size) to place ≡ Ok target
  pub plain : plain_len size ≡ Some len
  pub within : target ≤ len
  pub limit : len ≤ 2 ^ 60

-- why there is none
pub record RefusesTarget (to : SeekFrom) (place size : ℕ) (e : Error) : Type 0 where
  pub err : in_length (plain_len size) to place ≡ Err e
  pub not_device : IsDevice e → ⊥
  pub want : e ≢ OutOfMemory
  pub named : IsPayloadSeekRefusal (λ _. ⊥) e

module _ {S R : Type 0} {suite : SuiteGhosts S} {read : Ghosts R} where
  -- the target is the end of the plaintext, by the payload's length
  abbrev pub ToEnd : StreamReader S R suite read → SeekFrom → Type 0
  ToEnd r to = IsToEnd (length (payload_of r).bytes) to (place_of r)

  -- Which place it leads to, by the order of the tests, and at the end by the last chunk; and why it refuses, whether or not the device failed, and
  -- whatever the input's end is. The first test asks the inner reader nothing.
  pub record LeadsInPayload (below : Error → Type 0) (old new : StreamReader S R suite read) (to : SeekFrom) (result : Result ℕ Error) : Type 0 where
    pub patient : IfErr result (λ e. IsInterruption e → ⊥)
    pub first : IsTrue (below_start to (place_of old)) → (result ≡ Err BeforeStart) × (new ≡ old)
    pub order : IsTrue (tells_of old) → IfOk result (λ n. sought_in to (place_of old) (length (payload_of old).bytes) ≡ Ok n)
    pub refused : IsTrue (tells_of old) → IfErr result (λ e. IsOutside e → sought_in to (place_of old) (length (payload_of old).bytes) ≡ Err e)
    pub ends : IsTrue (tells_of old) → OnOk result (ToEnd old to → EndsAsLast suite.seal_of (key_of old) (payload_of old).bytes)
    pub bad : IsTrue (tells_of old) → IsTrue (payload_of old).ends_well
        → IfErr result (λ e. e ≢ OutOfMemory → IsQuiet (faults_of old) (faults_of new)
        → IsRefusedTarget suite.seal_of (key_of old) (payload_of old).bytes to (place_of old) e)
    pub says : IsTrue (tells_of old) → IfErr result (SaysWhySeek below old new to)

  -- What is the same after it, and whether it has failed: a success clears a failure, a refused target leaves all as it was, the inner reader before
  -- what its content has there, and any other error fails. The chunk at a place before the end will be judged by itself.
  pub record LeavesSought (old new : StreamReader S R suite read) (to : SeekFrom) (result : Result ℕ Error) : Type 0 where
    pub payload : IsTrue (tells_of old) → payload_of new ≡ payload_of old
    pub key : key_of new ≡ key_of old
    pub inner_end : IsTrue (tells_of old) → OnOk result ((inner_rest_of new).ends_well ≡ (payload_of old).ends_well)
    pub inner_place : IsTrue (tells_of old) → IfErr result (λ e. IsOutside e → read.place (inner_of new) ≡ read.place (inner_of old))
    pub inner_rest : IsTrue (tells_of old) → (IsTrue (below_start to (place_of old)) → ⊥)
        → IfErr result (λ e. IsOutside e → inner_rest_of new ≡ from_place (read.place (inner_of old)) (read.content (inner_of old)))
    pub clears : OnOk result (HasFailed new → ⊥)
    pub unmoved : IfErr result (λ e. IsOutside e
        → (HasFailed new → HasFailed old) × (HasFailed old → HasFailed new) × (place_of new ≡ place_of old) × (IsHolding old → IsHolding new)
        × (IsAfterLast old → IsAfterLast new) × (wanted_of new ≡ wanted_of old) × (opens_of new ≡ opens_of old))
    pub fails : IfErr result (λ e. (IsOutside e → ⊥) → HasFailed new)
    pub judges : IsTrue (tells_of old) → OnOk result ((ToEnd old to → ⊥) → IsAfterLast new → ⊥)

  -- How often it opens a chunk: only for a target at the end, once, and not where the last chunk is held as the last.
  pub record OpensOnceAtMost (old new : StreamReader S R suite read) (to : SeekFrom) (result : Result ℕ Error) : Type 0 where
    pub counts : opens_of old ≤ opens_of new
    pub most : opens_of new ≤ opens_of old + 1
    pub end : IsTrue (tells_of old) → (ToEnd old to → ⊥) → opens_of new ≡ opens_of old
    pub held : IsTrue (tells_of old) → HoldsEnd old → opens_of new ≡ opens_of old

  -- The opened chunks stay, and a read at a place in one of them opens nothing. Where the last chunk has to be opened, the
  -- one that was used last stays beside it. A target at the end uses the last chunk; a full one may be held without the
  -- verdict on it, and isn't one of the two then. One that had failed has none but the last chunk, where that was the target.
  pub record KeepsSought (old new : StreamReader S R suite read) (to : SeekFrom) (result : Result ℕ Error) : Type 0 where
    pub keeps : IsTrue (tells_of old) → OnOk result ((ToEnd old to → HoldsEnd old) → (b : ℕ) → HasChunk old b → HasChunk new b)
    pub unmoved_chunks : IfErr result (λ e. IsOutside e → (last_used_of new ≡ last_used_of old) × ((b : ℕ) → HasChunk old b → HasChunk new b))
    pub same_last : IsTrue (tells_of old) → OnOk result ((ToEnd old to → ⊥) → (b : ℕ) → last_used_of old ≡ Some b → last_used_of new ≡ Some b)
    pub keeps_last : OnOk result ((b : ℕ) → last_used_of old ≡ Some b → HasChunk new b)
    pub holds_end : IsTrue (tells_of old) → OnOk result (ToEnd old to → HoldsEnd new)
    pub uses_end : IsTrue (tells_of old) → OnOk result
        (ToEnd old to → (length (payload_of old).bytes % 65552 ≡ 0 → ⊥) → last_used_of new ≡ Some (final_chunk (length (payload_of old).bytes)))
    pub none : IsTrue (tells_of old) → HasFailed old
        → OnOk result ((b : ℕ) → HasChunk new b → ToEnd old to × (b ≡ final_chunk (length (payload_of old).bytes)))
    pub unheld : IsTrue (tells_of old) → HasFailed old → OnOk result ((ToEnd old to → ⊥) → IsHolding new → ⊥)
    pub finds : IsTrue (tells_of old) → IfOk result (λ n. (ToEnd old to → ⊥) → HasChunk old (n / 65536) → IsHolding new)

  -- All that a seek of a `StreamReader` ensures: that of every reader that seeks, where it leads
  -- and why it refuses, what it leaves, what it opens and which of the opened chunks it has then.
  pub record SeeksPayload (below : Error → Type 0) (old new : StreamReader S R suite read) (to : SeekFrom) (result : Result ℕ Error) : Type 0 where
    pub seeks : Seeks tells_of steady_of content_of place_of plain_rest_of faults_of refuses_of (OrTooLong below) old new to result
    pub target : LeadsInPayload below old new to result
    pub leaves : LeavesSought old new to result
    pub opens : OpensOnceAtMost old new to result
    pub chunks : KeepsSought old new to result
