-- What a read of a payload comes to.
use Rattle.std.specs.Prelude.{◌≡◌, ◌≢◌, ℕ, ◌+◌, ◌/◌, ◌<◌, ◌≤◌, ◌⊎◌, IsTrue, Some, List, length, take, drop, Result, IfErr, IfOk, OnErr, OnOk, Ok, Err}
use Rattle.age_error.specs.Refusals.{IsInterruption}
use Rattle.age_error.specs.declared.io.Error.{Error}
use Rattle.age_error.specs.declared.io.Error.TheVariants.{AfterLast, Failed, OutOfMemory}
use Rattle.age_suite.specs.Suite.{one_more}
use Rattle.age_suite.specs.declared.suite.Suite.{Ghosts as SuiteGhosts}
use Rattle.age_io.specs.declared.traits.Read.{Ghosts}
use Rattle.age_io.specs.Reading.{EndsEarly, IsQuiet, Reads}
use Rattle.age_stream.specs.declared.reader.StreamReader.{StreamReader}
use Rattle.age_v1.specs.PayloadAnswers.{Gives, RefusesRead, RefusesItself, IsPayloadEnd, IsGoodEnd}
use Rattle.age_stream.specs.Reader.{payload_of, key_of, inner_of, inner_rest_of, wanted_of, opens_of, last_used_of, HasChunk, HasFailed, HasSought, IsHolding, IsAfterLast, tells_of, steady_of, content_of, place_of, plain_rest_of, faults_of, refuses_of}
use Rattle.age_stream.specs.Keeping.{IsReadRefusal, OwnOrInner}
use Rattle.age_stream.specs.Naming.{SaysWhy}

module _ {S R : Type 0} {suite : SuiteGhosts S} {read : Ghosts R} where
  -- Which bytes it gives, and what the payload is where it finds the end. Where no seek was made, the payload was that of exactly the plaintext then.
  pub record GivesPlaintext (old new : StreamReader S R suite read) (buf new_buf : List ℕ) (result : Result ℕ Error) : Type 0 where
    pub gives : IsTrue (tells_of old) → IfOk result
        (λ n. 0 < n → Gives suite.seal_of (key_of old) (payload_of old) (place_of old) (length buf) (take n new_buf))
    pub ended : IsTrue (tells_of old) → IfOk result
        (λ n. n ≡ 0 → 0 < length new_buf → IsGoodEnd suite.seal_of (key_of old) (payload_of old) (place_of old))
    pub finished : IsTrue (tells_of old) → (HasSought old → IsTrue (content_of old).ends_well) → IfOk result (λ n. n ≡ 0 → 0 < length new_buf →
        IsPayloadEnd suite.seal_of (key_of old) (payload_of old) (place_of old) (content_of old).bytes)
    pub inner_end : IsTrue (tells_of old) → OnOk result ((inner_rest_of new).ends_well ≡ (inner_rest_of old).ends_well)

  -- Why it refuses. Only a reader that came through a chunk which it holds as the last looks at the bytes after it, and never judges them as a chunk;
  -- right after a seek the chunk at the place is judged by itself. Over any reader a refusal is that of one of its reads, by that name, or of what
  -- they gave, where none of them was refused. That the end is bad it says only where the inner reader does: so only a seek does.
  pub record RefusesPayload (old new : StreamReader S R suite read) (result : Result ℕ Error) : Type 0 where
    pub patient : IfErr result (λ e. IsInterruption e → ⊥)
    pub refused : IsTrue (tells_of old) → (HasFailed old → ⊥) → IfErr result (λ e. e ≢ OutOfMemory → IsQuiet (faults_of old) (faults_of new) →
        RefusesRead suite.seal_of (key_of old) (payload_of old) (inner_rest_of old) (wanted_of old) (place_of old) e)
    pub by_itself : IsTrue (tells_of old) → (HasFailed old → ⊥) → (IsAfterLast old → ⊥)
        → IfErr result (λ e. e ≢ OutOfMemory → IsQuiet (faults_of old) (faults_of new) →
        RefusesItself suite.seal_of (key_of old) (payload_of old) (inner_rest_of old) (wanted_of old) (place_of old) e)
    pub after_last : IsTrue (tells_of old) → (HasFailed old → ⊥) → IsAfterLast old
        → IfErr result (λ e. e ≢ OutOfMemory → IsQuiet (faults_of old) (faults_of new) →
        EndsEarly 1 (inner_rest_of old) ⊎ (e ≡ AfterLast))
    pub names : (HasFailed old → ⊥) → IfErr result (OwnOrInner read IsReadRefusal (inner_of old))
    pub says : (HasFailed old → ⊥) → IfErr result (SaysWhy old new)

  -- What is the same after it, and whether it has failed. Of the buffer nothing changes but what was read, and nothing where it refuses.
  pub record LeavesPayload (old new : StreamReader S R suite read) (buf new_buf : List ℕ) (result : Result ℕ Error) : Type 0 where
    pub payload : IsTrue (tells_of old) → payload_of new ≡ payload_of old
    pub key : key_of new ≡ key_of old
    pub sought : HasSought new → HasSought old
    pub beyond : IfOk result (λ n. drop n new_buf ≡ drop n buf)
    pub untouched : OnErr result (new_buf ≡ buf)
    pub failed : HasFailed old → (result ≡ Err Failed) × (new ≡ old)
    pub fails : OnErr result (HasFailed new)
    pub good : OnOk result (HasFailed new → ⊥)
    pub empty : (HasFailed old → ⊥) → length buf ≡ 0 → (result ≡ Ok 0) × (new ≡ old)

  -- How often it opens a chunk: at most twice, and not where it has the one at the place, nor after the last.
  pub record OpensTwiceAtMost (old new : StreamReader S R suite read) (result : Result ℕ Error) : Type 0 where
    pub counts : opens_of old ≤ opens_of new
    pub most : opens_of new ≤ opens_of old + 2
    pub held : IsHolding old → opens_of new ≡ opens_of old
    pub at_end : IsAfterLast old → opens_of new ≡ opens_of old
    pub opened : (IsHolding old → ⊥) → IfOk result (λ n. 0 < n → one_more (opens_of old) ≤ opens_of new)

  -- Of the opened chunks it has the one that it reads, and the one that was used last before; both that it had where it opens none. One that comes to
  -- the end of a chunk has the next one where that is opened.
  pub record KeepsRead (old new : StreamReader S R suite read) (result : Result ℕ Error) : Type 0 where
    pub uses : IfOk result (λ n. 0 < n → last_used_of new ≡ Some (place_of old / 65536))
    pub keeps_last : OnOk result ((b : ℕ) → last_used_of old ≡ Some b → HasChunk new b)
    pub keeps : IsHolding old ⊎ IsAfterLast old → OnOk result ((b : ℕ) → HasChunk old b → HasChunk new b)
    pub same_last : IsAfterLast old → OnOk result (last_used_of new ≡ last_used_of old)
    pub finds : IfOk result (λ n. 0 < n → (IsAfterLast new → ⊥) → HasChunk new (place_of new / 65536) → IsHolding new)

  -- All that a read of a `StreamReader` ensures: that of every reader, what it gives, why it refuses, what it leaves, what it opens and which of the
  -- opened chunks it has then.
  pub record ReadsPayload (old new : StreamReader S R suite read) (buf new_buf : List ℕ) (result : Result ℕ Error) : Type 0 where
    pub reads : Reads tells_of steady_of content_of place_of plain_rest_of faults_of refuses_of old new new_buf result
    pub gives : GivesPlaintext old new buf new_buf result
    pub refuses : RefusesPayload old new result
    pub leaves : LeavesPayload old new buf new_buf result
    pub opens : OpensTwiceAtMost old new result
    pub chunks : KeepsRead old new result
