-- What the steps of a `StreamReader` do, each from a state to the next.
use Rattle.std.specs.Prelude.{◌≡◌, ◌≢◌, ℕ, ◌+◌, ◌*◌, ◌/◌, ◌<◌, ◌≤◌, ◌⊎◌, Bool, true, false, IsTrue, None, Some, List, length, take, drop, Result, IfOk, IfErr, OnOk, OnErr}
use Rattle.age_error.specs.declared.io.Error.{Error}
use Rattle.age_error.specs.declared.io.Error.TheVariants.{OutOfMemory, AfterLast, BadEnd}
use Rattle.age_suite.specs.Suite.{one_more}
use Rattle.age_suite.specs.declared.suite.Suite.{Ghosts as SuiteGhosts}
use Rattle.age_io.specs.declared.traits.Read.{Ghosts}
use Rattle.age_io.specs.Cursor.{IsOutside}
use Rattle.age_io.specs.Stretch.{from_place, IsCleanEnd, IsFault}
use Rattle.age_io.specs.Reading.{Delivers, EndsEarly, IsQuiet, most_faults}
use Rattle.age_stream.specs.declared.reader.StreamReader.{StreamReader}
use Rattle.age_v1.specs.PayloadAnswers.{Gives, RefusesRead, RefusesItself, StandAt, StopsNear, IsGoodEnd}
use Rattle.age_stream.specs.Cache.{last_used, HasOne}
use Rattle.age_stream.specs.Reader.{payload_of, place_of, plain_rest_of, tells_of, wanted_of, HasEnd, IsHolding, IsAfterLast}
use Rattle.age_v1.specs.Payload.{chunk_nonce}
use Rattle.age_stream.specs.Naming.{RefusedOnTheWay}
use Rattle.age_stream.specs.Reading.{spare}
use Rattle.age_v1.specs.DeliveredPayload.{text_at}

module _ {S R : Type 0} {suite : SuiteGhosts S} {read : Ghosts R} where
  -- what is said of a refusal that is neither for want of memory nor after a fault of the device
  abbrev pub Quietly : (old new : StreamReader S R suite read) → Error → Type 0 → Type 0
  Quietly old new e Said = e ≢ OutOfMemory → IsQuiet (read.faults old.source.inner) (read.faults new.source.inner) → Said

  -- and of that of a reader that tells its bytes
  abbrev pub Told : (old new : StreamReader S R suite read) → Error → Type 0 → Type 0
  Told old new e Said = IsTrue (tells_of old) → Quietly old new e Said

  -- the inner reader was asked, and nothing else changed
  pub record Stays (old new : StreamReader S R suite read) : Type 0 where
    pub number : new.place.number ≡ old.place.number
    pub at : new.place.at ≡ old.place.at
    pub held : new.place.held ≡ old.place.held
    pub cache : new.cache ≡ old.cache
    pub key : new.key ≡ old.key
    pub opens : new.opens ≡ old.opens

  -- it stands at the same place
  pub record StaysAt (old new : StreamReader S R suite read) : Type 0 where
    pub key : new.key ≡ old.key
    pub sought : new.place.sought ≡ old.place.sought
    pub place : place_of new ≡ place_of old

  -- A chunk is held that has a byte at the place, or is the last, which has none there. What can still be delivered is the same.
  pub record HasOpenedAt (old new : StreamReader S R suite read) : Type 0 where
    pub good : (new.place.failed ≡ false) × (new.place.held ≡ true)
    pub rest : IsTrue (tells_of old) → plain_rest_of new ≡ plain_rest_of old
    pub end : IsTrue (tells_of old) → new.place.at ≡ length new.cache.first.piece.items → IsCleanEnd (plain_rest_of old)
    pub ended : IsTrue (tells_of old) → new.place.at ≡ length new.cache.first.piece.items
        → IsGoodEnd suite.seal_of old.key (payload_of old) (place_of old)
    pub inner_end : IsTrue (tells_of old) → (read.rest new.source.inner).ends_well ≡ (read.rest old.source.inner).ends_well
    pub opened : (IsHolding old → ⊥) → one_more old.opens ≤ new.opens
    pub keeps_last : (b : ℕ) → last_used old.cache ≡ Some b → HasOne new.cache b
    pub has : IsHolding old → (b : ℕ) → HasOne old.cache b → HasOne new.cache b

  -- The chunk at the place is refused for what it is, or the inner reader refused before it was whole. The reader has failed.
  pub record RefusesAtPlace (old new : StreamReader S R suite read) (e : Error) : Type 0 where
    pub fails : new.place.failed ≡ true
    pub cause : Told old new e (IsFault (plain_rest_of old))
    pub refused : Told old new e (RefusesItself suite.seal_of old.key (payload_of old) (read.rest old.source.inner) (wanted_of old) (place_of old) e)

  -- how often it opens a chunk: at most twice, not at all where it has the chunk,
  -- and no more often than there are chunks up to the place that it comes to
  pub record OpensFew {T : Type 0} (old new : StreamReader S R suite read) (result : Result T Error) : Type 0 where
    pub counts : old.opens ≤ new.opens
    pub most : new.opens ≤ old.opens + 2
    pub none : IsHolding old → new.opens ≡ old.opens
    pub spared : OnOk result (new.opens + spare new.place.held new.cache.first.last + old.place.number ≤ old.opens + spare old.place.held
        old.cache.first.last +
        new.place.number)
    pub spent : new.opens + old.place.number ≤ old.opens + spare old.place.held old.cache.first.last + new.place.number

  -- After a middle chunk that was given whole the place is the front of the next. Of the inner reader, the chunks and what can still be delivered
  -- nothing changes.
  pub record PassesOn (old new : StreamReader S R suite read) : Type 0 where
    pub good : new.place.failed ≡ false
    pub source : new.source ≡ old.source
    pub key : new.key ≡ old.key
    pub sought : new.place.sought ≡ old.place.sought
    pub cache : new.cache ≡ old.cache
    pub opens : new.opens ≡ old.opens
    pub place : place_of new ≡ place_of old
    pub rest : plain_rest_of new ≡ plain_rest_of old
    pub wanted : wanted_of new ≡ wanted_of old

  -- After the last chunk there is a clean end.
  pub record EndsClean (old new : StreamReader S R suite read) : Type 0 where
    pub good : new.place.failed ≡ false
    pub end : IsTrue (tells_of old) → IsCleanEnd (plain_rest_of old) × (plain_rest_of new ≡ plain_rest_of old)
    pub ended : IsTrue (tells_of old) → IsGoodEnd suite.seal_of old.key (payload_of old) (place_of old)
    pub inner_end : IsTrue (tells_of old) → (read.rest new.source.inner).ends_well ≡ (read.rest old.source.inner).ends_well

  -- Bytes follow the last chunk, or the inner reader refused in place of its end. The reader has failed.
  pub record RefusesPastLast (old new : StreamReader S R suite read) (e : Error) : Type 0 where
    pub fails : new.place.failed ≡ true
    pub cause : Told old new e (IsFault (plain_rest_of old))
    pub refused : Told old new e (RefusesRead suite.seal_of old.key (payload_of old) (read.rest old.source.inner) (wanted_of old) (place_of old) e)
    pub after_last : Told old new e (EndsEarly 1 (read.rest old.source.inner) ⊎ (e ≡ AfterLast))

  -- Bytes of the chunk that is held were given.
  pub record GivesHeld (old new : StreamReader S R suite read) : Type 0 where
    pub good : new.place.failed ≡ false
    pub source : new.source ≡ old.source
    pub key : new.key ≡ old.key
    pub sought : new.place.sought ≡ old.place.sought
    pub opens : new.opens ≡ old.opens
    pub number : new.place.number ≡ old.place.number
    pub held : new.place.held ≡ old.place.held
    pub last : new.cache.first.last ≡ old.cache.first.last
    pub has : (b : ℕ) → HasOne old.cache b → HasOne new.cache b

  -- where a read leads: as far as it gave bytes, and nowhere if it was refused, when it has failed
  pub record Moves (old new : StreamReader S R suite read) (result : Result ℕ Error) : Type 0 where
    pub key : new.key ≡ old.key
    pub sought : new.place.sought ≡ old.place.sought
    pub good : OnOk result (new.place.failed ≡ false)
    pub fails : OnErr result (new.place.failed ≡ true)
    pub placed : IfOk result (λ n. place_of new ≡ place_of old + n)
    pub stayed : OnErr result (place_of new ≡ place_of old)

  -- what a read into a buffer says of the payload, and what it does to the buffer
  pub record AnswersRead (old new : StreamReader S R suite read) (buf new_buf : List ℕ) (result : Result ℕ Error) : Type 0 where
    pub gives : IsTrue (tells_of old) → IfOk result
        (λ n. 0 < n → Gives suite.seal_of old.key (payload_of old) (place_of old) (length buf) (take n new_buf))
    pub ended : IsTrue (tells_of old) → IfOk result (λ n. n ≡ 0 → IsGoodEnd suite.seal_of old.key (payload_of old) (place_of old))
    pub inner_end : IsTrue (tells_of old) → OnOk result ((read.rest new.source.inner).ends_well ≡ (read.rest old.source.inner).ends_well)
    pub refused : IsTrue (tells_of old) → IfErr result (λ e.
        Quietly old new e (RefusesRead suite.seal_of old.key (payload_of old) (read.rest old.source.inner) (wanted_of old) (place_of old) e))
    pub by_itself : IsTrue (tells_of old) → (IsAfterLast old → ⊥) → IfErr result (λ e.
        Quietly old new e (RefusesItself suite.seal_of old.key (payload_of old) (read.rest old.source.inner) (wanted_of old) (place_of old) e))
    pub after_last : IsTrue (tells_of old) → IsAfterLast old
        → IfErr result (λ e. Quietly old new e (EndsEarly 1 (read.rest old.source.inner) ⊎ (e ≡ AfterLast)))
    pub beyond : IfOk result (λ n. drop n new_buf ≡ drop n buf)
    pub untouched : OnErr result (new_buf ≡ buf)

  -- which of the opened chunks a read has then
  pub record ReadsChunks (old new : StreamReader S R suite read) (result : Result ℕ Error) : Type 0 where
    pub held : OnOk result (new.place.held ≡ true)
    pub at_end : IsAfterLast old → new.opens ≡ old.opens
    pub opened : (IsHolding old → ⊥) → IfOk result (λ n. 0 < n → one_more old.opens ≤ new.opens)
    pub uses : IfOk result (λ n. 0 < n → last_used new.cache ≡ Some (place_of old / 65536))
    pub keeps_last : OnOk result ((b : ℕ) → last_used old.cache ≡ Some b → HasOne new.cache b)
    pub has : IsHolding old ⊎ IsAfterLast old → OnOk result ((b : ℕ) → HasOne old.cache b → HasOne new.cache b)
    pub same_last : IsAfterLast old → OnOk result (last_used new.cache ≡ last_used old.cache)
    pub finds : IfOk result (λ n. 0 < n → (IsAfterLast new → ⊥) → HasOne new.cache (place_of new / 65536) → IsHolding new)

  -- Reads in turn into room that ends in the chunk in which it begins, of this number, which gave so many bytes in all, have that chunk and the one
  -- that had been used last; both where none was opened.
  pub record FullInOne {T : Type 0} (old new : StreamReader S R suite read) (chunk count : ℕ) (result : Result T Error) : Type 0 where
    pub opens : new.opens ≤ old.opens + 2
    pub none : IsHolding old → new.opens ≡ old.opens
    pub uses : OnOk result (0 < count → last_used new.cache ≡ Some chunk)
    pub keeps_last : OnOk result ((b : ℕ) → last_used old.cache ≡ Some b → HasOne new.cache b)
    pub keeps : IsHolding old → OnOk result ((b : ℕ) → HasOne old.cache b → HasOne new.cache b)

  -- Bytes were read until so many had come or the end was found.
  pub record ReadsFull (old new : StreamReader S R suite read) (asked : ℕ) (given : List ℕ) (count : ℕ) : Type 0 where
    pub good : new.place.failed ≡ false
    pub bytes : IsTrue (tells_of old) → Delivers given (plain_rest_of old) (plain_rest_of new)
    pub stored : IsTrue (tells_of old) → StandAt suite.seal_of old.key (payload_of old).bytes (place_of old) given
    pub end : IsTrue (tells_of old) → count < asked → IsCleanEnd (plain_rest_of new)
    pub ended : IsTrue (tells_of old) → count < asked → IsGoodEnd suite.seal_of old.key (payload_of old) (place_of new)
    pub inner_end : IsTrue (tells_of old) → (read.rest new.source.inner).ends_well ≡ (read.rest old.source.inner).ends_well

  -- A read was refused before so many had come. The reader has failed.
  pub record RefusesFull (old new : StreamReader S R suite read) (asked count : ℕ) (e : Error) : Type 0 where
    pub fails : new.place.failed ≡ true
    pub short : count < asked
    pub cause : Told old new e ((plain_rest_of old).ends_well ≡ false)
    pub refused : Told old new e ((read.rest old.source.inner).ends_well ≡ true
        → StopsNear suite.seal_of old.key (payload_of old).bytes (place_of new) e)

  -- ---- the steps of a seek

  -- A step of a seek is refused, and not for its target. The reader has failed
  -- at the same place. A payload that ends well is a cause only as is said here.
  pub record RefusesStep (old new : StreamReader S R suite read) (Cause : Error → Type 0) (e : Error) : Type 0 where
    pub fails : new.place.failed ≡ true
    pub place : place_of new ≡ place_of old
    pub refusal : IsOutside e → ⊥
    pub cause : IsTrue (tells_of old) → IsTrue (payload_of old).ends_well → Quietly old new e (Cause e)

  -- The last chunk doesn't open as the last.
  abbrev pub IsNoLast : StreamReader S R suite read → ℕ → Error → Type 0
  IsNoLast r number e = (e ≡ BadEnd) × (suite.opened r.key (chunk_nonce number true) (text_at number (payload_of r)) ≡ None)

  -- Why a seek to the end refuses once the payload's length is known: the last
  -- chunk doesn't open, or no memory is there for it, or the reader below refused.
  abbrev pub SaysWhyEnd : (Error → Type 0) → (old new : StreamReader S R suite read) → ℕ → Error → Type 0
  SaysWhyEnd seek_refuses old new number e =
      (IsTrue (tells_of old) → IsNoLast old number e) ⊎ (e ≡ OutOfMemory) ⊎ RefusedOnTheWay read seek_refuses new.source.inner e

  -- It stands at a place before the end, and holds the chunk there if it has that. One that had failed has none.
  pub record Enters (old new : StreamReader S R suite read) (size place : ℕ) (was_failed : Bool) : Type 0 where
    pub good : new.place.failed ≡ false
    pub arrives : place_of new ≡ place
    pub before : IsAfterLast new → ⊥
    pub unspent : read.faults new.source.inner < most_faults
    pub rest : IsTrue (tells_of old) → read.rest new.source.inner ≡ from_place new.source.taken (payload_of old)
    pub more : new.place.held ≡ false → 65552 * new.place.number < size
    pub has : was_failed ≡ false → (b : ℕ) → HasOne old.cache b → HasOne new.cache b
    pub same_last : was_failed ≡ false → last_used new.cache ≡ last_used old.cache
    pub none : was_failed ≡ true → (new.place.held ≡ false) × ((b : ℕ) → HasOne new.cache b → ⊥)
    pub finds : IsTrue (tells_of old) → was_failed ≡ false → HasOne old.cache (place / 65536)
        → (new.place.held ≡ true) × (new.place.at < length new.cache.first.piece.items)

  -- It stands at the end of the plaintext, of this length, and holds the last chunk, of this number, as the last.
  pub record EntersEnd (old new : StreamReader S R suite read) (number len : ℕ) : Type 0 where
    pub good : (new.place.failed ≡ false) × (new.place.held ≡ true) × (new.cache.first.last ≡ true) × (new.place.number ≡ number)
    pub arrives : IsTrue (tells_of old) → place_of new ≡ len
    pub inner_end : IsTrue (tells_of old) → (read.rest new.source.inner).ends_well ≡ (payload_of old).ends_well

  -- which of the opened chunks it has after the last one was opened
  pub record KeepsBesideLast (old new : StreamReader S R suite read) (number : ℕ) : Type 0 where
    pub used : (new.cache.used ≡ true) × (new.cache.first.number ≡ number)
    pub had : (b : ℕ) → HasOne new.cache b → (b ≡ number) ⊎ HasOne old.cache b
    pub keeps_last : (b : ℕ) → last_used old.cache ≡ Some b → HasOne new.cache b

  -- and after a seek to the end
  pub record KeepsAtEnd (old new : StreamReader S R suite read) (number : ℕ) (was_failed : Bool) : Type 0 where
    pub alone : was_failed ≡ true → (b : ℕ) → HasOne new.cache b → b ≡ number
    pub uses : new.cache.judged ≡ true → last_used new.cache ≡ Some number
    pub keeps_last : was_failed ≡ false → (b : ℕ) → last_used old.cache ≡ Some b → HasOne new.cache b
    pub has : was_failed ≡ false → HasEnd old number → (b : ℕ) → HasOne old.cache b → HasOne new.cache b
