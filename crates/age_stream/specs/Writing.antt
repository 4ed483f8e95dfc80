-- What a `StreamWriter` has taken, and what it sent to its inner writer.
use Rattle.std.specs.Prelude.{◌≡◌, ◌≢◌, Bool, ℕ, zero, suc, ◌+◌, ◌*◌, ◌^◌, ◌≤◌, ◌<◌, ◌⊎◌, true, false, List, [], ◌++◌, length, take, drop, vec_len, Result, IfErr, IfOk, IsOk, OnErr, OnOk, Ok, Err, codes}
use Rattle.std.specs.Fmt.{decimal}
use Rattle.age_error.specs.declared.io.Error.{Error}
use Rattle.age_error.specs.declared.io.Error.TheVariants.{Failed, TooLong}
use Rattle.age_io.specs.declared.traits.Write.{Ghosts as WriteGhosts}
use Rattle.age_io.specs.Copying.{AppendsFront}
use Rattle.age_io.specs.Writing.{KeepsWriter}
use Rattle.age_stream.specs.Sending.{RefusesChunk}
use Rattle.age_v1.specs.Payload.{Seal, chunk_nonce, last_piece, middle_seals, payload}
use Rattle.age_stream.specs.declared.writer.StreamWriter.{StreamWriter}

-- the seals of the first n pieces of a text as middle chunks, of which the first has this number
abbrev pub middles : Seal → List ℕ → ℕ → ℕ → List ℕ → List ℕ
middles seal_of key number zero text = []
middles seal_of key number (suc n) text =
    seal_of key (chunk_nonce number false) (take 65536 text) ++ middles seal_of key (suc number) n (drop 65536 text)

-- it refused earlier, for another reason than its limit
abbrev pub HasFailed : {S W : Type 0} → StreamWriter S W → Type 0
HasFailed writer = writer.failed ≡ true

-- it did not
abbrev pub IsGood : {S W : Type 0} → StreamWriter S W → Type 0
IsGood writer = writer.failed ≡ false

-- the writer that the payload goes to
abbrev pub inner_of : {S W : Type 0} → StreamWriter S W → W
inner_of writer = writer.inner

-- it had failed before the first state: it took nothing and is as it was
pub record StaysFailed {S W : Type 0} (before : StreamWriter S W) (bytes : List ℕ) (after : StreamWriter S W) : Type 0 where
  pub failed : before.failed ≡ true
  pub none : bytes ≡ []
  pub same : after ≡ before

-- how many bytes of plaintext were taken in all
abbrev pub taken_len : {S W : Type 0} → StreamWriter S W → ℕ
taken_len writer = 65536 * writer.sealed + vec_len writer.held

-- what `{:?}` prints of it
abbrev pub debug_writer : {S W : Type 0} → StreamWriter S W → List ℕ
debug_writer writer = codes "StreamWriter { taken: " ++ decimal (taken_len writer) ++ codes ", .. }"

-- how many of them are held, since their chunk isn't sealed yet
abbrev pub held_len : {S W : Type 0} → StreamWriter S W → ℕ
held_len writer = vec_len writer.held

-- a writer under this key that has taken nothing, over an inner writer in this state
pub record WasMade {S W : Type 0} (key : List ℕ) (inner : W) (writer : StreamWriter S W) : Type 0 where
  pub good : writer.failed ≡ false
  pub same_key : writer.key ≡ key
  pub same_inner : writer.inner ≡ inner
  pub none_sealed : writer.sealed ≡ 0
  pub none_held : writer.held.items ≡ []

-- it holds these bytes more, and has sent nothing
pub record HoldsMore {S W : Type 0} (before : StreamWriter S W) (bytes : List ℕ) (after : StreamWriter S W) : Type 0 where
  pub held : held_len after ≡ held_len before + length bytes
  pub same_inner : after.inner ≡ before.inner
  pub total : taken_len after ≡ taken_len before + length bytes
  pub failed : after.failed ≡ before.failed

-- it took some of so many bytes, and holds the last of them if it took all
pub record TakesSome {S W : Type 0} (before : StreamWriter S W) (given taken : ℕ) (after : StreamWriter S W) : Type 0 where
  pub count : (0 < taken) × (taken ≤ given)
  pub total : taken_len after ≡ taken_len before + taken
  pub last : taken ≡ given → 0 < held_len after

-- why it refuses while it is given so many bytes: `Failed` where it failed earlier, else `TooLong` past 2^60 bytes in all, or
-- because a chunk can't be sent
abbrev pub Refused : {S W : Type 0} → (W → ℕ → Error → Type 0) → StreamWriter S W → ℕ → Error → Type 0
Refused refuses writer n e = ((writer.failed ≡ true) × (e ≡ Failed))
    ⊎ ((writer.failed ≡ false) × (((e ≡ TooLong) × (2 ^ 60 < taken_len writer + n)) ⊎ RefusesChunk refuses writer.inner e))

-- What a write took: all bytes. One that finds room in the piece that is held is never refused, and sends nothing.
pub record TakesAll {S W : Type 0} (old new : StreamWriter S W) (bytes : List ℕ) (result : Result ℕ Error) : Type 0 where
  pub all : IfOk result (λ n. n ≡ length bytes)
  pub counts : OnOk result (taken_len new ≡ taken_len old + length bytes)
  pub good : OnOk result (IsGood old × IsGood new)
  pub finds_room : IsGood old → held_len old + length bytes ≤ 65536 → taken_len old + length bytes ≤ 2 ^ 60 →
      IsOk result × (held_len new ≡ held_len old + length bytes) × (inner_of new ≡ inner_of old)

-- it holds a whole piece, and may take these bytes, a whole piece too, as the next
abbrev pub CanExchange : {S W : Type 0} → StreamWriter S W → List ℕ → Type 0
CanExchange writer bytes = IsGood writer × (held_len writer ≡ 65536) × (length bytes ≡ 65536) × (taken_len writer + length bytes ≤ 2 ^ 60)

-- What an exchange took: the piece, where it can. Where that can't be sent the writer is failed.
pub record TakesPiece {S W : Type 0} (old new : StreamWriter S W) (piece : List ℕ) (result : Result Bool Error) : Type 0 where
  pub can : result ≢ Ok false → CanExchange old piece
  pub must : CanExchange old piece → result ≢ Ok false
  pub counts : result ≡ Ok true → (taken_len new ≡ taken_len old + length piece) × (held_len new ≡ 65536) × IsGood new
  pub fails : OnErr result (HasFailed new)

-- What a refused write leaves: past the limit all is as it was, and so it is where the writer had failed; any other refusal fails it.
pub record FailsWriting {S W : Type 0} (old new : StreamWriter S W) (bytes : List ℕ) (result : Result ℕ Error) : Type 0 where
  pub past_limit : IsGood old → 2 ^ 60 < taken_len old + length bytes → (result ≡ Err TooLong) × (new ≡ old)
  pub fails : taken_len old + length bytes ≤ 2 ^ 60 → OnErr result (HasFailed new)
  pub failed : HasFailed old → (result ≡ Err Failed) × (new ≡ old)

-- what it holds, sealed as the last chunk
abbrev pub last_seal : {S W : Type 0} → Seal → StreamWriter S W → List ℕ
last_seal seal_of writer = seal_of writer.key (chunk_nonce writer.sealed true) writer.held.items

-- the inner writer of one that was finished or closed
pub record HandsBack {S W : Type 0} (write : WriteGhosts W) (old : StreamWriter S W) (inner : W) : Type 0 where
  pub same_tells : write.tells inner ≡ write.tells (inner_of old)
  pub no_fewer_faults : write.faults (inner_of old) ≤ write.faults inner
  pub narrows : (e : Error) → RefusesChunk write.refuses inner e → RefusesChunk write.refuses (inner_of old) e

-- What closing leaves: a writer that is failed. Where it had failed all is as it was, else the inner writer was given a chunk.
pub record ClosesWriter {S W T : Type 0} (write : WriteGhosts W) (old new : StreamWriter S W) (result : Result T Error) : Type 0 where
  pub failed : HasFailed old → (result ≡ Err Failed) × (new ≡ old)
  pub fails : HasFailed new
  pub why : IfErr result (Refused write.refuses old 0)
  pub hands_back : OnOk result (HandsBack write old (inner_of new))
  pub inner : IsGood old → KeepsWriter write.tells write.faults (RefusesChunk write.refuses) (inner_of old) (inner_of new) result

module _ {S W : Type 0} (seal_of : Seal) (inner_appended : W → List ℕ → W → Type 0) where
  -- the writer took these bytes: of what it held and these, the first pieces went out as middle chunks, and it holds the rest
  pub record Sent (before : StreamWriter S W) (bytes : List ℕ) (after : StreamWriter S W) : Type 0 where
    pub count : ℕ
    pub fits : 65536 * count ≤ length (before.held.items ++ bytes)
    pub same_key : after.key ≡ before.key
    pub sealed : after.sealed ≡ before.sealed + count
    pub held : after.held.items ≡ drop (65536 * count) (before.held.items ++ bytes)
    pub sent : inner_appended before.inner (middles seal_of before.key before.sealed count (before.held.items ++ bytes)) after.inner

  -- all pieces but the last went out: a full one only where a byte follows it, which is held
  pub record Took (before : StreamWriter S W) (bytes : List ℕ) (after : StreamWriter S W) : Type 0 where
    pub sending : Sent before bytes after
    pub followed : 0 < sending.count → 0 < length after.held.items

  -- Whatever became of it: a beginning of the seals, as middle chunks, of the first pieces of what it held and of these bytes was appended
  -- to the inner writer. A byte follows each of these pieces.
  pub record SendsFront (before : StreamWriter S W) (bytes : List ℕ) (after : W) : Type 0 where
    pub count : ℕ
    pub followed : 0 < count → 65536 * count < length (before.held.items ++ bytes)
    pub out : AppendsFront inner_appended (middles seal_of before.key before.sealed count (before.held.items ++ bytes)) before.inner after

  -- it failed between the two states: a beginning was sent of these bytes, which it was given, those of the failing write among them
  pub record FailedSince (before : StreamWriter S W) (bytes : List ℕ) (after : StreamWriter S W) : Type 0 where
    pub good : before.failed ≡ false
    pub failed : after.failed ≡ true
    pub sends : SendsFront before bytes after.inner

  -- One that had failed took nothing. One that failed since was given these bytes, and sent a beginning of them. One that is good took these
  -- bytes.
  abbrev pub Appended : StreamWriter S W → List ℕ → StreamWriter S W → Type 0
  Appended before bytes after = StaysFailed before bytes after
      ⊎ FailedSince before bytes after
      ⊎ ((before.failed ≡ false) × (after.failed ≡ false) × Took before bytes after)

-- where a writer was made under a key and took a plaintext since, its inner writer was given the seals, as middle chunks,
-- of all pieces of the plaintext but the last
abbrev pub HasSent : {S W : Type 0} → Seal → (W → List ℕ → W → Type 0) → (StreamWriter S W → List ℕ → StreamWriter S W → Type 0)
    → StreamWriter S W → Type 0
HasSent {S} {W} seal_of inner_appended appended writer =
    (start : StreamWriter S W) (key plain : List ℕ) (first : W) → WasMade key first start → appended start plain writer
    → inner_appended first (middle_seals seal_of key plain (last_piece (length plain))) writer.inner

-- Where a writer was made under a key and took a plaintext since, and was then given bytes: whatever it answered, its inner writer was given a
-- beginning of the payload of the plaintext and these bytes.
abbrev pub SendsPayload : {S W : Type 0} → Seal → (W → List ℕ → W → Type 0) → (StreamWriter S W → List ℕ → StreamWriter S W → Type 0) → Type 0
SendsPayload {S} {W} seal_of inner_appended appended =
    (start before : StreamWriter S W) (key plain bytes : List ℕ) (first after : W) → WasMade key first start → appended start plain before
    → IsGood before → SendsFront seal_of inner_appended before bytes after
    → AppendsFront inner_appended (payload seal_of key (plain ++ bytes)) first after

-- Where a writer was made under a key and was given a plaintext since: whatever became of it, its inner writer has a beginning of the payload of
-- that plaintext, however it goes on.
abbrev pub SendsFrontOfPayload : {S W : Type 0} → Seal → (W → List ℕ → W → Type 0) → (StreamWriter S W → List ℕ → StreamWriter S W → Type 0) → Type 0
SendsFrontOfPayload {S} {W} seal_of inner_appended appended =
    (start after : StreamWriter S W) (key plain more : List ℕ) (first : W) → WasMade key first start → appended start plain after
    → AppendsFront inner_appended (payload seal_of key (plain ++ more)) first after.inner

-- Where a writer was made under a key and was given a plaintext since, and was then closed, which leaves a failed one as it is: whatever it
-- answered, its inner writer has a beginning of the plaintext's payload.
abbrev pub ClosesPayload : {S W : Type 0} → Seal → (W → List ℕ → W → Type 0) → (StreamWriter S W → List ℕ → StreamWriter S W → Type 0) → Type 0
ClosesPayload {S} {W} seal_of inner_appended appended =
    (start before : StreamWriter S W) (key plain : List ℕ) (first after : W) → WasMade key first start → appended start plain before
    → (HasFailed before → after ≡ before.inner) → AppendsFront inner_appended (last_seal seal_of before) before.inner after
    → AppendsFront inner_appended (payload seal_of key plain) first after

-- where a writer was made under a key and took a plaintext since, its inner writer was given the plaintext's payload
abbrev pub Finishes : {S W : Type 0} → Seal → (W → List ℕ → W → Type 0) → (StreamWriter S W → List ℕ → StreamWriter S W → Type 0)
    → StreamWriter S W → Result W Error → Type 0
Finishes {S} {W} seal_of inner_appended appended writer result =
    (start : StreamWriter S W) (key plain : List ℕ) (first : W) → WasMade key first start → appended start plain writer
    → IfOk result (inner_appended first (payload seal_of key plain))

-- the same of one that was closed
abbrev pub Closes : {S W T : Type 0} → Seal → (W → List ℕ → W → Type 0) → (StreamWriter S W → List ℕ → StreamWriter S W → Type 0)
    → StreamWriter S W → StreamWriter S W → Result T Error → Type 0
Closes {S} {W} seal_of inner_appended appended old new result =
    (start : StreamWriter S W) (key plain : List ℕ) (first : W) → WasMade key first start → appended start plain old
    → OnOk result (inner_appended first (payload seal_of key plain) (inner_of new))

-- where a writer was made and took a plaintext since, a success says that the plaintext is within the limit
abbrev pub StaysWithin : {S W T : Type 0} → (StreamWriter S W → List ℕ → StreamWriter S W → Type 0) → StreamWriter S W → Result T Error → Type 0
StaysWithin {S} {W} appended writer result =
    (start : StreamWriter S W) (key plain : List ℕ) (first : W) → WasMade key first start → appended start plain writer
    → OnOk result (length plain ≤ 2 ^ 60)
