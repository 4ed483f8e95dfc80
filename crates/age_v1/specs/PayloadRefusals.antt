-- How a read of a payload from front to end is refused.
use Rattle.std.specs.Prelude.{◌≡◌, ℕ, ◌+◌, ◌*◌, ◌^◌, ◌<◌, ◌≤◌, ◌⊎◌, List, [], length, take, ⊤}
use Rattle.age_error.specs.Bytes.{AreBytes}
use Rattle.age_error.specs.declared.io.Error.{Error}
use Rattle.age_error.specs.declared.io.Error.TheVariants.{Truncated, BadChunk, AfterLast, LastChunkEmpty, TooLong, OutOfMemory}
use Rattle.age_v1.specs.Payload.{Seal, middle_seals, OpensAsMiddle, OpensAsLast, IsBadChunk}

-- Chunk i with this plaintext isn't refused by itself: it has a byte unless it is the only one, and no byte at place 2 ^ 60 or later.
pub record IsAllowed (i : ℕ) (plain : List ℕ) : Type 0 where
  pub some : 0 < i → 0 < length plain
  pub limit : 0 < length plain → i < 2 ^ 44

-- Why a read stops at chunk i, after chunks that open as middle ones. A chunk is judged by itself before what follows it is looked at.
abbrev pub StopsAt : Seal → List ℕ → List ℕ → ℕ → Error → Type 0
-- No byte is left, and no chunk opened as the last. (age-encryption.org/v1, Payload: decryption signals an error if the end
-- of the file is reached without decrypting a final chunk.)
StopsAt seal_of key sealed i Truncated = length sealed ≡ 65552 * i
-- a chunk is there, and opens neither as a middle one nor as the last
StopsAt seal_of key sealed i BadChunk = (65552 * i < length sealed) × IsBadChunk seal_of key sealed i
-- the chunk opens as the last to nothing, and isn't the only one
StopsAt seal_of key sealed i LastChunkEmpty = (0 < i) × OpensAsLast seal_of key sealed i []
-- the chunk opens to a byte or more, and the first has its place in the plaintext at 2 ^ 60 or later
StopsAt seal_of key sealed i TooLong =
    (2 ^ 44 ≤ i) × ((plain : List ℕ) × (0 < length plain) × (OpensAsMiddle seal_of key sealed i plain ⊎ OpensAsLast seal_of key sealed i plain))
-- the chunk opens as the last and isn't refused by itself, and bytes follow it
StopsAt seal_of key sealed i AfterLast =
    (65552 * (i + 1) < length sealed) × ((plain : List ℕ) × IsAllowed i plain × OpensAsLast seal_of key sealed i plain)
-- memory was refused: nothing is said of the bytes
StopsAt seal_of key sealed i OutOfMemory = ⊤
-- no other refusal is one of the bytes
StopsAt seal_of key sealed i other = ⊥

-- the refusal of a payload that is read from front to end
pub record RefusesFrontToEnd (seal_of : Seal) (key sealed : List ℕ) (error : Error) : Type 0 where
  -- the chunk at which the read stops
  pub place : ℕ
  -- the chunks before it open as middle ones, and none of them is too far
  pub before : (i : ℕ) → i < place → (plain : List ℕ) × OpensAsMiddle seal_of key sealed i plain
  pub reach : place ≤ 2 ^ 44
  pub stops : StopsAt seal_of key sealed place error

-- the first n chunks are the middle seals of the pieces of this plaintext
pub record IsOpenedTo (seal_of : Seal) (key sealed : List ℕ) (n : ℕ) (plain : List ℕ) : Type 0 where
  pub len : length plain ≡ 65536 * n
  pub bytes : AreBytes plain
  pub within : 65552 * n ≤ length sealed
  pub front : take (65552 * n) sealed ≡ middle_seals seal_of key plain n
