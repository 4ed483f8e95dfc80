-- How sealed chunks are judged, and what they deliver.
use Rattle.std.specs.Prelude.{Bool, Err, List, None, Ok, Option, Result, Some, [], cond, drop, false, length, nat_lt, option_map, take, true, ℕ, ◌&&◌, ◌*◌, ◌++◌, ◌+◌, ◌/◌, ◌<◌, ◌==◌, ◌^◌, ◌∷◌, ◌≤◌}
use Rattle.age_io.specs.Stretch.{Stretch, nothing}
use Rattle.age_v1.specs.Payload.{chunk_nonce}
use Rattle.age_error.specs.declared.io.Error.{Error}
use Rattle.age_error.specs.declared.io.Error.TheVariants.{BadChunk, LastChunkEmpty, TooLong, Truncated}
use Rattle.std.proofs.Common.{suc, zero}

-- a text, and whether it is the last
abbrev pub Chunk : Type 0
Chunk = List ℕ × Bool

abbrev pub is_empty : List ℕ → Bool
is_empty [] = true
is_empty (x ∷ xs) = false

-- an empty chunk after others, and a byte at place 2^60, are refused
abbrev pub allowed : ℕ → Chunk → Result Chunk Error
allowed number chunk = cond (is_empty chunk.0) (cond (nat_lt 0 number) (Err LastChunkEmpty) (Ok chunk))
    (cond (nat_lt number (2 ^ 44)) (Ok chunk) (Err TooLong))

abbrev pub allowed_if : ℕ → Option Chunk → Result Chunk Error
allowed_if number None = Err BadChunk
allowed_if number (Some chunk) = allowed number chunk

-- the first that is there
abbrev pub or_else : Option Chunk → Option Chunk → Option Chunk
or_else None other = other
or_else (Some chunk) other = Some chunk

-- these bytes, and then the rest
abbrev pub prepend : List ℕ → Stretch → Stretch
prepend bytes rest = record { bytes = bytes ++ rest.bytes; ends_well = rest.ends_well }

-- what comes after the last chunk: nothing, and a clean end where one stands there
abbrev pub after_last : List ℕ → Bool → Stretch
after_last bytes ends_well = record { bytes = []; ends_well = is_empty bytes && ends_well }

-- what a chunk and the bytes after it deliver: it is a middle chunk, the last one, or refused
abbrev pub after_chunk : Stretch → Stretch → Result Chunk Error → Stretch
after_chunk middle last (Err e) = nothing
after_chunk middle last (Ok (plain, true)) = prepend plain last
after_chunk middle last (Ok (plain, false)) = prepend plain middle

module _ (opened : List ℕ → List ℕ → List ℕ → Option (List ℕ)) (key : List ℕ) where
  -- the text as a middle chunk, or as the last one
  abbrev pub opened_as : ℕ → Bool → List ℕ → Option Chunk
  opened_as number last text = option_map (λ plain. (plain, last)) (opened key (chunk_nonce number last) text)

  -- a full text is tried as middle first, then as last; a short one only as last
  abbrev pub opened_chunk : ℕ → List ℕ → Option Chunk
  opened_chunk number text = cond (length text == 65552) (or_else (opened_as number false text) (opened_as number true text))
      (opened_as number true text)

  -- the verdict on the text of this chunk
  unfoldable pub chunk_of : ℕ → List ℕ → Result Chunk Error
  chunk_of number text = cond (is_empty text) (Err Truncated) (allowed_if number (opened_chunk number text))

  -- what the bytes deliver from this chunk on, where they have this many full chunks
  unfoldable pub delivers : ℕ → ℕ → List ℕ → Bool → Stretch
  delivers zero number bytes ends_well = cond ends_well (after_chunk nothing (after_last [] true) (chunk_of number bytes)) nothing
  delivers (suc full) number bytes ends_well = after_chunk (delivers full (suc number) (drop 65552 bytes) ends_well)
      (after_last (drop 65552 bytes) ends_well) (chunk_of number (take 65552 bytes))

  -- what a reader delivers that stands before this chunk
  abbrev pub payload_delivers : ℕ → Stretch → Stretch
  payload_delivers number rest = delivers (length rest.bytes / 65552) number rest.bytes rest.ends_well

-- the sealed text of a chunk
abbrev pub text_at : ℕ → Stretch → List ℕ
text_at number payload = take 65552 (drop (65552 * number) payload.bytes)

-- this is the last chunk of a payload of so many bytes, which isn't empty unless it is the only one
pub record IsLastChunk (len number : ℕ) : Type 0 where
  pub fits : len ≤ 65552 * number + 65552
  pub enough : 65552 * number + 16 ≤ len
  pub more : 0 < number → 65552 * number + 16 < len
