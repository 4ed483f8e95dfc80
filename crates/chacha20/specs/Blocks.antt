-- Eight blocks of the key stream, and a text that is encrypted as far as a place.
use Rattle.std.specs.Prelude.{◌≡◌, ℕ, ◌+◌, ◌/◌, ◌%◌, ◌^◌, ◌<◌, List, ◌++◌, take, drop, slice_index}
use Rattle.std.specs.Int.{w32, to_le_bytes}
use Rattle.chacha20.specs.Block.{block_words, initial_state}
use Rattle.chacha20.specs.Lanes.{lane}
use Rattle.chacha20.specs.Rounds.{double_rounds}
use Rattle.chacha20.specs.Encryption.{encrypted_from, keystream_byte}

-- the words of the eight blocks from this counter on: the first eight of each block in a list, and then the other eight of each
pub record IsBlocks (key : List ℕ) (counter : ℕ) (nonce : List ℕ) (blocks : List (List ℕ)) : Type 0 where
  pub front : (j k : ℕ) → j < 8 → k < 8 → slice_index (lane k blocks) j ≡ slice_index (block_words key ((counter + j) % 2 ^ 32) nonce) k
  pub back : (j k : ℕ) → j < 8 → k < 8 → slice_index (lane k blocks) (8 + j) ≡ slice_index (block_words key ((counter + j) % 2 ^ 32) nonce) (8 + k)

-- the bytes of eight words are those of the key stream from this place on
abbrev pub IsStreamFrom : List ℕ → ℕ → List ℕ → ℕ → List ℕ → Type 0
IsStreamFrom key counter nonce at words =
    (i : ℕ) → i < 32 → slice_index (to_le_bytes w32 (slice_index words (i / 4))) (i % 4) ≡ keystream_byte key counter nonce (at + i)

-- of this text, which stands at a place of the stream, the bytes before another place are encrypted
abbrev pub IsEncryptedTo : List ℕ → ℕ → List ℕ → ℕ → List ℕ → ℕ → List ℕ → Type 0
IsEncryptedTo key counter nonce from text place bytes = bytes ≡ encrypted_from key counter nonce from (take place text) ++ drop place text

-- of the eight blocks from this counter on, of which these are the states before, so many double rounds are done
pub record HasDone (key : List ℕ) (counter : ℕ) (nonce : List ℕ) (rounds : ℕ) (before states : List (List ℕ)) : Type 0 where
  pub first : (j : ℕ) → j < 8 → lane j before ≡ initial_state key ((counter + j) % 2 ^ 32) nonce
  pub done : (j : ℕ) → j < 8 → lane j states ≡ double_rounds rounds (lane j before)
