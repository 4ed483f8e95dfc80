-- The block function of ChaCha20 (RFC 8439, 2.3).
use Rattle.std.specs.Prelude.{ℕ, ◌+◌, ◌*◌, List, [], ◌∷◌, slice_index}
use Rattle.std.specs.Int.{w32, from_le_bytes, to_le_bytes}
use Rattle.std.specs.List.{flat_map}
use Rattle.chacha20.specs.Rounds.{word_sum, double_rounds}

-- word i of these bytes: four of them, the low byte first (2.3)
abbrev pub word : List ℕ → ℕ → ℕ
word bytes i =
    from_le_bytes w32
    (slice_index bytes (4 * i) ∷ slice_index bytes (4 * i + 1) ∷ slice_index bytes (4 * i + 2) ∷ slice_index bytes (4 * i + 3) ∷ [])

-- the state before the rounds: four constants, the key, the block counter and the nonce (2.3)
unfoldable pub initial_state : List ℕ → ℕ → List ℕ → List ℕ
initial_state key counter nonce =
    0x61707865 ∷ 0x3320646e ∷ 0x79622d32 ∷ 0x6b206574
    ∷ word key 0 ∷ word key 1 ∷ word key 2 ∷ word key 3
    ∷ word key 4 ∷ word key 5 ∷ word key 6 ∷ word key 7
    ∷ counter ∷ word nonce 0 ∷ word nonce 1 ∷ word nonce 2 ∷ []

-- the words of two states added, place by place (2.3)
unfoldable pub added : List ℕ → List ℕ → List ℕ
added [] others = []
added (word ∷ words) [] = []
added (word ∷ words) (other ∷ others) = word_sum word other ∷ added words others

-- the words of a block: the state after 20 rounds, and the state before them added (2.3.1)
unfoldable pub block_words : List ℕ → ℕ → List ℕ → List ℕ
block_words key counter nonce =
    let initial = initial_state key counter nonce in
    added (double_rounds 10 initial) initial

-- words one after another, each with its low byte first (2.3.1)
abbrev pub serialized : List ℕ → List ℕ
serialized words = flat_map (to_le_bytes w32) words

-- the block function: the 64 bytes of a key of 32 bytes, a block counter and a nonce of 12 bytes (2.3.1)
unfoldable pub chacha20_block : List ℕ → ℕ → List ℕ → List ℕ
chacha20_block key counter nonce = serialized (block_words key counter nonce)
