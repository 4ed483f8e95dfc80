-- Encryption by ChaCha20 (RFC 8439, 2.4).
use Rattle.std.specs.Prelude.{ℕ, ◌+◌, ◌/◌, ◌%◌, ◌^◌, List, [], ◌∷◌, bit_xor, slice_index}
use Rattle.chacha20.specs.Block.{chacha20_block}

-- byte i of the key stream: the blocks of this counter and the next ones, joined. After counter 2 ^ 32 - 1 comes 0 (2.4)
abbrev pub keystream_byte : List ℕ → ℕ → List ℕ → ℕ → ℕ
keystream_byte key counter nonce i =
    slice_index (chacha20_block key ((counter + i / 64) % 2 ^ 32) nonce) (i % 64)

-- each byte of a list combined by exclusive or with its byte of the key stream, where the first one has byte i (2.4)
abbrev pub encrypted_from : List ℕ → ℕ → List ℕ → ℕ → List ℕ → List ℕ
encrypted_from key counter nonce i [] = []
encrypted_from key counter nonce i (byte ∷ bytes) =
    bit_xor byte (keystream_byte key counter nonce i) ∷ encrypted_from key counter nonce (i + 1) bytes

-- encryption, which is also decryption: a key of 32 bytes, the first counter, a nonce of 12 bytes, and the text (2.4)
unfoldable pub chacha20_encrypt : List ℕ → ℕ → List ℕ → List ℕ → List ℕ
chacha20_encrypt key counter nonce text = encrypted_from key counter nonce 0 text
