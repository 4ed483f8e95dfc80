-- ChaCha20-Poly1305 (RFC 8439, 2.6 and 2.8) without additional data, on lists of bytes.
use Rattle.std.specs.Prelude.{ℕ, ◌-◌, ◌%◌, Bool, ◌&&◌, List, ◌++◌, length, take, drop, replicate, nat_le, bytes_eq, if◌then◌else◌, Option, Some, None}
use Rattle.std.specs.Int.{w64, to_le_bytes}
use Rattle.chacha20.specs.Block.{chacha20_block}
use Rattle.chacha20.specs.Encryption.{chacha20_encrypt}
use Rattle.poly1305.specs.Mac.{poly1305_mac}

-- the one-time key of Poly1305, `poly1305_key_gen`: the first 32 bytes of block 0 of the key stream (2.6, 2.6.1)
unfoldable pub one_time_key : List ℕ → List ℕ → List ℕ
one_time_key key nonce = take 32 (chacha20_block key 0 nonce)

-- the zeros that fill a text up to whole blocks of 16 bytes (2.8.1)
abbrev pub pad16 : List ℕ → List ℕ
pad16 text = replicate ((16 - length text % 16) % 16) 0

-- what the tag is made of: the ciphertext, its padding, and two lengths in bytes, that of no additional data and that of the
-- ciphertext, each with 8 bytes, the low one first. Of no additional data and its padding there is nothing (2.8, 2.8.1)
unfoldable pub mac_data : List ℕ → List ℕ
mac_data ciphertext = ciphertext ++ pad16 ciphertext ++ (to_le_bytes w64 0 ++ to_le_bytes w64 (length ciphertext))

-- the tag of a ciphertext (2.8, 2.8.1)
unfoldable pub tag_of : List ℕ → List ℕ → List ℕ → List ℕ
tag_of key nonce ciphertext = poly1305_mac (one_time_key key nonce) (mac_data ciphertext)

-- the seal of a plaintext: the plaintext encrypted, by the blocks of the key stream from 1 on, and the tag (2.8)
unfoldable pub seal_of : List ℕ → List ℕ → List ℕ → List ℕ
seal_of key nonce plain = let ciphertext = chacha20_encrypt key 1 nonce plain in ciphertext ++ tag_of key nonce ciphertext

-- a text without its last 16 bytes
abbrev pub ciphertext_of : List ℕ → List ℕ
ciphertext_of sealed = take (length sealed - 16) sealed

-- whether a text has 16 bytes or more, and the last 16 are the tag of the others
abbrev pub ends_in_tag : List ℕ → List ℕ → List ℕ → Bool
ends_in_tag key nonce sealed =
    nat_le 16 (length sealed) && bytes_eq (drop (length sealed - 16) sealed) (tag_of key nonce (ciphertext_of sealed))

-- what a text opens to: where it ends in its tag the plaintext, which is the ciphertext encrypted once more, and else nothing (2.8)
unfoldable pub opened : List ℕ → List ℕ → List ℕ → Option (List ℕ)
opened key nonce sealed = if ends_in_tag key nonce sealed then Some (chacha20_encrypt key 1 nonce (ciphertext_of sealed)) else None
