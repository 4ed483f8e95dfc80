-- The payload of a plaintext, and what a chunk of a payload holds: age-encryption.org/v1, section "Payload", a variant of
-- STREAM. Under "standard" stands what that section asks, in our words. A piece is of a plaintext, a chunk is its seal.
use Rattle.std.specs.Prelude.{Bool, List, None, Option, Some, [], codes, drop, false, if◌then◌else◌, length, nat_eq, nat_le, nat_lt, suc, take, true, zero, ℕ, ◌&&◌, ◌*◌, ◌++◌, ◌+◌, ◌-◌, ◌/◌, ◌||◌, ◌∷◌, ◌≡◌}
use Rattle.age_error.specs.Bytes.{AreBytes}
use Rattle.age_suite.specs.Mac.{hkdf_of}
use Rattle.std.specs.Int.{bytes_high_first}

-- what a cipher makes of a key, a nonce and a plaintext, in this order: their seal, which is the ciphertext and then the tag; there are no additional
-- data. A piece is a part of a plaintext, and a chunk is the seal of a piece.
-- standard: each chunk is encrypted with ChaCha20-Poly1305, using the payload key and a nonce of 12 bytes
abbrev pub Seal : Type 0
Seal = List ℕ → List ℕ → List ℕ → List ℕ

-- part i of a list that is cut in parts of this size, of which the last may be short
unfoldable pub cut : ℕ → ℕ → List ℕ → List ℕ
cut size i xs = take size (drop (size * i) xs)

-- piece i of a plaintext, of at most 65,536 bytes
-- standard: the plaintext is split in parts of 64 KiB, which the standard calls chunks too
abbrev pub piece : ℕ → List ℕ → List ℕ
piece i plain = cut 65536 i plain

-- the number of the last piece of n bytes: no empty piece follows a full last
-- one, and a plaintext of no bytes has one piece, number 0, which is empty
-- standard: the final part may be shorter than 64 KiB, but isn't empty unless the whole plaintext is
abbrev pub last_piece : ℕ → ℕ
last_piece n = (n - 1) / 65536

-- the nonce of a chunk, of 12 bytes: its number in 11, big-endian, then 1 for the last chunk and 0 for the others
-- standard: the first 11 bytes are a big endian chunk counter that starts at zero and rises by one for each chunk; the
-- last byte is 0x01 for the final chunk and 0x00 for all preceding ones
unfoldable pub chunk_nonce : ℕ → Bool → List ℕ
chunk_nonce i is_last = bytes_high_first 11 i ++ (if is_last then 1 else 0) ∷ []

-- the seals of the first n pieces, none of them as the last
-- standard: the chunks that precede the final one, in order
abbrev pub middle_seals : Seal → List ℕ → List ℕ → ℕ → List ℕ
middle_seals seal_of key plain zero = []
middle_seals seal_of key plain (suc i) =
    middle_seals seal_of key plain i ++ seal_of key (chunk_nonce i false) (piece i plain)

-- The payload of a plaintext: the seals of its pieces in order, the last one under the nonce of a last chunk. In the standard the payload begins with
-- the payload nonce of 16 bytes; here that nonce is the end of `file_front`.
-- standard: each chunk is encrypted under its nonce, the final one under that of the final chunk
unfoldable pub payload : Seal → List ℕ → List ℕ → List ℕ
payload seal_of key plain =
    let last = last_piece (length plain) in
    middle_seals seal_of key plain last ++ seal_of key (chunk_nonce last true) (piece last plain)

-- chunk i of a payload, of at most 65,552 bytes
-- standard: the payload is decrypted one chunk at a time, each with a tag of 16 bytes; a place is found by a multiple of
-- the encrypted chunk size
abbrev pub chunk : ℕ → List ℕ → List ℕ
chunk i sealed = cut 65552 i sealed

-- chunk i is full and the seal of these bytes under its nonce as a middle chunk
-- standard: a chunk before the final one has 64 KiB, and 0x00 in its nonce
pub record OpensAsMiddle (seal_of : Seal) (key sealed : List ℕ) (i : ℕ) (plain : List ℕ) : Type 0 where
  pub full : length (chunk i sealed) ≡ 65552
  pub bytes : AreBytes plain
  pub is_seal : chunk i sealed ≡ seal_of key (chunk_nonce i false) plain

-- chunk i doesn't open as a middle one, and is the seal of these bytes under its nonce as the last chunk
-- standard: the final chunk has 0x01 in its nonce
pub record OpensAsLast (seal_of : Seal) (key sealed : List ℕ) (i : ℕ) (plain : List ℕ) : Type 0 where
  pub not_middle : (other : List ℕ) → OpensAsMiddle seal_of key sealed i other → ⊥
  pub bytes : AreBytes plain
  pub is_seal : chunk i sealed ≡ seal_of key (chunk_nonce i true) plain

-- chunk i opens neither as a middle one nor as the last
-- standard: its decryption fails
pub record IsBadChunk (seal_of : Seal) (key sealed : List ℕ) (i : ℕ) : Type 0 where
  pub not_middle : (other : List ℕ) → OpensAsMiddle seal_of key sealed i other → ⊥
  pub not_last : (other : List ℕ) → OpensAsLast seal_of key sealed i other → ⊥

-- the number of the last chunk of a payload of n bytes
abbrev pub final_chunk : ℕ → ℕ
final_chunk n = (n - 1) / 65552

-- the last chunk of a payload is the seal of some bytes under its nonce as the last chunk
pub record EndsAsLast (seal_of : Seal) (key sealed : List ℕ) : Type 0 where
  pub plain : List ℕ
  pub bytes : AreBytes plain
  pub is_seal : let last = final_chunk (length sealed) in chunk last sealed ≡ seal_of key (chunk_nonce last true) plain

-- A premise of what is said of honest files, and no part of the standard: where the last piece is full, its chunk isn't the seal of some bytes under
-- the middle nonce of its number too. A reader tries a full chunk as a middle one first. Under a fresh key of ChaCha20-Poly1305 the premise fails
-- by a chance of about 2^-128; who knows the key can make a plaintext for which it fails. What a success of decryption says doesn't need it.
unfoldable pub LastIsNoMiddle : Seal → List ℕ → List ℕ → Type 0
LastIsNoMiddle seal_of key plain =
    let last = last_piece (length plain) in
    (other : List ℕ) → length (piece last plain) ≡ 65536 → AreBytes other
    → seal_of key (chunk_nonce last true) (piece last plain) ≡ seal_of key (chunk_nonce last false) other → ⊥

-- the length of the plaintext of a payload of n bytes: 16 less for each chunk, where the last chunk has at least 16
-- bytes, and more than 16 if it isn't the only one; other lengths belong to no plaintext
-- standard: the final chunk isn't empty unless the whole payload is
unfoldable pub plain_len : ℕ → Option ℕ
plain_len n =
    let last = final_chunk n in
    let rest = n - 65552 * last in
    if nat_le 16 rest && (nat_eq last 0 || nat_lt 16 rest) then Some (n - 16 * (last + 1)) else None

-- the payload key, one for the whole file: it is made of the file key and of the payload nonce. That has 16 bytes, and is no chunk's `chunk_nonce`.
-- standard: "Payload": HKDF-SHA-256 of the file key, with the payload nonce as the salt and the info "payload"
unfoldable pub payload_key : List ℕ → List ℕ → List ℕ
payload_key file_key payload_nonce = hkdf_of payload_nonce (codes "payload") file_key
