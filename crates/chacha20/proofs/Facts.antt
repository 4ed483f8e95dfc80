-- Lengths and ranges, and that encryption done twice gives the text back.
use Rattle.std.proofs.Common.{◌≡◌, ℕ, zero, suc, ◌+◌, ◌*◌, ◌/◌, ◌%◌, ◌^◌, ◌<◌, List, [], ◌∷◌, ◌++◌, length, replicate, get_or, bit_xor, refl, ap, sym, arith, add-zero, lit<, ◌∙◌}
use Rattle.std.proofs.lemmas.List.Elements.{All-nil, All-cons, All-head, All-tail, All-append, All-get_or}
use Rattle.std.proofs.lemmas.List.{ext_get_or, get_or-replicate, length-replicate}
use Rattle.std.proofs.lemmas.Nat.{xor_lt, mod_below}
use Rattle.std.specs.Prelude.{All}
use Rattle.std.specs.Int.{w32, to_le_bytes, bytes_low_first, byte_at}
use Rattle.std.specs.Int.Bits.{xor_self, xor_zero_l, xor_zero_r, xor_assoc}
use Rattle.chacha20.specs.Block.{serialized, block_words, chacha20_block}
use Rattle.chacha20.specs.Encryption.{keystream_byte, encrypted_from, chacha20_encrypt}
use Rattle.chacha20.proofs.Blocks.{length-serialized, length-block_words}
use Rattle.chacha20.proofs.Streams.{encrypted-append, length-encrypted}

-- a byte, as the laws say it
abbrev IsByte : ℕ → Type 0
IsByte byte = byte < 2 ^ 8

byte_at-byte : (i n : ℕ) → IsByte (byte_at i n)
byte_at-byte zero n = mod_below n 256 (lit< tt)
byte_at-byte (suc i) n = mod_below (n / 256 ^ suc i) 256 (lit< tt)

low_first-bytes : (i k n : ℕ) → All IsByte (bytes_low_first i k n)
low_first-bytes i zero n = All-nil IsByte
low_first-bytes i (suc k) n = All-cons IsByte _ (bytes_low_first (suc i) k n) (byte_at-byte i n) (low_first-bytes (suc i) k n)

serialized-bytes : (words : List ℕ) → All IsByte (serialized words)
serialized-bytes [] = All-nil IsByte
serialized-bytes (word ∷ words) = All-append IsByte (to_le_bytes w32 word) (serialized words) (low_first-bytes 0 4 word) (serialized-bytes words)

pub length-chacha20_block : (key : List ℕ) (counter : ℕ) (nonce : List ℕ) → length (chacha20_block key counter nonce) ≡ 64
unfolding chacha20_block
length-chacha20_block key counter nonce =
    let words = block_words key counter nonce in
    length-serialized words ∙ omega (arith, length-block_words key counter nonce)

pub chacha20_block-bytes : (key : List ℕ) (counter : ℕ) (nonce : List ℕ) → All IsByte (chacha20_block key counter nonce)
unfolding chacha20_block
chacha20_block-bytes key counter nonce = serialized-bytes (block_words key counter nonce)

xor_twice : (x m : ℕ) → bit_xor (bit_xor x m) m ≡ x
xor_twice x m = rw (xor_assoc, xor_self, xor_zero_r) refl

module _ (key : List ℕ) (counter : ℕ) (nonce : List ℕ) where
  keystream_byte-byte : (i : ℕ) → IsByte (keystream_byte key counter nonce i)
  keystream_byte-byte i =
      let n = (counter + i / 64) % 2 ^ 32 in
      All-get_or IsByte (chacha20_block key n nonce) (i % 64) 0
      (omega (arith, length-chacha20_block key n nonce)) (chacha20_block-bytes key n nonce)

  encrypted_twice : (i : ℕ) (xs : List ℕ) → encrypted_from key counter nonce i (encrypted_from key counter nonce i xs) ≡ xs
  encrypted_twice i [] = refl
  encrypted_twice i (x ∷ xs) = rw (xor_twice, encrypted_twice (i + 1) xs) refl

  encrypted-bytes : (i : ℕ) (xs : List ℕ) → All IsByte xs → All IsByte (encrypted_from key counter nonce i xs)
  encrypted-bytes i [] h = All-nil IsByte
  encrypted-bytes i (x ∷ xs) h =
      All-cons IsByte _ (encrypted_from key counter nonce (i + 1) xs)
      (xor_lt 8 x (keystream_byte key counter nonce i) (All-head IsByte x xs h) (keystream_byte-byte i))
      (encrypted-bytes (i + 1) xs (All-tail IsByte x xs h))

pub length-chacha20_encrypt : (key : List ℕ) (counter : ℕ) (nonce text : List ℕ) → length (chacha20_encrypt key counter nonce text) ≡ length text
unfolding chacha20_encrypt
length-chacha20_encrypt key counter nonce text = length-encrypted key counter nonce 0 text

pub chacha20_encrypt-bytes : (key : List ℕ) (counter : ℕ) (nonce text : List ℕ) → All IsByte text
    → All IsByte (chacha20_encrypt key counter nonce text)
unfolding chacha20_encrypt
chacha20_encrypt-bytes key counter nonce text h = encrypted-bytes key counter nonce 0 text h

-- encryption is also decryption
pub chacha20_encrypt_twice : (key : List ℕ) (counter : ℕ) (nonce text : List ℕ)
    → chacha20_encrypt key counter nonce (chacha20_encrypt key counter nonce text) ≡ text
unfolding chacha20_encrypt
chacha20_encrypt_twice key counter nonce text = encrypted_twice key counter nonce 0 text

-- the key stream from a later block on is the rest of the stream
module _ (key : List ℕ) (counter : ℕ) (nonce : List ℕ) (blocks : ℕ) where
  keystream_byte-later : (i : ℕ) → keystream_byte key ((counter + blocks) % 2 ^ 32) nonce i ≡ keystream_byte key counter nonce (64 * blocks + i)
  keystream_byte-later i =
      let number : ((counter + blocks) % 2 ^ 32 + i / 64) % 2 ^ 32 ≡ (counter + (64 * blocks + i) / 64) % 2 ^ 32 = omega arith in
      let place : i % 64 ≡ (64 * blocks + i) % 64 = omega arith in
      ap (λ n. get_or (chacha20_block key n nonce) (i % 64) 0) number
      ∙ ap (λ p. get_or (chacha20_block key ((counter + (64 * blocks + i) / 64) % 2 ^ 32) nonce) p 0) place

  encrypted-later : (i : ℕ) (xs : List ℕ)
      → encrypted_from key ((counter + blocks) % 2 ^ 32) nonce i xs ≡ encrypted_from key counter nonce (64 * blocks + i) xs
  encrypted-later i [] = refl
  encrypted-later i (x ∷ xs) =
      let next : 64 * blocks + (i + 1) ≡ 64 * blocks + i + 1 = omega arith in
      rw (keystream_byte-later i, encrypted-later (i + 1) xs, next) refl

-- a text whose front has whole blocks is encrypted in two parts
pub chacha20_encrypt-append : (key : List ℕ) (counter : ℕ) (nonce front back : List ℕ) (blocks : ℕ) → length front ≡ 64 * blocks
    → chacha20_encrypt key counter nonce (front ++ back)
    ≡ chacha20_encrypt key counter nonce front ++ chacha20_encrypt key ((counter + blocks) % 2 ^ 32) nonce back
unfolding chacha20_encrypt
chacha20_encrypt-append key counter nonce front back blocks whole =
    let place : 0 + length front ≡ 64 * blocks + 0 = omega (arith, whole) in
    encrypted-append key counter nonce 0 front back
    ∙ ap (λ p. encrypted_from key counter nonce 0 front ++ encrypted_from key counter nonce p back) place
    ∙ ap (λ xs. encrypted_from key counter nonce 0 front ++ xs) (sym (encrypted-later key counter nonce blocks 0 back))

-- a byte that is encrypted
get_or-encrypted : (key : List ℕ) (counter : ℕ) (nonce : List ℕ) (i : ℕ) (xs : List ℕ) (k : ℕ) → k < length xs
    → get_or (encrypted_from key counter nonce i xs) k 0 ≡ bit_xor (get_or xs k 0) (keystream_byte key counter nonce (i + k))
get_or-encrypted key counter nonce i [] k h = absurd (omega arith)
get_or-encrypted key counter nonce i (x ∷ xs) zero h = ap (λ p. bit_xor x (keystream_byte key counter nonce p)) (sym (add-zero i))
get_or-encrypted key counter nonce i (x ∷ xs) (suc k) h =
    let place : i + 1 + k ≡ i + suc k = omega arith in
    get_or-encrypted key counter nonce (i + 1) xs k (omega arith) ∙ ap (λ p. bit_xor (get_or xs k 0) (keystream_byte key counter nonce p)) place

-- zeros, encrypted, are the key stream
pub block_of_zeros : (key : List ℕ) (counter : ℕ) (nonce : List ℕ) → counter < 2 ^ 32
    → chacha20_encrypt key counter nonce (replicate 64 0) ≡ chacha20_block key counter nonce
unfolding chacha20_encrypt
block_of_zeros key counter nonce fits =
    let zeros : List ℕ = replicate 64 0 in
    let size : length zeros ≡ 64 = length-replicate {A = ℕ} 64 0 in
    ext_get_or 0 (encrypted_from key counter nonce 0 zeros) (chacha20_block key counter nonce)
    (length-encrypted key counter nonce 0 zeros ∙ size ∙ sym (length-chacha20_block key counter nonce)) (λ k h.
    let within : k < 64 = omega (arith, length-encrypted key counter nonce 0 zeros, size) in
    let number : (counter + (0 + k) / 64) % 2 ^ 32 ≡ counter = omega arith in
    let place : (0 + k) % 64 ≡ k = omega arith in
    get_or-encrypted key counter nonce 0 zeros k (omega (arith, size))
    ∙ ap (λ z. bit_xor z (keystream_byte key counter nonce (0 + k))) (get_or-replicate 64 k 0 0 within)
    ∙ xor_zero_l (keystream_byte key counter nonce (0 + k))
    ∙ ap (λ n. get_or (chacha20_block key n nonce) ((0 + k) % 64) 0) number ∙ ap (λ p. get_or (chacha20_block key counter nonce) p 0) place)
