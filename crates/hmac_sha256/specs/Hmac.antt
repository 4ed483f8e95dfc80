-- HMAC over SHA-256 (RFC 2104, section 2), on lists of bytes.
use Rattle.std.specs.Prelude.{ℕ, ◌-◌, List, ◌++◌, length, replicate, map, bit_xor, nat_le, if◌then◌else◌}
use Rattle.sha2.specs.Sha256.{sha256}
use Rattle.sha2.specs.Hashers.{Holds256}
use Rattle.hmac_sha256.specs.declared.mac.HmacWriter.{HmacWriter}

-- a key of at most a block of 64 bytes: a longer key is hashed first
abbrev pub short_key : List ℕ → List ℕ
short_key key = if nat_le (length key) 64 then key else sha256 key

-- the key, filled up with zeros to a block
abbrev pub key_block : List ℕ → List ℕ
key_block key = short_key key ++ replicate (64 - length (short_key key)) 0

-- a block with each byte combined with one byte by exclusive or
abbrev pub padded_with : ℕ → List ℕ → List ℕ
padded_with pad block = map (λ x. bit_xor x pad) block

-- HMAC-SHA-256: H(K xor opad, H(K xor ipad, text))
unfoldable pub hmac_of : List ℕ → List ℕ → List ℕ
hmac_of key text =
    sha256 (padded_with 0x5c (key_block key) ++ sha256 (padded_with 0x36 (key_block key) ++ text))

-- the writer was given this text under this key
unfoldable pub WasGiven : HmacWriter → List ℕ → List ℕ → Type 0
WasGiven writer key text =
    Holds256 writer.inner (padded_with 0x36 (key_block key) ++ text)
    × Holds256 writer.outer (padded_with 0x5c (key_block key))
