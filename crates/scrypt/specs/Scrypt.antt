-- scrypt (RFC 7914, 2 and 6) with r = 8, p = 1 and dkLen = 32.
use Rattle.std.specs.Prelude.{ℕ, ◌^◌, List, Bool, ◌&&◌, nat_lt}
use Rattle.scrypt.specs.Encoding.{blocks, blocks_bytes}
use Rattle.scrypt.specs.Pbkdf2.{pbkdf2}
use Rattle.scrypt.specs.RomMix.{rom_mix}

-- whether N = 2 ^ log_n is accepted: it has to be larger than 1 (2), and here it fits in 64 bits
abbrev pub accepts : ℕ → Bool
accepts log_n = nat_lt 0 log_n && nat_lt log_n 64

-- DK: the 32 bytes for a passphrase, a salt and N = 2 ^ log_n. B has p * 128 * r = 32 * 32 bytes, which are 16 blocks (6)
unfoldable pub scrypt_of : List ℕ → List ℕ → ℕ → List ℕ
scrypt_of password salt log_n =
    let b = blocks (pbkdf2 password salt 32) 16 in
    pbkdf2 password (blocks_bytes (rom_mix b (2 ^ log_n))) 1
