-- A derived key is 32 bytes.
use Rattle.std.proofs.Common.{◌≡◌, ℕ, ◌^◌, ◌<◌, List, length}
use Rattle.std.specs.Prelude.{All}
use Rattle.hmac_sha256.proofs.Digests.{hmac_of-length, hmac_of-bytes}
use Rattle.scrypt.specs.Pbkdf2.{pbkdf2}
use Rattle.scrypt.specs.Scrypt.{scrypt_of}

pub length-scrypt_of : (password salt : List ℕ) (log_n : ℕ) → length (scrypt_of password salt log_n) ≡ 32
unfolding scrypt_of pbkdf2
length-scrypt_of password salt log_n = hmac_of-length password _

pub scrypt_of-bytes : (password salt : List ℕ) (log_n : ℕ) → All (λ byte. byte < 2 ^ 8) (scrypt_of password salt log_n)
unfolding scrypt_of pbkdf2
scrypt_of-bytes password salt log_n = hmac_of-bytes password _
