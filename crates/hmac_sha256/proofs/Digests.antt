-- A digest, an HMAC and what HKDF gives are 32 bytes.
use Rattle.std.proofs.Common.{◌≡◌, ℕ, zero, suc, ◌<◌, ◌^◌, List, length, All, arith}
use Rattle.std.proofs.lemmas.List.Elements.{All-nil, All-append, All-from_recursion}
use Rattle.std.specs.Prelude.{slice_index}
use Rattle.std.specs.Int.{to_be_bytes, w32}
use Rattle.sha2.specs.Sha256.{digest_bytes, sha256}
use Rattle.sha2.proofs.Facts256.{length-sha256}
use Rattle.hmac_sha256.specs.Hmac.{hmac_of}
use Rattle.hmac_sha256.specs.Hkdf.{hkdf_of}

abbrev AreBytes : List ℕ → Type 0
AreBytes xs = All (λ byte. byte < 2 ^ 8) xs

word_bytes : (x : ℕ) → AreBytes (to_be_bytes w32 x)
word_bytes x = All-from_recursion (λ y. y < 2 ^ 8) (to_be_bytes w32 x) (omega arith, (omega arith, (omega arith, (omega arith, tt))))

digest_bytes-bytes : (h : List ℕ) (n : ℕ) → AreBytes (digest_bytes h n)
unfolding digest_bytes
digest_bytes-bytes h zero = All-nil (λ y. y < 2 ^ 8)
digest_bytes-bytes h (suc n) =
    All-append (λ y. y < 2 ^ 8) (digest_bytes h n) (to_be_bytes w32 (slice_index h n)) (digest_bytes-bytes h n)
    (word_bytes (slice_index h n))

sha256-bytes : (m : List ℕ) → AreBytes (sha256 m)
unfolding sha256
sha256-bytes m = digest_bytes-bytes _ 8

pub hmac_of-length : (key text : List ℕ) → length (hmac_of key text) ≡ 32
unfolding hmac_of
hmac_of-length key text = length-sha256 _

pub hmac_of-bytes : (key text : List ℕ) → AreBytes (hmac_of key text)
unfolding hmac_of
hmac_of-bytes key text = sha256-bytes _

pub hkdf_of-length : (salt info input : List ℕ) → length (hkdf_of salt info input) ≡ 32
unfolding hkdf_of
hkdf_of-length salt info input = hmac_of-length _ _

pub hkdf_of-bytes : (salt info input : List ℕ) → AreBytes (hkdf_of salt info input)
unfolding hkdf_of
hkdf_of-bytes salt info input = hmac_of-bytes _ _
