-- HKDF over SHA-256 (RFC 5869, section 2), on lists of bytes.
use Rattle.std.specs.Prelude.{ℕ, List, [], ◌∷◌, ◌++◌}
use Rattle.hmac_sha256.specs.Hmac.{hmac_of}

-- HKDF-SHA-256 with one round of 32 bytes: extract a key from the input by the salt, then expand it by info and the round's number
unfoldable pub hkdf_of : List ℕ → List ℕ → List ℕ → List ℕ
hkdf_of salt info input = hmac_of (hmac_of salt input) (info ++ 1 ∷ [])
