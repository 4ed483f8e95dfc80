-- The MAC of a header: age-encryption.org/v1, section "Header MAC".
use Rattle.std.specs.Prelude.{List, [], codes, ℕ}
use Rattle.age_suite.specs.Mac.{hkdf_of, hmac_of}

-- the MAC of a header that has this text up to and with `---`
-- standard: "Header MAC": HMAC-SHA-256 over the header up to and including the `---`, under the key that HKDF-SHA-256
-- gives for the file key, an empty salt and the info "header"
unfoldable pub header_mac : List ℕ → List ℕ → List ℕ
header_mac file_key front = hmac_of (hkdf_of [] (codes "header") file_key) front
