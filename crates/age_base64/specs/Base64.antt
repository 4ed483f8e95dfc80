-- Base64 of RFC 4648 section 4 over the alphabet of the format.
use Rattle.std.specs.Prelude.{◌≡◌, ℕ, List, true, false, codes}
use Rattle.base64.specs.Rfc4648.{encode}
use Rattle.age_error.specs.Bytes.{AreBytes}

-- the 64 symbols in their order
abbrev pub symbols : List ℕ
symbols = codes "ABCDEFGHIJKLMNOPQRSTUVWXYZabcdefghijklmnopqrstuvwxyz0123456789+/"

-- the base64 of bytes, as it stands in a header; its characters are called columns. 61 is `=`, and `false` says that there is no padding
-- standard: canonical base64 of RFC 4648 section 4, without padding: the bits that are left over at its end are zero
unfoldable pub columns : List ℕ → List ℕ
columns bytes = encode symbols 61 false bytes

-- they are the columns of some bytes
abbrev pub AreColumns : List ℕ → Type 0
AreColumns text = (bytes : List ℕ) × AreBytes bytes × (columns bytes ≡ text)

-- the base64 of armor
-- standard: canonical base64 of RFC 4648 section 4, with padding
unfoldable pub padded_columns : List ℕ → List ℕ
padded_columns bytes = encode symbols 61 true bytes
