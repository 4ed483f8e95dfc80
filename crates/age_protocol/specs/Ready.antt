-- The text of an encrypted file: its header, the payload nonce and the payload.
use Rattle.std.specs.Prelude.{List, ℕ, ◌≡◌}
use Rattle.age_error.specs.Bytes.{AreBytesOf}
use Rattle.age_v1.specs.Header.{IsHeader, KeepsScryptRule, covered_text}
use Rattle.age_format.specs.HeaderV1.{HeaderValue}
use Rattle.age_v1.specs.HeaderMac.{header_mac}

-- What an encryptor holds: a header that keeps the rule on passphrases, its MAC that under the file key, and a nonce of 16 bytes.
pub record IsReady (file_key : List ℕ) (h : HeaderValue) (nonce : List ℕ) : Type 0 where
  pub header : IsHeader h.stanzas h.mac
  pub rule : KeepsScryptRule h.stanzas
  pub right : h.mac ≡ header_mac file_key (covered_text h.stanzas)
  pub sixteen : AreBytesOf 16 nonce
