-- The text of an encrypted file: its header, the payload nonce and the payload. age-encryption.org/v1, section "Encrypted file format".
use Rattle.std.specs.Prelude.{List, ℕ, ◌++◌, ◌≡◌}
use Rattle.age_error.specs.Bytes.{AreBytesOf}
use Rattle.age_v1.specs.Stanza.{StanzaValue}
use Rattle.age_v1.specs.HeaderMac.{header_mac}
use Rattle.age_v1.specs.Header.{IsHeader, KeepsScryptRule, covered_text, header_text}
use Rattle.age_v1.specs.Payload.{Seal, payload, payload_key}

-- what stands before the chunks: the header with its MAC, then the payload nonce, 16 bytes that the key of the payload is made with
-- standard: "Payload": the payload begins after the header with a nonce of 16 bytes
unfoldable pub file_front : List ℕ → List StanzaValue → List ℕ → List ℕ
file_front file_key stanzas nonce = header_text stanzas (header_mac file_key (covered_text stanzas)) ++ nonce

-- The text of the file that has this file key, these stanzas, this payload nonce and this plaintext. There is exactly one such text. That the stanzas
-- wrap the file key isn't said here, but by `Prepares` of a file that is written, and by `CarriesFile` of one that is read.
unfoldable pub file_text : Seal → List ℕ → List StanzaValue → List ℕ → List ℕ → List ℕ
file_text seal_of file_key stanzas nonce plain =
    file_front file_key stanzas nonce ++ payload seal_of (payload_key file_key nonce) plain

-- The bytes are a file of this plaintext under this file key, with these stanzas and some payload nonce. The stanzas can stand in a header, and one
-- with the tag scrypt is the only one. That the file key has 16 bytes isn't asked here: each that the code handles is a `FileKey`, which has 16.
pub record IsFileOf (seal_of : Seal) (file_key : List ℕ) (stanzas : List StanzaValue) (plain bytes : List ℕ) : Type 0 where
  pub nonce : List ℕ
  pub header : IsHeader stanzas (header_mac file_key (covered_text stanzas))
  pub rule : KeepsScryptRule stanzas
  pub sixteen : AreBytesOf 16 nonce
  pub whole : bytes ≡ file_text seal_of file_key stanzas nonce plain

-- The bytes begin as a file does: a header that keeps the rule on passphrases, and a payload nonce. What follows may be anything.
pub record BeginsAsFile (stanzas : List StanzaValue) (mac nonce more bytes : List ℕ) : Type 0 where
  pub header : IsHeader stanzas mac
  pub rule : KeepsScryptRule stanzas
  pub sixteen : AreBytesOf 16 nonce
  pub whole : bytes ≡ header_text stanzas mac ++ (nonce ++ more)
