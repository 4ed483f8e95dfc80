-- What decryption answers once an identity has decided.
use Rattle.std.specs.Prelude.{◌≡◌, ◌≢◌, ◌⊎◌, ℕ, ◌&&◌, List, Result, Ok, Err, IsTrue, IsErrAnd, MatchResult}
use Rattle.age_error.specs.DecryptErrors.{DecryptRefusal, InvalidMac, OutOfMemory, decrypt_refusal}
use Rattle.age_error.specs.declared.decrypt.DecryptError.{DecryptError}
use Rattle.age_suite.specs.declared.suite.Suite.{Ghosts as SuiteGhosts}
use Rattle.age_io.specs.declared.traits.Read.{Ghosts}
use Rattle.age_io.specs.Stretch.{Stretch, whole}
use Rattle.age_format.specs.HeaderV1.{HeaderValue}
use Rattle.age_v1.specs.HeaderMac.{header_mac}
use Rattle.age_v1.specs.Header.{covered_text}
use Rattle.age_v1.specs.Payload.{payload_key}
use Rattle.age_stream.specs.Reader.{HasFailed, HasSought, content_of, place_of, plain_rest_of}
use Rattle.age_stream.specs.NewReader.{IsReaderOf}
use Rattle.age_stream.specs.declared.reader.StreamReader.{StreamReader}
use Rattle.age_v1.specs.File.{IsFileOf}
use Rattle.age_protocol.specs.Decrypting.{ReadsFront}

module _ {S R : Type 0} {suite : SuiteGhosts S} {read : Ghosts R} where
  -- The header's MAC is right under the file key, and the reader is that of the payload.
  pub record OpensFile (file_key : List ℕ) (h : HeaderValue) (nonce : List ℕ) (input : R) (r : StreamReader S R suite read) : Type 0 where
    pub right : h.mac ≡ header_mac file_key (covered_text h.stanzas)
    pub reader : IsReaderOf (payload_key file_key nonce) input r
    -- Success means file: where the header and the nonce were read from the front of a stretch, and a plaintext is read to
    -- a clean end, the stretch was a file of that plaintext and then a clean end.
    pub file : IsTrue (read.tells input && read.steady input) → (start : Stretch) (start_place : ℕ) (plain : List ℕ)
        → ReadsFront start (read.rest input) start_place (read.place input) h nonce → plain_rest_of r ≡ whole plain
        → IsTrue start.ends_well × IsFileOf suite.seal_of file_key h.stanzas plain start.bytes

  -- It reads this plaintext, of which nothing was read yet.
  pub record StandsBefore (plain : List ℕ) (r : StreamReader S R suite read) : Type 0 where
    pub good : HasFailed r → ⊥
    pub unsought : HasSought r → ⊥
    pub content : content_of r ≡ whole plain
    pub place : place_of r ≡ 0
    pub rest : plain_rest_of r ≡ whole plain

  -- Of the file key, or the refusal, by the identity that decides: a refusal is the answer. With a file key the answer is
  -- `InvalidMac` exactly where the header's MAC is wrong under it, else the reader, unless memory was refused.
  abbrev pub AnswersReader : Result (List ℕ) DecryptRefusal → HeaderValue → List ℕ → R → Result (StreamReader S R suite read) DecryptError → Type 0
  AnswersReader (Err refusal) h nonce input result = IsErrAnd result (λ e. decrypt_refusal e ≡ refusal)
  AnswersReader (Ok file_key) h nonce input result =
      ((h.mac ≢ header_mac file_key (covered_text h.stanzas)) × IsErrAnd result (λ e. decrypt_refusal e ≡ InvalidMac))
      ⊎ ((h.mac ≡ header_mac file_key (covered_text h.stanzas))
      × MatchResult result (λ r. OpensFile file_key h nonce input r) (λ e. decrypt_refusal e ≡ OutOfMemory))
