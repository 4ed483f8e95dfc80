-- What a caller sees of a decryptor, and what making one comes to.
use Rattle.std.specs.Prelude.{◌<◌, ℕ, List, IsTrue, Result, IfOk, IfErr}
use Rattle.age_error.specs.Bytes.{AreBytesOf}
use Rattle.age_error.specs.DecryptErrors.{decrypt_refusal, IsInterruptedRefusal}
use Rattle.age_error.specs.declared.decrypt.DecryptError.{DecryptError}
use Rattle.age_io.specs.declared.traits.Read.{Ghosts}
use Rattle.age_io.specs.Keeping.{SameReader}
use Rattle.age_io.specs.Reading.{AddsNoReason, TriedAgain, most_faults}
use Rattle.age_v1.specs.Header.{KeepsScryptRule}
use Rattle.age_format.specs.HeaderV1.{HeaderValue}
use Rattle.age_v1.specs.HeaderTexts.{canonical}
use Rattle.age_protocol.specs.Decrypting.{ReadsFront, RefusesFront}
use Rattle.age_protocol.specs.declared.decryptor.Decryptor.{Decryptor}

-- the header that was read
abbrev pub header_of : {S R : Type 0} → Decryptor S R → HeaderValue
header_of d = d.header

-- the nonce that followed it
abbrev pub nonce_of : {S R : Type 0} → Decryptor S R → List ℕ
nonce_of d = d.nonce

-- the reader, which stands after the nonce
abbrev pub input_of : {S R : Type 0} → Decryptor S R → R
input_of d = d.input

-- What making a decryptor of a reader answers.
pub record OpensFront {S R : Type 0} (read : Ghosts R) (input : R) (result : Result (Decryptor S R) DecryptError) : Type 0 where
  -- the reader is the same, wherever it stands now, has no new reason to refuse, and its count of faults isn't used up
  pub keeps : IfOk result (λ d. SameReader read input (input_of d))
  pub narrows : IfOk result (λ d. AddsNoReason (TriedAgain read.refuses) input (input_of d))
  pub unspent : IfOk result (λ d. read.faults (input_of d) < most_faults)
  -- the nonce has 16 bytes, and no stanza of a passphrase stands beside another
  pub sixteen : IfOk result (λ d. AreBytesOf 16 (nonce_of d))
  pub rule : IfOk result (λ d. KeepsScryptRule (header_of d).stanzas)
  -- of a reader that tells its bytes: the header and the nonce were taken from the front of its rest, and no byte more
  pub front : IsTrue (read.tells input) → IfOk result (λ d.
      ReadsFront (read.rest input) (read.rest (input_of d)) (read.place input) (read.place (input_of d)) (header_of d) (nonce_of d))
  -- a refusal is no interruption, and has one of the causes
  pub patient : IfErr result (λ e. IsInterruptedRefusal (decrypt_refusal e) → ⊥)
  pub refused : IfErr result (λ e. (last : R) × RefusesFront canonical read input last (decrypt_refusal e))
