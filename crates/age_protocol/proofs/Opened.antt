-- What was read of a file, and what the identity's answer came to.
use Rattle.std.proofs.Common.{◌≡◌, ◌≢◌, ◌⊎◌, ◌∙◌, refl, sym, ap, inl, inr, ℕ, true, false, List, IsTrue, Some, None, Ok, Err, Result, arith}
use Rattle.age_error.specs.Refusals.{IsDevice}
use Rattle.age_error.specs.DecryptErrors.{DecryptRefusal, decrypt_refusal, decrypt_of_io}
use Rattle.age_error.specs.declared.io.Error.{Error}
use Rattle.age_error.specs.declared.io.Error.TheVariants as io
use Rattle.age_suite.specs.declared.suite.Suite.{Ghosts as SuiteGhosts}
use Rattle.age_io.specs.declared.traits.Read.{Ghosts}
use Rattle.age_io.specs.Reading.{TriedAgain}
use Rattle.age_io.specs.Stretch.{Stretch, whole}
use Rattle.age_format.specs.HeaderV1.{HeaderValue}
use Rattle.age_v1.specs.Identities.{UnwrapAnswer, decided}
use Rattle.age_v1.specs.HeaderTexts.{canonical}
use Rattle.age_v1.specs.Payload.{Seal, payload_key}
use Rattle.age_stream.specs.Keeping.{Stops}
use Rattle.age_stream.specs.Reader.{plain_rest_of}
use Rattle.age_stream.specs.declared.reader.StreamReader.{StreamReader}
use Rattle.age_protocol.specs.Decrypting.{RefusesFront}
use Rattle.age_protocol.specs.OpeningFile.{AnswersReader, OpensFile}
use Rattle.age_protocol.proofs.Decrypted.{by_cause}
use Rattle.age_protocol.proofs.Reasons.{io_refusal_weaker}
use Rattle.age_protocol.specs.Texts.{RefusesKey}
use Rattle.age_protocol.specs.WholeFiles.{LacksFront, LacksPayload, RefusesReading, RefusesRest, read_of}

-- of a reader whose device never fails
pub lacks_front : {R : Type 0} (read : Ghosts R) (old last : R) (e : DecryptRefusal) (file : List ℕ) → RefusesFront canonical read old last e
    → IsTrue (read.tells old) → read.rest old ≡ read_of file → read.place old ≡ 0 → read.faults old ≡ 0 → read.faults last ≡ 0
    → ((f : Error) → TriedAgain read.refuses old f → RefusesReading file f) → LacksFront file e
lacks_front read old last e file refuses told rest_is place_is none still named = record {
  left = read.rest last;
  place = read.place last;
  why = rw (rest_is, place_is, none, still) at (refuses.why told);
  named =
      io_refusal_weaker _ _
      (λ f. by_cause (λ early. inl (early.0, sym (ap (λ s. s.ends_well) rest_is) ∙ early.1 told)) (λ tried. inr (named f tried)))
      _ refuses.io;
  no_device = λ device. omega (arith, refuses.device device, none, still);
}

module _ {S R : Type 0} {suite : SuiteGhosts S} {read : Ghosts R} where
  -- an identity answered a file key, which opens the file
  pub decided_key : (answer : UnwrapAnswer) (h : HeaderValue) (nonce : List ℕ) (input : R) (r : StreamReader S R suite read)
      → AnswersReader (decided answer) h nonce input (Ok r) → (file_key : List ℕ) × (answer ≡ Some (Ok file_key)) × OpensFile file_key h nonce input r
  decided_key None h nonce input r d = absurd d
  decided_key (Some (Err e)) h nonce input r d = absurd d
  decided_key (Some (Ok key)) h nonce input r (inl wrong) = absurd wrong.1
  decided_key (Some (Ok key)) h nonce input r (inr right) = (key, refl, right.1)

  -- the reader that was given met an end that isn't clean
  pub refuses_payload : (file : List ℕ) (file_key : List ℕ) (h : HeaderValue) (nonce : List ℕ) (input : R) (r : StreamReader S R suite read)
      (e : Error)
      → OpensFile file_key h nonce input r → (IsDevice e → ⊥) → (e ≢ io.OutOfMemory → (plain_rest_of r).ends_well ≡ false)
      → RefusesReading file e ⊎ Stops suite.seal_of (payload_key file_key nonce) (read.rest input) (Unit {0}) e
      → LacksPayload suite.seal_of file (payload_key file_key nonce) (read.rest input) (decrypt_refusal (decrypt_of_io e))
  refuses_payload file file_key h nonce input r e opens none badly named = record {
    error = e;
    is = refl;
    no_device = none;
    named = named;
    bad = λ other plain bytes within last is.
        let all : plain_rest_of r ≡ whole plain = opens.reader.honest plain bytes within last is in
        let well : true ≡ false = sym (ap (λ s. s.ends_well) all) ∙ badly other in
        absurd (Prim.cc);
  }

-- no reader was given
pub rest_of_key : (seal_of : Seal) (file : List ℕ) (key : Result (List ℕ) DecryptRefusal) (h : HeaderValue) (nonce : List ℕ) (left : Stretch)
    (e : DecryptRefusal)
    → RefusesKey key h e → RefusesRest seal_of file key h nonce left e
rest_of_key seal_of file (Err own) h nonce left e why = why
rest_of_key seal_of file (Ok key) h nonce left e (inl wrong) = inl wrong
rest_of_key seal_of file (Ok key) h nonce left e (inr right) = inr (
  right.0,
  record {
    error = io.OutOfMemory;
    is = right.1;
    no_device = λ device. device;
    named = inl (inl refl);
    bad = λ other. absurd (other refl);
  },
)
