-- What was read before the payload.
use Rattle.std.proofs.Common.{◌≡◌, ◌∙◌, refl, sym, ap, subst, ℕ, ◌+◌, Bool, List, ◌++◌, length, IsTrue, length-append, arith, Ok, Err, inl, inr}
use Rattle.age_error.specs.Bytes.{AreBytesOf}
use Rattle.age_error.specs.Refusals.{IsDevice}
use Rattle.age_error.specs.DecryptErrors.{decrypt_refusal, decrypt_of_io, IsDeviceRefusal}
use Rattle.age_error.specs.declared.io.Error.{Error}
use Rattle.age_error.specs.declared.io.Error.TheVariants as io
use Rattle.age_error.specs.declared.decrypt.DecryptError.{DecryptError}
use Rattle.age_io.specs.Stretch.{Stretch, whole}
use Rattle.age_io.specs.Reading.{Delivers}
use Rattle.age_io.proofs.Delivering.{Delivers-joined}
use Rattle.age_io.specs.declared.traits.Read.{Ghosts}
use Rattle.age_format.specs.HeaderV1.{HeaderValue}
use Rattle.age_v1.specs.HeaderMac.{header_mac}
use Rattle.age_v1.specs.HeaderTexts.{canonical}
use Rattle.age_v1.specs.Stanza.{StanzaValue}
use Rattle.age_v1.specs.Header.{IsHeader, header_text, covered_text}
use Rattle.age_v1.specs.HeaderVerdict.{Header}
use Rattle.age_format.specs.ReadingHeader.{TookVerdict, ReadsOrRefuses}
use Rattle.age_format.proofs.HeaderReading.{header_of}
use Rattle.age_v1.specs.Payload.{Seal, payload, payload_key}
use Rattle.age_v1.specs.File.{file_front, file_text, IsFileOf}
use Rattle.age_protocol.specs.Decrypting.{TookHeaderAndNonce, ReadsFront, RefusesFront, ReadsNonce}
use Rattle.age_io.proofs.Keeping.{same-later, early-narrows}
use Rattle.age_io.specs.Keeping.{OrEarly}
use Rattle.age_protocol.proofs.Reasons.{io_refusal_weaker}

-- a nonce follows the header
pub took_both : {legacy : Bool} (old after new : Stretch) (old_place after_place new_place : ℕ) (text : List ℕ) (stanzas : List StanzaValue)
    (mac nonce : List ℕ)
    → TookVerdict legacy old after old_place after_place text (Header stanzas mac) → AreBytesOf 16 nonce → Delivers nonce after new
    → new_place ≡ after_place + length nonce → TookHeaderAndNonce legacy old new old_place new_place text stanzas mac nonce
took_both old after new old_place after_place new_place text stanzas mac nonce took sixteen gave moved = record {
  verdict = took.verdict;
  sixteen = sixteen;
  delivered = Delivers-joined text nonce old after new took.delivered gave;
  moved =
      let first : after_place ≡ old_place + length text = took.moved in
      omega (arith, first, moved, length-append text nonce);
}

-- a refusal that a device made was made by the reader
pub is_device : (e : Error) → IsDeviceRefusal (decrypt_refusal (decrypt_of_io e)) → IsDevice e
is_device (io.Device kind) d = d
is_device io.UnexpectedEof d = d
is_device io.WriteZero d = d
is_device io.BeforeStart d = d
is_device io.PastEnd d = d
is_device io.Truncated d = d
is_device io.BadChunk d = d
is_device io.AfterLast d = d
is_device io.LastChunkEmpty d = d
is_device io.BadEnd d = d
is_device io.TooLong d = d
is_device io.LimitExceeded d = d
is_device (io.Armor fault) d = d
is_device (io.NotIdentity line) d = d
is_device io.Failed d = d
is_device io.OutOfMemory d = d

-- Of a header that was read so from one state of a reader to another.
module _ {R T : Type 0} (read : Ghosts R) (legacy : Bool) (Says : T → Stretch → Stretch → ℕ → ℕ → Type 0) where
  -- and none where no nonce follows it
  pub nonce_refused : (stanzas : T → List StanzaValue) (mac : T → List ℕ)
      → ((h : T) (old new : Stretch) (p q : ℕ) → Says h old new p q
      → (text : List ℕ) × TookVerdict legacy old new p q text (Header (stanzas h) (mac h)))
      → (input middle last : R) (h : T) (e : DecryptError) → ReadsOrRefuses {T = T} read legacy Says input middle (Ok h)
      → ReadsNonce read (stanzas h) middle last (Err e) → RefusesFront legacy read input last (decrypt_refusal e)
  nonce_refused stanzas mac says input middle last h e reads follows =
      let took : (told : IsTrue (read.tells input)) → (text : List ℕ)
      × TookVerdict legacy (read.rest input) (read.rest middle) (read.place input) (read.place middle) text (Header (stanzas h) (mac h)) =
      λ told. says h _ _ _ _ (reads.header told) in
      record {
        same = same-later read input middle last reads.keeps follows.keeps;
        device = λ device. omega (arith, reads.keeps.faults, follows.device device);
        io =
            io_refusal_weaker (OrEarly read middle) (OrEarly read input)
            (λ error. early-narrows read input middle reads.keeps.tells (λ told. (took told).1.delivered.end) reads.narrows error)
            (decrypt_refusal e) follows.io;
        why = λ told. inr (record {
          text = (took told).0;
          stanzas = stanzas h;
          mac = mac h;
          after = read.rest middle;
          after_place = read.place middle;
          header = (took told).1;
          why = elim (follows.refused (reads.keeps.tells ∙ told)) [
            | inl lacks ↦ inl (record {
              some = lacks.some;
              error = lacks.error;
              is = lacks.is;
              short = λ other quiet.
                  lacks.short other (record { same = omega (arith, quiet.same, reads.keeps.faults, follows.keeps.faults); below = quiet.below });
            })
            | inr breaks ↦ inr breaks
          ];
        });
      }

-- what stood before a payload and a clean end, with the right MAC, makes a file
pub file_of : (seal_of : Seal) (file_key : List ℕ) (h : HeaderValue) (nonce : List ℕ) (start rest : Stretch) (start_place place : ℕ) (plain : List ℕ)
    → h.mac ≡ header_mac file_key (covered_text h.stanzas) → ReadsFront start rest start_place place h nonce
    → rest ≡ whole (payload seal_of (payload_key file_key nonce) plain)
    → IsTrue start.ends_well × IsFileOf seal_of file_key h.stanzas plain start.bytes
unfolding file_text file_front
file_of seal_of file_key h nonce start rest start_place place plain right reads is =
    let took = reads.took in (
      subst (λ b. IsTrue b) (sym (ap (λ s. s.ends_well) is) ∙ took.delivered.end) refl,
      record {
        nonce = nonce;
        header = subst (λ mac. IsHeader h.stanzas mac) right (header_of canonical (header_text h.stanzas h.mac) h.stanzas h.mac took.verdict.decides);
        rule = reads.rule;
        sixteen = took.sixteen;
        whole = took.delivered.bytes ∙ ap (λ s. (header_text h.stanzas h.mac ++ nonce) ++ s.bytes) is
            ∙ ap (λ mac. (header_text h.stanzas mac ++ nonce) ++ payload seal_of (payload_key file_key nonce) plain) right;
      },
    )
