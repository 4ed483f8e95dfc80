-- From what an encryptor wrote first to the file in the end.
use Rattle.std.proofs.Common.{◌≡◌, ◌∙◌, refl, sym, ap, subst, inr, ℕ, ◌<◌, ◌^◌, Bool, List, ◌++◌, length, IsTrue, append_assoc, length-append, arith}
use Rattle.std.specs.Prelude.{slice_index}
use Rattle.std.proofs.lemmas.List.Elements.{All-append}
use Rattle.std.proofs.lemmas.Result.{IfOk-weaker}
use Rattle.age_error.specs.Bytes.{AreBytes, AreBytesOf}
use Rattle.age_error.specs.declared.io.Error.{Error}
use Rattle.age_suite.specs.Mac.{hkdf_of}
use Rattle.age_base64.specs.Lines.{line}
use Rattle.std.specs.List.{flat_map}
use Rattle.age_v1.specs.Header.{IsHeader, covered_text, header_text, mac_line, version_line}
use Rattle.age_format.specs.HeaderV1.{HeaderValue}
use Rattle.age_v1.specs.HeaderMac.{header_mac}
use Rattle.age_v1.specs.Stanza.{stanza_text}
use Rattle.age_v1.specs.Payload.{Seal, payload, payload_key}
use Rattle.age_v1.specs.PayloadLaws.{PayloadLength}
use Rattle.age_stream.specs.declared.writer.StreamWriter.{StreamWriter}
use Rattle.age_v1.specs.Encrypting.{Prepared}
use Rattle.age_protocol.specs.Ready.{IsReady}
use Rattle.age_v1.specs.File.{IsFileOf, file_front, file_text}
use Rattle.age_protocol.specs.Laws.{CarriesItself}
use Rattle.age_protocol.specs.Starting.{Starts, WritesFile}

-- the text of a canonical header and the nonce are what stands before the payload
pub front_is : (file_key : List ℕ) (h : HeaderValue) (nonce text : List ℕ) → IsReady file_key h nonce
    → text ≡ header_text h.stanzas h.mac ++ nonce → text ≡ file_front file_key h.stanzas nonce
unfolding file_front
front_is file_key h nonce text ready is = is ∙ ap (λ mac. header_text h.stanzas mac ++ nonce) ready.right

-- what the writer's `finish` appends to the header and the nonce makes the file
pub writes_file : {S W : Type 0} (seal_of : Seal) (tells : W → Bool) (faults : W → ℕ) (refuses : W → ℕ → Error → Type 0)
    (inner_appended : W → List ℕ → W → Type 0)
    (appended : StreamWriter S W → List ℕ → StreamWriter S W → Type 0)
    (joins : (a b c : W) (x y : List ℕ) → inner_appended a x b → inner_appended b y c → inner_appended a (x ++ y) c)
    (file : Prepared) (output : W) (writer : StreamWriter S W) → IsTrue (tells output)
    → Starts tells faults refuses inner_appended file output writer → WritesFile seal_of inner_appended appended file output writer
unfolding file_text
writes_file seal_of tells faults refuses inner_appended appended joins file output writer told starts plain last finished took finishes =
    IfOk-weaker finished _ _
    (λ inner sent. joins output starts.inner inner (file_front file.file_key file.stanzas file.nonce)
    (payload seal_of (payload_key file.file_key file.nonce) plain) (starts.front told) sent)
    (finishes writer (payload_key file.file_key file.nonce) plain starts.inner starts.made took)

-- the file of bytes is bytes
pub file_bytes : (seal_of : Seal) (file_key : List ℕ) (h : HeaderValue) (nonce plain : List ℕ)
    → ((salt info input : List ℕ) → AreBytesOf 32 (hkdf_of salt info input)) → PayloadLength seal_of
    → IsReady file_key h nonce → AreBytes (header_text h.stanzas h.mac ++ nonce) → AreBytes plain
    → AreBytes (file_text seal_of file_key h.stanzas nonce plain)
unfolding file_text payload_key
file_bytes seal_of file_key h nonce plain key_bytes size ready front each =
    All-append (λ x. x < 2 ^ 8) (file_front file_key h.stanzas nonce) (payload seal_of (payload_key file_key nonce) plain)
    (subst AreBytes (front_is file_key h nonce (header_text h.stanzas h.mac ++ nonce) ready refl) front)
    (size (payload_key file_key nonce) plain (key_bytes _ _ _) each).bytes

-- a file carries itself: it has 36 bytes or more, and doesn't begin as armor does
pub carries_itself : (seal_of : Seal) → CarriesItself seal_of
unfolding file_text file_front header_text
carries_itself seal_of file_key stanzas plain bytes each f =
    let mac = header_mac file_key (covered_text stanzas) in
    let middle = flat_map stanza_text stanzas in
    let last = line (mac_line mac) in
    let sealed = payload seal_of (payload_key file_key f.nonce) plain in
    let whole : bytes ≡ (line version_line ++ (middle ++ last)) ++ (f.nonce ++ sealed) =
    f.whole ∙ append_assoc (line version_line ++ (middle ++ last)) f.nonce sealed in
    let first : length (line version_line) ≡ 22 = refl in
    record {
      each = each;
      way = inr (record {
        size = omega (
          arith,
          ap length whole,
          length-append (line version_line ++ (middle ++ last)) (f.nonce ++ sealed),
          length-append (line version_line) (middle ++ last),
          length-append f.nonce sealed,
          first,
          f.sixteen.len,
        );
        no_marker = λ rest is.
            let other : 97 ≡ 45 = ap (λ l. slice_index l 0) (sym whole ∙ is) in
            absurd (omega (arith, other));
        same = refl;
      });
    }

-- the file of a plaintext is a file of it
pub is_file : (seal_of : Seal) (file_key : List ℕ) (h : HeaderValue) (nonce plain : List ℕ) → IsReady file_key h nonce
    → IsFileOf seal_of file_key h.stanzas plain (file_text seal_of file_key h.stanzas nonce plain)
is_file seal_of file_key h nonce plain ready = record {
  nonce = nonce;
  header = subst (λ mac. IsHeader h.stanzas mac) ready.right ready.header;
  rule = ready.rule;
  sixteen = ready.sixteen;
  whole = refl;
}
