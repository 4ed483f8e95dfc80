use Rattle.std.proofs.Common.{rules, ◌≡◌, ◌∙◌, refl, sym, ap, subst, Some, Ok, inl, inr, arith}
use Rattle.age_error.specs.Bytes.{AreBytes}
use Rattle.age_error.specs.DecryptErrors.{decrypt_of_io}
use Rattle.age_io.specs.Stretch.{whole, from_place, stretch-ext}
use Rattle.age_v1.specs.Armor.{Carries}
use Rattle.age_v1.specs.DeliveredArmor.{stretch_of, text_delivers}
use Rattle.age_armor.specs.PlaceLemmas.{stands_armored}
use Rattle.age_armor.specs.Reader.{armored_rest, armored_content, place_of, refuses_of}
use Rattle.age_stream.specs.Reader.{refuses_of as stream_refuses}
use Rattle.age_v1.specs.Identities.{Unwraps}
use Rattle.age_v1.specs.Payload.{payload_key}
use Rattle.age_protocol.proofs.Alone.{alone_is, alone_same}
use Rattle.age_protocol.proofs.Decrypted.{by_cause}
use Rattle.age_protocol.proofs.Reasons.{from_slice, from_stream, front-stands, stops-as}
use Rattle.age_protocol.specs.WholeFiles.{read_of}
use Rattle.age_error.specs.ErrorLemmas.{of_error}
use Rattle.age_protocol.proofs.Opened.{lacks_front, rest_of_key, refuses_payload}
use Rattle.age_protocol.proofs.simple.plaintext_of.Goals as goal

pub returns-in_err-reader-clause-refused : goal.returns-in_err-reader-clause-refused
returns-in_err-reader-clause-refused g c =
    let input = c.in_ok-input.input in
    let start : armored_rest input ≡ read_of c.args.file.now =
    c.in_ok-input.ensures.opens.rest ∙ ap (λ s. stretch_of (text_delivers s.bytes s.ends_well)) c.new.ensures.rest in
    of_error _ _ _ c.from_residual-in_err-reader.ensures.1
    (elim c.in_err-reader.ensures.refused [
      | inl (same, (last, refuses)) ↦ inl (
        alone_same c.args.identity.now _ same,
        inr (lacks_front _ input last _ c.args.file.now refuses refl start c.in_ok-input.ensures.opens.place refl refl
            (λ e. from_slice refuses_of input c.new.result _ _ c.args.file.now e c.new.ensures.content c.new.ensures.place
            c.in_ok-input.ensures.opens.named)),
      )
      | inr (h, nonce, left, answer, asks, why) ↦ inr (record {
        h = h;
        nonce = nonce;
        left = _;
        place = _;
        front = rw (start, c.in_ok-input.ensures.opens.place) at (asks.front refl);
        answer = answer;
        asked = alone_is (λ identity own next. Unwraps g.I.Identity.unwraps identity h.stanzas own next) c.args.identity.now answer _ asks.first;
        why = rest_of_key g.S.Suite.seal_of c.args.file.now _ h nonce _ _ why;
      })
    ])

pub returns-in_err-read_to_end-clause-refused : goal.returns-in_err-read_to_end-clause-refused
returns-in_err-read_to_end-clause-refused g c =
    let input = c.in_ok-input.input in
    let start : armored_rest input ≡ read_of c.args.file.now =
    c.in_ok-input.ensures.opens.rest ∙ ap (λ s. stretch_of (text_delivers s.bytes s.ends_well)) c.new.ensures.rest in
    let opened = c.in_ok-reader.ensures.opened in
    let asks = opened.asks in
    let opens = opened.opens in
    let read = c.in_err-read_to_end.ensures in
    let e = c.in_err-read_to_end.field-0.0 in
    let after = opened.input in
    of_error _ _ (decrypt_of_io e) c.from_residual-in_err-read_to_end.ensures.1 (inr (record {
      h = opened.h;
      nonce = opened.nonce;
      left = _;
      place = _;
      front = rw (start, c.in_ok-input.ensures.opens.place) at (asks.front refl);
      answer = Some (Ok opened.file_key);
      asked = alone_is (λ identity own next. Unwraps g.I.Identity.unwraps identity opened.h.stanzas own next) c.args.identity.now _ _ asks.first;
      why = inr (
        opens.right,
        refuses_payload c.args.file.now opened.file_key _ _ _ _ _ opens (λ device. omega (arith, read.keeps.device device))
            (λ other. read.cause refl other (record { same = refl; below = omega arith }))
            (by_cause (λ memory. inl (inl memory))
            (λ tried.
            by_cause
            (λ own. inr (stops-as g.S.Suite.seal_of (payload_key opened.file_key opened.nonce) _ (armored_rest after) _ _ e (λ known. refl)
            (λ known.
            ap (from_place (place_of after)) (asks.same.content refl)
            ∙ front-stands (armored_content input) (armored_rest input) (armored_rest after) (place_of input) (place_of after) opened.h opened.nonce
            (stands_armored input refl refl) (asks.front refl)) own))
            (λ text. inl (from_slice refuses_of input c.new.result _ _ c.args.file.now e c.new.ensures.content c.new.ensures.place
            c.in_ok-input.ensures.opens.named text))
            (from_stream stream_refuses refuses_of _ c.in_ok-reader.reader after input e opens.reader.named (λ s. s.is) asks.narrows tried))
            read.keeps.why),
      );
    }))

pub returns-clause-success : goal.returns-clause-success
returns-clause-success g c =
    let opened = c.in_ok-reader.ensures.opened in
    let input = c.in_ok-input.input in
    let read = c.in_ok-read_to_end.ensures in
    let plain = c.read_to_end.new.buf.items in
    let all = stretch-ext _ (whole plain) (sym (rw c.new-plaintext.ensures.items at (read.bytes refl))) (read.end refl) in
    let file = opened.opens.file refl (armored_rest input) _ plain (opened.asks.front refl) all in
    let each : AreBytes c.args.file.now = search rules in
    let carried = c.in_ok-input.ensures.opens.carries refl file.0 in
    let carries : AreBytes c.args.file.now → Carries c.args.file.now (armored_rest input).bytes =
    subst (λ xs. AreBytes xs → Carries xs (armored_rest input).bytes) (ap (λ s. s.bytes) c.new.ensures.rest) carried.1 in
    record {
      carried = _;
      carries = carries each;
      file_key = opened.file_key;
      stanzas = opened.h.stanzas;
      given = alone_is (λ identity own next. Unwraps g.I.Identity.unwraps identity opened.h.stanzas own next) c.args.identity.now _ _
          opened.asks.first;
      bytes = search rules;
      is_file = file.1;
    }
