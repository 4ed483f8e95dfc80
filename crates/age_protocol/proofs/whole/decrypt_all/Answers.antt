use Rattle.std.proofs.Common.{◌≡◌, ◌∙◌, ap, sym, refl, subst, arith, inl, inr}
use Rattle.age_io.specs.Stretch.{Stretch, whole, from_place, stretch-ext}
use Rattle.age_io.specs.Buffered as buffered
use Rattle.age_armor.specs.Reader.{inner_of, armored_rest, armored_content, place_of, refuses_of as armor_refuses}
use Rattle.age_armor.specs.PlaceLemmas.{stands_armored}
use Rattle.age_stream.specs.Reader.{refuses_of}
use Rattle.age_stream.specs.Keeping.{IsPayloadRefusal}
use Rattle.age_v1.specs.Payload.{payload_key}
use Rattle.age_protocol.proofs.Reasons.{from_stream, from_text, front-stands, io_refusal_weaker, stops-as}
use Rattle.age_stream.specs.ReadingLemmas.{and-left, and-right}
use Rattle.age_stream.proofs.Answered.{rest-bytes}
use Rattle.age_v1.proofs.StandingBytes.{stand-bytes}
use Rattle.age_error.specs.ErrorLemmas.{of_error}
use Rattle.age_protocol.proofs.Decrypted.{both_told, refuses_text, begins_text, by_cause}
use Rattle.age_io.proofs.Exiting.{OnOk-refused}
use Rattle.age_io.proofs.PartCopied.{none-copied}
use Rattle.age_protocol.proofs.Parts.{file_for}
use Rattle.age_io.specs.Copying.{AppendsFront}
use Rattle.age_protocol.proofs.whole.decrypt_all.Goals as goal

pub returns-in_err-text : goal.returns-in_err-text
returns-in_err-text g c =
    let is = c.from_residual.ensures.1 in
    record {
      file = λ reader_told writer_told. OnOk-refused _ _ c.from_residual.ensures.0;
      refused = of_error _ _ _ is (λ none. refl);
      why = of_error _ _ _ is tt;
      io = of_error _ _ _ is (inl (inl c.in_err-text.ensures.memory));
      front = λ reader_told writer_told. inl refl;
      honest = λ told well never file plain carries for. of_error _ _ _ is tt;
      written = λ told well never file plain carries for. of_error _ _ _ is (inl c.in_err-text.ensures.memory);
      plaintext = λ told well writer_told file plain carries for.
          none-copied g.W.Write.appended _ c.args.writer.now (g.met.W.Write.appends_nothing c.args.writer.now);
    }

pub returns-in_err-stream : goal.returns-in_err-stream
returns-in_err-stream g c =
    let text = c.in_ok-text.ensures in
    let is = c.from_residual-in_err-stream.ensures.1 in
    record {
      file = λ reader_told writer_told. OnOk-refused _ _ c.from_residual-in_err-stream.ensures.0;
      refused = of_error _ _ _ is (λ decrypts. refl);
      why =
          of_error _ _ _ is
          (by_cause
          (λ front.
          let last = front.1.0 in
          let r_last = (buffered.inner_of (inner_of last)).now in
          inl (
            (
              r_last,
              refuses_text _ g.R.Read.tells g.R.Read.rest g.R.Read.faults _ last c.args.reader.now r_last _
                  text.tells text.faults refl text.place text.rest front.1.1,
            ),
            io_refusal_weaker _ _
                (λ e.
                by_cause (λ early. inl (early.0, λ reader_told. sym (ap (λ s. s.ends_well) text.rest) ∙ early.1 (text.tells ∙ reader_told)))
                (λ tried. inr (from_text armor_refuses g.R.Read c.in_ok-text.text c.args.reader.now e text.named tried)))
                _ front.1.1.io,
          ))
          (λ asked.
          let (h, nonce, input, answer, asks, why) = asked in
          inr (
            h,
            nonce,
            _,
            answer,
            begins_text g.R.Read.tells g.R.Read.rest c.args.reader.now h nonce _ _ _ _ _ text.tells text.place text.rest
                asks.front,
            asks.first,
            why,
          ))
          c.in_err-stream.ensures.refused);
      io = of_error _ _ _ is tt;
      written = λ told well never file plain carries for. of_error _ _ _ is tt;
      front = λ reader_told writer_told. inl refl;
      honest = λ told well never file plain carries for.
          let rest : armored_rest c.in_ok-text.text ≡ whole file = text.honest file well carries in
          of_error _ _ _ is
          (c.in_err-stream.ensures.plaintext (both_told _ _ _ _ text.tells text.steady told) (ap (λ s. s.ends_well) rest) plain
          (file_for g.S.Suite.seal_of _ plain file (armored_rest c.in_ok-text.text).bytes (sym (ap (λ s. s.bytes) rest)) for)
          (λ t. never t.source.inner.inner.now));
      plaintext = λ told well writer_told file plain carries for.
          none-copied g.W.Write.appended _ c.args.writer.now (g.met.W.Write.appends_nothing c.args.writer.now);
    }

pub returns-in_err-copy_all : goal.returns-in_err-copy_all
returns-in_err-copy_all g c =
    let text = c.in_ok-text.ensures in
    let made = c.in_ok-stream.ensures.opened in
    let asks = made.asks in
    let is = c.from_residual-in_err-copy_all.ensures.1 in
    record {
      file = λ reader_told writer_told. OnOk-refused _ _ c.from_residual-in_err-copy_all.ensures.0;
      refused = of_error _ _ _ is (λ none. absurd none);
      why = of_error _ _ _ is tt;
      io =
          let e = c.in_err-copy_all.field-0.0 in
          let reader = c.args.reader.now in
          let write = g.W.Write in
          let suite = g.S.Suite in
          let key = payload_key made.file_key made.nonce in
          let left = armored_rest made.input in
          let payload = from_place (place_of made.input) (armored_content made.input) in
          let begins = begins_text g.R.Read.tells g.R.Read.rest reader made.h made.nonce _ _ _ _ _ text.tells text.place text.rest asks.front in
          of_error _ _ _ is
          (by_cause
          (by_cause (λ memory. inl (inl memory))
          (by_cause
          (λ tried.
          by_cause
          (λ own. inr (inr (
            made.file_key,
            made.h,
            made.nonce,
            left,
            begins,
            asks.first,
            made.opens.right,
            stops-as suite.seal_of key payload left _ _ e
                (λ reader_told. both_told _ _ _ _ asks.same.tells asks.same.steady (both_told _ _ _ _ text.tells text.steady reader_told))
                (λ reader_told.
                let text_told = both_told _ _ _ _ text.tells text.steady reader_told in
                let t = and-left _ _ text_told in
                ap (from_place (place_of made.input)) (asks.same.content t)
                ∙ front-stands (armored_content c.in_ok-text.text) (armored_rest c.in_ok-text.text) left (place_of c.in_ok-text.text)
                (place_of made.input) made.h made.nonce
                (stands_armored c.in_ok-text.text t (and-right _ _ text_told)) (asks.front t)) own,
          )))
          (λ armored. inl (inr (from_text armor_refuses g.R.Read c.in_ok-text.text reader e text.named armored)))
          (from_stream refuses_of armor_refuses _ c.in_ok-stream.stream made.input c.in_ok-text.text e made.opens.reader.named
          (λ s. s.is) asks.narrows tried))
          (λ writes. inr (inl writes.0))))
          (λ long. inr (inr (
            made.file_key,
            made.h,
            made.nonce,
            left,
            begins,
            asks.first,
            made.opens.right,
            record {
              is = subst IsPayloadRefusal (sym long.0) tt;
              named = λ reader_told. absurd (long.1 (made.opens.reader.tells
                  ∙ both_told _ _ _ _ asks.same.tells asks.same.steady (both_told _ _ _ _ text.tells text.steady reader_told)));
            },
          )))
          c.in_err-copy_all.ensures.named);
      written = λ told well never file plain carries for.
          let rest : armored_rest c.in_ok-text.text ≡ whole file = text.honest file well carries in
          let text_told = both_told _ _ _ _ text.tells text.steady told in
          let stands = c.in_ok-stream.ensures.plaintext text_told (ap (λ s. s.ends_well) rest) plain
          (file_for g.S.Suite.seal_of _ plain file (armored_rest c.in_ok-text.text).bytes (sym (ap (λ s. s.bytes) rest)) for) in
          let before = never c.in_ok-stream.stream.source.inner.source.inner.inner.now in
          let after = never c.copy_all.new.reader.source.inner.source.inner.inner.now in
          of_error _ _ _ is
          (by_cause inl (λ writes. inr (_, writes))
          (c.in_err-copy_all.ensures.why (c.in_ok-stream.ensures.tells ∙ text_told) (ap (λ s. s.ends_well) stands.rest)
          (record { same = after ∙ sym before; below = omega (arith, after) })));
      front = λ reader_told writer_told.
          let text_told = both_told _ _ _ _ text.tells text.steady reader_told in
          let told = both_told _ _ _ _ asks.same.tells asks.same.steady text_told in
          let copied = rw made.opens.reader.rest at (c.in_err-copy_all.ensures.front (made.opens.reader.tells ∙ told) writer_told) in
          let begins = begins_text g.R.Read.tells g.R.Read.rest c.args.reader.now made.h made.nonce _ _ _ _ _ text.tells text.place text.rest
          asks.front in
          inr (made.file_key, made.h, made.nonce, _, begins, asks.first, made.opens.right, copied);
      honest = λ told well never file plain carries for. of_error _ _ _ is tt;
      plaintext = λ told well writer_told file plain carries for.
          let rest : armored_rest c.in_ok-text.text ≡ whole file = text.honest file well carries in
          let text_told = both_told _ _ _ _ text.tells text.steady told in
          let stands = c.in_ok-stream.ensures.plaintext text_told (ap (λ s. s.ends_well) rest) plain
          (file_for g.S.Suite.seal_of _ plain file (armored_rest c.in_ok-text.text).bytes (sym (ap (λ s. s.bytes) rest)) for) in
          subst (λ (s : Stretch). AppendsFront g.W.Write.appended s.bytes c.args.writer.now c.copy_all.new.writer) stands.rest
          (c.in_err-copy_all.ensures.front (c.in_ok-stream.ensures.tells ∙ text_told) writer_told);
    }

pub returns : goal.returns
returns g c =
    let text = c.in_ok-text.ensures in
    let made = c.in_ok-stream.ensures.opened in
    let asks = made.asks in
    record {
      file = λ reader_told writer_told.
          let text_told = both_told _ _ _ _ text.tells text.steady reader_told in
          let told = both_told _ _ _ _ asks.same.tells asks.same.steady text_told in
          let copied = c.in_ok-copy_all.ensures.all (made.opens.reader.tells ∙ told) writer_told in
          let file = made.opens.file told _ _ _ (asks.front (and-left _ _ text_told)) (stretch-ext _ (whole _) refl copied.0) in
          let tells = and-left _ _ reader_told in
          let reader = c.args.reader.now in
          let bytes = rest-bytes (g.R.Read.content reader) (g.R.Read.rest reader) (g.R.Read.place reader)
          (g.met.R.Read.stands reader tells (and-right _ _ reader_told)) (g.met.R.Read.are_bytes reader tells) in
          let carried = text.carries tells file.0 in
          let plain_bytes = stand-bytes g.S.Suite.seal_of _ _ _ _ (c.reader_law.ensures.stands (made.opens.reader.tells ∙ told)) in
          record {
            plain = _;
            ended = carried.0;
            file = record {
              carried = _;
              carries = carried.1 bytes;
              file_key = made.file_key;
              stanzas = _;
              given = asks.first;
              bytes = plain_bytes;
              is_file = file.1;
            };
            out = copied.1;
          };
      refused = tt;
      why = tt;
      io = tt;
      written = λ told well never file plain carries for. tt;
      front = λ reader_told writer_told.
          let text_told = both_told _ _ _ _ text.tells text.steady reader_told in
          let told = both_told _ _ _ _ asks.same.tells asks.same.steady text_told in
          let copied = rw made.opens.reader.rest at (c.in_ok-copy_all.ensures.front (made.opens.reader.tells ∙ told) writer_told) in
          let begins = begins_text g.R.Read.tells g.R.Read.rest c.args.reader.now made.h made.nonce _ _ _ _ _ text.tells text.place text.rest
          asks.front in
          inr (made.file_key, made.h, made.nonce, _, begins, asks.first, made.opens.right, copied);
      honest = λ told well never file plain carries for. tt;
      plaintext = λ told well writer_told file plain carries for.
          let rest : armored_rest c.in_ok-text.text ≡ whole file = text.honest file well carries in
          let text_told = both_told _ _ _ _ text.tells text.steady told in
          let stands = c.in_ok-stream.ensures.plaintext text_told (ap (λ s. s.ends_well) rest) plain
          (file_for g.S.Suite.seal_of _ plain file (armored_rest c.in_ok-text.text).bytes (sym (ap (λ s. s.bytes) rest)) for) in
          subst (λ (s : Stretch). AppendsFront g.W.Write.appended s.bytes c.args.writer.now c.copy_all.new.writer) stands.rest
          (c.in_ok-copy_all.ensures.front (c.in_ok-stream.ensures.tells ∙ text_told) writer_told);
    }
