use Rattle.std.proofs.Common.{rules, ◌≡◌, ◌∙◌, ◌∷◌, ◌++◌, [], length, ap, arith, length-append, subst, sym}
use Rattle.age_error.specs.declared.decrypt.DecryptError.TheVariants as decrypt
use Rattle.age_error.specs.DecryptErrors.{DecryptRefusal, IfIoRefusal, decrypt_refusal, decrypt_of_io}
use Rattle.age_error.specs.ErrorLemmas.{of_error}
use Rattle.age_io.specs.Keeping.{OrEarly}
use Rattle.age_io.specs.Reading.{Delivers}
use Rattle.age_io.proofs.Delivering.{Delivers-joined}
use Rattle.age_io.proofs.Keeping.{early-narrows}
use Rattle.age_v1.specs.HeaderTexts.{IsHeaderText}
use Rattle.age_format.specs.Progress.{ReaderValue}
use Rattle.age_format.specs.ReadingHeader.{RefusesHeader, TookVerdict}
use Rattle.age_v1.specs.HeaderVerdict.{Header, UnknownVersion, Bad}
use Rattle.age_format.proofs.HeaderReading.{took_verdict, io_of_error, ran_out_after, reader_refused}
use Rattle.age_format.proofs.reading.read_header_text.Goals as goal

pub returns-in-Bad-clause-refused : goal.returns-in-Bad-clause-refused
returns-in-Bad-clause-refused g c = λ told.
    let before = c.bytes.invariant in
    let here = before.same.tells ∙ told in
    let decides = (rw c.in-Bad.is at c.in_ok-more.ensures) in (
      _,
      took_verdict c.bytes.header.legacy (g.R.Read.rest c.args.reader.now) _ _ _ _ _ c.bytes.header.text c.in_ok-byte.byte Bad before.legacy
          (before.so_far told) (c.in_ok-byte.ensures.byte here) (before.moved told)
          (c.in_ok-byte.ensures.moves here) c.text-size.ensures.undecided decides,
    )

pub returns-in-UnknownVersion-clause-refused : goal.returns-in-UnknownVersion-clause-refused
returns-in-UnknownVersion-clause-refused g c = λ told.
    let before = c.bytes.invariant in
    let here = before.same.tells ∙ told in
    let decides = (rw c.in-UnknownVersion.is at c.in_ok-more.ensures) in (
      _,
      took_verdict c.bytes.header.legacy (g.R.Read.rest c.args.reader.now) _ _ _ _ _ c.bytes.header.text c.in_ok-byte.byte UnknownVersion
          before.legacy
          (before.so_far told) (c.in_ok-byte.ensures.byte here) (before.moved told)
          (c.in_ok-byte.ensures.moves here) c.text-size.ensures.undecided decides,
    )

pub returns-in-Header-clause-header : goal.returns-in-Header-clause-header
returns-in-Header-clause-header g c = λ told.
    let before = c.bytes.invariant in
    let here = before.same.tells ∙ told in
    let decides = (rw c.in-Header.is at c.in_ok-more.ensures) in
    let took = took_verdict c.bytes.header.legacy (g.R.Read.rest c.args.reader.now) _ _ _ _ _ c.bytes.header.text c.in_ok-byte.byte
    (Header c.in-Header.stanzas.items c.in-Header.mac) before.legacy
    (before.so_far told) (c.in_ok-byte.ensures.byte here) (before.moved told)
    (c.in_ok-byte.ensures.moves here) c.text-size.ensures.undecided decides.1 in
    subst (λ t. TookVerdict c.args.legacy (g.R.Read.rest c.args.reader.now) (g.R.Read.rest c.next_byte.new.reader) (g.R.Read.place c.args.reader.now)
    (g.R.Read.place c.next_byte.new.reader) t (Header c.in-Header.stanzas.items c.in-Header.mac)) (sym decides.0) took

pub returns-in-Header-clause-says : goal.returns-in-Header-clause-says
returns-in-Header-clause-says g c =
    let decides = (rw c.in-Header.is at c.in_ok-more.ensures) in
    subst (λ l. IsHeaderText l c.in-Header.text.items c.in-Header.stanzas.items c.in-Header.mac) c.bytes.invariant.legacy
    (subst (λ t. IsHeaderText c.bytes.header.legacy t c.in-Header.stanzas.items c.in-Header.mac) (sym decides.0) decides.1)

pub returns-in_err-byte-clause-refused : goal.returns-in_err-byte-clause-refused
returns-in_err-byte-clause-refused g c = λ told.
    let read = g.R.Read in
    let before = c.bytes.invariant in
    let here = before.same.tells ∙ told in
    let failed = c.in_err-byte.ensures in
    let e = c.in_err-byte.field-0.0 in
    let refused = reader_refused c.bytes.header.legacy (read.faults c.args.reader.now) (read.faults c.bytes.reader)
    (read.faults c.next_byte.new.reader)
    (read.rest c.args.reader.now) (read.rest c.bytes.reader) (read.rest c.next_byte.new.reader)
    (read.place c.args.reader.now) (read.place c.bytes.reader) (read.place c.next_byte.new.reader) c.bytes.header.text e before.legacy
    (before.so_far told) (failed.left here) (before.moved told) (failed.stays here) c.text-size.ensures.undecided
    before.same.faults failed.keeps.same.faults (failed.cause here) in
    let refuses = λ (x : DecryptRefusal). RefusesHeader c.args.legacy (read.faults c.args.reader.now) (read.faults c.next_byte.new.reader)
    (read.rest c.args.reader.now) (read.rest c.next_byte.new.reader) (read.place c.args.reader.now) (read.place c.next_byte.new.reader) x in
    of_error (λ x. refuses (decrypt_refusal x)) c.from_residual.result (decrypt_of_io e) c.from_residual.ensures.1 refused

pub returns-in_err-byte-clause-io : goal.returns-in_err-byte-clause-io
returns-in_err-byte-clause-io g c =
    let read = g.R.Read in
    let before = c.bytes.invariant in
    let e = c.in_err-byte.field-0.0 in
    let may = OrEarly read c.args.reader.now in
    let why = early-narrows read c.args.reader.now c.bytes.reader before.same.tells (λ told. (before.so_far told).end) before.narrows e
    c.in_err-byte.ensures.keeps.why in
    of_error (λ x. IfIoRefusal may (decrypt_refusal x)) c.from_residual.result (decrypt_of_io e) c.from_residual.ensures.1 (io_of_error may e why)

pub returns-in_err-more-clause-refused : goal.returns-in_err-more-clause-refused
returns-in_err-more-clause-refused g c = λ told.
    let read = g.R.Read in
    let before = c.bytes.invariant in
    let here = before.same.tells ∙ told in
    let ran_out = ran_out_after c.bytes.header.legacy (read.rest c.args.reader.now) (read.rest c.bytes.reader) (read.rest c.next_byte.new.reader)
    (read.place c.args.reader.now) (read.place c.bytes.reader) (read.place c.next_byte.new.reader) c.bytes.header.text c.in_ok-byte.byte before.legacy
    (before.so_far told) (c.in_ok-byte.ensures.byte here) (before.moved told) (c.in_ok-byte.ensures.moves here) c.text-size.ensures.undecided in
    let refuses = λ (x : DecryptRefusal). RefusesHeader c.args.legacy (read.faults c.args.reader.now) (read.faults c.next_byte.new.reader)
    (read.rest c.args.reader.now) (read.rest c.next_byte.new.reader) (read.place c.args.reader.now) (read.place c.next_byte.new.reader) x in
    of_error (λ x. refuses (decrypt_refusal x)) c.from_residual-in_err-more.result decrypt.OutOfMemory c.from_residual-in_err-more.ensures.1 ran_out

pub returns-in_err-extend-clause-refused : goal.returns-in_err-extend-clause-refused
returns-in_err-extend-clause-refused g c = λ told.
    let read = g.R.Read in
    let before = c.bytes.invariant in
    let here = before.same.tells ∙ told in
    let ran_out = ran_out_after c.bytes.header.legacy (read.rest c.args.reader.now) (read.rest c.bytes.reader) (read.rest c.next_byte.new.reader)
    (read.place c.args.reader.now) (read.place c.bytes.reader) (read.place c.next_byte.new.reader) c.bytes.header.text c.in_ok-byte.byte before.legacy
    (before.so_far told) (c.in_ok-byte.ensures.byte here) (before.moved told) (c.in_ok-byte.ensures.moves here) c.text-size.ensures.undecided in
    let refuses = λ (x : DecryptRefusal). RefusesHeader c.args.legacy (read.faults c.args.reader.now) (read.faults c.next_byte.new.reader)
    (read.rest c.args.reader.now) (read.rest c.next_byte.new.reader) (read.place c.args.reader.now) (read.place c.next_byte.new.reader) x in
    of_error (λ x. refuses (decrypt_refusal x)) c.from_residual-in_err-extend.result decrypt.OutOfMemory c.from_residual-in_err-extend.ensures.1
    ran_out

pub bytes-preserved : goal.bytes-preserved
bytes-preserved g c =
    let before = c.bytes.invariant in
    let text = c.bytes.header.text in
    let b = c.in_ok-byte.byte in
    let more : c.in-More.more ≡ record { legacy = c.bytes.header.legacy; text = text ++ b ∷ [] } = (rw c.in-More.is at c.in_ok-more.ensures) in
    let longer : c.in-More.more.text ≡ text ++ b ∷ [] = ap (λ (r : ReaderValue). r.text) more in
    record {
      same = search rules;
      narrows = search rules;
      legacy = ap (λ (r : ReaderValue). r.legacy) more ∙ before.legacy;
      moved = λ told.
          omega (arith, before.moved told, c.in_ok-byte.ensures.moves (before.same.tells ∙ told), ap length longer, length-append text (b ∷ []));
      so_far = λ told.
          subst (λ t. Delivers t (g.R.Read.rest c.args.reader.now) (g.R.Read.rest c.next_byte.new.reader)) (sym longer)
          (Delivers-joined text (b ∷ []) _ _ _ (before.so_far told) (c.in_ok-byte.ensures.byte (before.same.tells ∙ told)));
    }
