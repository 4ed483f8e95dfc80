use Rattle.std.proofs.Common.{◌≡◌, ◌+◌, ◌-◌, ◌<◌, ◌≤◌, IsTrue, inl, inr, subst, ◌∙◌, refl, arith, length, take, length-take-le}
use Rattle.std.proofs.lemmas.Grind.{common_steps}
use Rattle.age_error.specs.Refusals.{IsDevice}
use Rattle.age_io.specs.ReadingLemmas.{quiet_from}
use Rattle.age_io.specs.Writing.{Retried}
use Rattle.age_io.specs.WritingLemmas.{narrows-same, retried-more}
use Rattle.age_error.specs.ErrorLemmas.{of_error}
use Rattle.age_io.proofs.Exiting.{OnOk-refused}
use Rattle.age_io.proofs.Appending.{OnErr-of, left-fewer, left-refused}
use Rattle.age_io.proofs.Copied.{left-unasked, well-is-no-fault}
use Rattle.age_io.proofs.PartCopied.{none-copied, part-none, part-ended, part-full, part-stands, part-stands-full, part-front, part-unread, part-refused, part-unwritten, part-more}
use Rattle.age_io.proofs.copying.copy_some.Goals as goal

pub returns-in_err-piece : goal.returns-in_err-piece
returns-in_err-piece g c =
    let none = g.met.W.Write.appends_nothing c.args.writer.now in
    let memory = c.in_err-piece.ensures.memory in
    let refused = c.from_residual.ensures.0 in
    let is = c.from_residual.ensures.1 in
    record {
      tells = refl;
      part = λ told writer_told. OnOk-refused _ _ refused;
      front = λ told writer_told. none-copied g.W.Write.appended _ c.args.writer.now none;
      stands = OnOk-refused _ _ refused;
      left = OnErr-of _ (left-unasked g.R.Read g.W.Write.tells g.W.Write.appended
          (λ given. length given ≤ c.args.count) c.args.reader.now c.args.writer.now (omega arith) none);
      device = of_error _ _ _ is (λ fault. absurd (subst IsDevice memory fault));
      why = λ told well quiet. of_error _ _ _ is (inl memory);
      named = of_error _ _ _ is (inl memory);
      narrows = OnOk-refused _ _ refused;
    }

pub pieces-init : goal.pieces-init
pieces-init g c =
    let room = c.in_ok-piece.ensures.length in
    record {
      writer_tells = refl;
      has_left = record { given = 0; joined = omega arith; narrows = narrows-same (Retried g.W.Write.refuses) c.args.writer.now };
      writer_faults = omega arith;
      room = omega (arith, room);
      copied = part-none g.R.Read g.W.Write.tells g.W.Write.appended c.args.count c.args.reader.now c.args.writer.now
          (g.met.W.Write.appends_nothing c.args.writer.now);
    }

pub pieces-preserved : goal.pieces-preserved
pieces-preserved g c =
    let read = g.R.Read in
    let before = c.pieces.invariant in
    let reads = c.in_ok-got.ensures.reads in
    let writes = c.in_ok-write_all.ensures.writes in
    let got = c.in_ok-got.got in
    let size : length (take got c.read_retrying.new.buf) ≡ got = length-take-le got c.read_retrying.new.buf reads.count in
    let fits : got ≤ c.pieces.left = grind (arith, common_steps, reads.count) in
    record {
      writer_tells = writes.same_tells ∙ before.writer_tells;
      has_left = left-fewer (Retried g.W.Write.refuses) c.args.writer.now c.pieces.writer c.write_all.new.writer c.args.count c.pieces.left
          (length (take got c.read_retrying.new.buf)) (c.pieces.left - got) (omega (arith, size, fits)) before.has_left writes.narrows;
      writer_faults = omega (arith, before.writer_faults, writes.no_fewer_faults);
      room = grind (arith, common_steps, before.room);
      copied =
          part-more read g.W.Write.tells g.W.Write.appended g.met.W.Write.joins
          c.args.count c.pieces.left (c.pieces.left - got) c.args.reader.now c.pieces.reader c.read_retrying.new.reader
          c.args.writer.now c.pieces.writer c.write_all.new.writer c.read_retrying.new.buf got
          before.copied (omega (arith, size, fits)) reads (λ told. writes.takes_all (before.writer_tells ∙ told));
    }

pub returns-in_err-got : goal.returns-in_err-got
returns-in_err-got g c =
    let before = c.pieces.invariant in
    let gives = before.copied.gives in
    let reads = c.in_err-got.ensures.reads in
    let e = c.in_err-got.field-0.0 in
    let refused = c.from_residual-in_err-got.ensures.0 in
    let is = c.from_residual-in_err-got.ensures.1 in
    record {
      tells = before.writer_tells;
      part = λ told writer_told. OnOk-refused _ _ refused;
      front = λ told writer_told.
          part-front g.R.Read g.W.Write.tells g.W.Write.appended
          c.args.count c.pieces.left c.args.reader.now c.pieces.reader c.args.writer.now c.pieces.writer before.copied told writer_told;
      stands = OnOk-refused _ _ refused;
      left = OnErr-of _ (part-unread g.R.Read g.W.Write.tells g.W.Write.appended
          c.args.count c.pieces.left c.args.reader.now c.pieces.reader c.read_retrying.new.reader c.args.writer.now c.pieces.writer
          c.read_retrying.new.buf e before.copied reads);
      device = of_error _ _ _ is (λ fault. inl (omega (arith, gives.no_fewer_faults, reads.device fault)));
      why = λ told well quiet.
          of_error _ _ _ is (inl (well-is-no-fault e _ _ _ (reads.cause (gives.same_tells ∙ told))
          (quiet_from gives.no_fewer_faults reads.no_fewer_faults quiet) ((gives.bytes told).end ∙ well)));
      named = of_error _ _ _ is (inr (inl (gives.narrows e reads.why)));
      narrows = OnOk-refused _ _ refused;
    }

pub returns-in_err-write_all : goal.returns-in_err-write_all
returns-in_err-write_all g c =
    let read = g.R.Read in
    let before = c.pieces.invariant in
    let reads = c.in_ok-got.ensures.reads in
    let writes = c.in_err-write_all.ensures.writes in
    let refuses = Retried g.W.Write.refuses in
    let e = c.in_err-write_all.field-0.0 in
    let refused = c.from_residual-in_err-write_all.ensures.0 in
    let is = c.from_residual-in_err-write_all.ensures.1 in
    let got = c.in_ok-got.got in
    let piece = take got c.read_retrying.new.buf in
    let size : length piece ≡ got = length-take-le got c.read_retrying.new.buf reads.count in
    let fits : got ≤ c.pieces.left = grind (arith, common_steps, reads.count) in
    let whole : c.pieces.left ≡ length piece + (c.pieces.left - got) = omega (arith, size, fits) in
    let took = λ (told : IsTrue (g.W.Write.tells c.args.writer.now)). writes.takes_front (before.writer_tells ∙ told) in
    let why : refuses c.args.writer.now c.args.count e =
    left-refused refuses (retried-more g.W.Write.refuses g.met.W.Write.refuses_more) c.args.writer.now c.pieces.writer
    c.args.count c.pieces.left (length piece) e (omega (arith, size, fits)) before.has_left writes.why in
    record {
      tells = writes.same_tells ∙ before.writer_tells;
      part = λ told writer_told. OnOk-refused _ _ refused;
      front = λ told writer_told.
          part-refused read g.W.Write.tells g.W.Write.appended g.met.W.Write.joins
          c.args.count c.pieces.left (c.pieces.left - got) c.args.reader.now c.pieces.reader c.read_retrying.new.reader
          c.args.writer.now c.pieces.writer c.write_all.new.writer piece (took writer_told).0
          before.copied told writer_told whole (reads.bytes (before.copied.gives.same_tells ∙ told)) (took writer_told).2;
      stands = OnOk-refused _ _ refused;
      left = OnErr-of _ (part-unwritten read g.W.Write.tells g.W.Write.appended g.met.W.Write.joins
          c.args.count c.pieces.left (c.pieces.left - got) c.args.reader.now c.pieces.reader c.read_retrying.new.reader
          c.args.writer.now c.pieces.writer c.write_all.new.writer c.read_retrying.new.buf got before.copied whole reads took);
      device = of_error _ _ _ is (λ fault. inr (omega (arith, before.writer_faults, writes.device fault)));
      why = λ told well quiet. of_error _ _ _ is (inr why);
      named = of_error _ _ _ is (inr (inr why));
      narrows = OnOk-refused _ _ refused;
    }

pub returns-then-got-eq0 : goal.returns-then-got-eq0
returns-then-got-eq0 g c =
    let before = c.pieces.invariant in
    let reads = c.in_ok-got.ensures.reads in
    let none : c.in_ok-got.got ≡ 0 = omega (arith, c.if-got-eq0.true) in
    let some : 0 < length c.read_retrying.new.buf = grind (arith, common_steps, before.room) in
    record {
      tells = before.writer_tells;
      part = λ told writer_told.
          part-ended g.R.Read g.W.Write.tells g.W.Write.appended
          c.args.count c.pieces.left c.args.reader.now c.pieces.reader c.args.writer.now c.pieces.writer before.copied told writer_told
          (reads.end (before.copied.gives.same_tells ∙ told) none some);
      front = λ told writer_told.
          part-front g.R.Read g.W.Write.tells g.W.Write.appended
          c.args.count c.pieces.left c.args.reader.now c.pieces.reader c.args.writer.now c.pieces.writer before.copied told writer_told;
      stands =
          part-stands g.R.Read g.W.Write.tells g.W.Write.appended
          c.args.count c.pieces.left c.args.reader.now c.pieces.reader c.read_retrying.new.reader c.args.writer.now c.pieces.writer
          c.read_retrying.new.buf c.in_ok-got.got none before.copied reads some;
      left = tt;
      device = tt;
      why = λ told well quiet. tt;
      named = tt;
      narrows = (before.has_left.given, omega (arith, before.has_left.joined), before.has_left.narrows);
    }

pub returns : goal.returns
returns g c =
    let before = c.pieces.invariant in
    let none : c.pieces.left ≡ 0 = omega (arith, c.pieces-test.false) in
    record {
      tells = before.writer_tells;
      part = λ told writer_told.
          part-full g.R.Read g.W.Write.tells g.W.Write.appended
          c.args.count c.pieces.left c.args.reader.now c.pieces.reader c.args.writer.now c.pieces.writer before.copied told writer_told none;
      front = λ told writer_told.
          part-front g.R.Read g.W.Write.tells g.W.Write.appended
          c.args.count c.pieces.left c.args.reader.now c.pieces.reader c.args.writer.now c.pieces.writer before.copied told writer_told;
      stands =
          part-stands-full g.R.Read g.W.Write.tells g.W.Write.appended
          c.args.count c.pieces.left c.args.reader.now c.pieces.reader c.args.writer.now c.pieces.writer before.copied none;
      left = tt;
      device = tt;
      why = λ told well quiet. tt;
      named = tt;
      narrows = (before.has_left.given, omega (arith, before.has_left.joined), before.has_left.narrows);
    }
