use Rattle.std.proofs.Common.{◌≡◌, ◌+◌, ◌<◌, ◌≤◌, IsTrue, ◌∙◌, refl, ap, subst, arith, length, length-append, take, inl, inr}
use Rattle.std.specs.Prelude.{⊤}
use Rattle.age_error.specs.Refusals.{IsDevice}
use Rattle.age_io.specs.Writing.{Retried}
use Rattle.age_io.specs.WritingLemmas.{narrows-same, narrows-both, retried-more}
use Rattle.age_error.specs.ErrorLemmas.{of_error}
use Rattle.age_io.proofs.Exiting.{OnOk-refused}
use Rattle.age_io.proofs.Appending.{OnErr-of}
use Rattle.age_io.proofs.Delivering.{refilled}
use Rattle.age_io.specs.ReadingLemmas.{quiet_from}
use Rattle.age_io.proofs.Copied.{front-more, front-copied, all-copied, copied-stands, copied-more, copied-none, left-unasked, left-between, left-by-read, left-by-write, well-is-no-fault}
use Rattle.age_io.proofs.PartCopied.{none-copied}
use Rattle.age_io.proofs.copying.copy_all.Goals as goal

pub returns-in_err-room : goal.returns-in_err-room
returns-in_err-room g c =
    let none = g.met.W.Write.appends_nothing c.args.writer.now in
    let memory = c.in_err-room.ensures.memory in
    let refused = c.from_residual.ensures.0 in
    let is = c.from_residual.ensures.1 in
    record {
      tells = refl;
      all = λ told writer_told. OnOk-refused _ _ refused;
      front = λ told writer_told. none-copied g.W.Write.appended _ c.args.writer.now none;
      stands = OnOk-refused _ _ refused;
      left = OnErr-of _ (left-unasked g.R.Read g.W.Write.tells g.W.Write.appended (λ _. ⊤) c.args.reader.now c.args.writer.now tt none);
      device = of_error _ _ _ is (λ fault. absurd (subst IsDevice memory fault));
      why = λ told well quiet. of_error _ _ _ is (inl memory);
      named = of_error _ _ _ is (inl (inl memory));
      narrows = OnOk-refused _ _ refused;
      no_fewer_faults = omega arith;
    }

pub loop-piece-init : goal.loop-piece-init
loop-piece-init g c =
    let room = c.in_ok-room.ensures.length in
    record {
      writer_tells = refl;
      given = (0, (λ told. omega arith), narrows-same (Retried g.W.Write.refuses) c.args.writer.now);
      writer_faults = omega arith;
      pieces = λ told. omega arith;
      room = omega (arith, room);
      copied = copied-none g.R.Read g.W.Write.tells g.W.Write.appended c.args.reader.now c.args.writer.now
          (g.met.W.Write.appends_nothing c.args.writer.now);
    }

pub loop-piece-preserved : goal.loop-piece-preserved
loop-piece-preserved g c =
    let read = g.R.Read in
    let before = c.loop-piece.invariant in
    let room = c.loop-piece.room in
    let reads = c.in_ok-count.ensures.reads in
    let writes = c.in_ok-write_front.ensures.writes in
    let size : length c.read_retrying.new.buf ≡ length room.items = omega (arith, c.read_retrying.auto.buf, c.deref_mut.ensures.len, room.ok.0) in
    let filled = refilled room.items c.read_retrying.new.buf room.len room.ok.0 size in
    record {
      writer_tells = writes.same_tells ∙ before.writer_tells;
      given =
          let (given, joined, narrows) = before.given in
          let piece = take c.in_ok-count.count c.read_retrying.new.buf in (
            given + length piece,
            (λ reader_told.
                let size = ap length (reads.bytes (before.copied.gives.same_tells ∙ reader_told)).bytes in
                omega (arith, joined reader_told, size, length-append piece (read.rest c.read_retrying.new.reader).bytes)),
            narrows-both (Retried g.W.Write.refuses) c.args.writer.now c.loop-piece.writer c.write_front.new.writer given (length piece) narrows
                (rw filled at writes.narrows),
          );
      writer_faults = omega (arith, before.writer_faults, writes.no_fewer_faults);
      pieces = λ reader_told. omega (
        arith,
        before.pieces reader_told,
        reads.moves
            (before.copied.gives.same_tells ∙ reader_told),
        c.if-count-eq0.false,
      );
      room = let same = rw filled at c.in_ok-write_front.ensures.size in omega (arith, same, size, before.room);
      copied =
          copied-more read g.W.Write.tells g.W.Write.appended g.met.W.Write.joins
          c.args.reader.now c.loop-piece.reader c.read_retrying.new.reader c.args.writer.now c.loop-piece.writer c.write_front.new.writer
          c.read_retrying.new.buf c.in_ok-count.count before.copied reads
          (λ told. rw filled at (writes.takes_all (before.writer_tells ∙ told)));
    }

pub returns-in_err-count : goal.returns-in_err-count
returns-in_err-count g c =
    let before = c.loop-piece.invariant in
    let gives = before.copied.gives in
    let reads = c.in_err-count.ensures.reads in
    let e = c.in_err-count.field-0.0 in
    let refused = c.from_residual-in_err-count.ensures.0 in
    let is = c.from_residual-in_err-count.ensures.1 in
    record {
      tells = before.writer_tells;
      all = λ told writer_told. OnOk-refused _ _ refused;
      front = λ told writer_told.
          front-copied g.R.Read g.W.Write.tells g.W.Write.appended
          c.args.reader.now c.loop-piece.reader c.args.writer.now c.loop-piece.writer before.copied told writer_told;
      stands = OnOk-refused _ _ refused;
      left = OnErr-of _ (left-by-read g.R.Read g.W.Write.tells g.W.Write.appended (λ _. ⊤)
          before.copied.front c.args.reader.now c.loop-piece.reader c.read_retrying.new.reader c.args.writer.now c.loop-piece.writer
          c.read_retrying.new.buf e tt gives before.copied.out reads);
      device = of_error _ _ _ is (λ fault. inl (omega (arith, gives.no_fewer_faults, reads.device fault)));
      why = λ told well quiet.
          of_error _ _ _ is (inl (well-is-no-fault e _ _ _ (reads.cause (gives.same_tells ∙ told))
          (quiet_from gives.no_fewer_faults reads.no_fewer_faults quiet) ((gives.bytes told).end ∙ well)));
      named = of_error _ _ _ is (inl (inr (inl (gives.narrows e reads.why))));
      narrows = OnOk-refused _ _ refused;
      no_fewer_faults = before.writer_faults;
    }

pub returns-in_err-write_front : goal.returns-in_err-write_front
returns-in_err-write_front g c =
    let read = g.R.Read in
    let before = c.loop-piece.invariant in
    let room = c.loop-piece.room in
    let reads = c.in_ok-count.ensures.reads in
    let writes = c.in_err-write_front.ensures.writes in
    let e = c.in_err-write_front.field-0.0 in
    let refused = c.from_residual-in_err-write_front.ensures.0 in
    let is = c.from_residual-in_err-write_front.ensures.1 in
    let size : length c.read_retrying.new.buf ≡ length room.items = omega (arith, c.read_retrying.auto.buf, c.deref_mut.ensures.len, room.ok.0) in
    let filled = refilled room.items c.read_retrying.new.buf room.len room.ok.0 size in
    let refuses = Retried g.W.Write.refuses in
    let piece = take c.in_ok-count.count c.read_retrying.new.buf in
    let (given, joined, narrows) = before.given in
    let why : refuses c.loop-piece.writer (length piece) e = rw filled at writes.why in
    let took = λ (told : IsTrue (g.W.Write.tells c.args.writer.now)). rw filled at (writes.takes_front (before.writer_tells ∙ told)) in
    -- what it refuses of this piece it may refuse of all that the reader had
    let of_all : IsTrue (read.tells c.args.reader.now) → refuses c.args.writer.now (length (read.rest c.args.reader.now).bytes) e = λ told.
    let came = reads.bytes (before.copied.gives.same_tells ∙ told) in
    let fewer : given + length piece ≤ length (read.rest c.args.reader.now).bytes
    = omega (arith, joined told, ap length came.bytes, length-append piece (read.rest c.read_retrying.new.reader).bytes) in
    retried-more g.W.Write.refuses g.met.W.Write.refuses_more c.args.writer.now (given + length piece)
    (length (read.rest c.args.reader.now).bytes) e fewer
    (narrows (length piece) e why) in
    record {
      tells = writes.same_tells ∙ before.writer_tells;
      all = λ told writer_told. OnOk-refused _ _ refused;
      front = λ told writer_told.
          front-more read g.W.Write.tells g.W.Write.appended g.met.W.Write.joins
          c.args.reader.now c.loop-piece.reader c.read_retrying.new.reader c.args.writer.now c.loop-piece.writer c.write_front.new.writer
          c.read_retrying.new.buf c.in_ok-count.count (took writer_told).0 before.copied reads told writer_told (took writer_told).2;
      stands = OnOk-refused _ _ refused;
      left = OnErr-of _ (left-by-write read g.W.Write.tells g.W.Write.appended (λ _. ⊤) g.met.W.Write.joins
          before.copied.front c.args.reader.now c.loop-piece.reader c.read_retrying.new.reader c.args.writer.now c.loop-piece.writer
          c.write_front.new.writer
          c.read_retrying.new.buf c.in_ok-count.count tt before.copied.gives before.copied.out reads took);
      device = of_error _ _ _ is (λ fault. inr (omega (arith, before.writer_faults, writes.device fault)));
      why = λ told well quiet. of_error _ _ _ is (inr (of_all told));
      named = of_error _ _ _ is (inl (inr (inr ((given + length piece, narrows (length piece) e why), of_all))));
      narrows = OnOk-refused _ _ refused;
      no_fewer_faults = omega (arith, before.writer_faults, writes.no_fewer_faults);
    }

pub returns-then-count-eq0 : goal.returns-then-count-eq0
returns-then-count-eq0 g c =
    let before = c.loop-piece.invariant in
    let reads = c.in_ok-count.ensures.reads in
    let none : c.in_ok-count.count ≡ 0 = omega (arith, c.if-count-eq0.true) in
    let some : 0 < length c.read_retrying.new.buf =
    omega (arith, c.read_retrying.auto.buf, c.deref_mut.ensures.len, c.loop-piece.room.ok.0, before.room) in
    let clean = λ (told : IsTrue (g.R.Read.tells c.args.reader.now)). reads.end (before.copied.gives.same_tells ∙ told) none some in
    record {
      tells = before.writer_tells;
      all = λ told writer_told.
          all-copied g.R.Read g.W.Write.tells g.W.Write.appended
          c.args.reader.now c.loop-piece.reader c.args.writer.now c.loop-piece.writer before.copied told writer_told (clean told);
      front = λ told writer_told.
          front-copied g.R.Read g.W.Write.tells g.W.Write.appended
          c.args.reader.now c.loop-piece.reader c.args.writer.now c.loop-piece.writer before.copied told writer_told;
      stands =
          copied-stands g.R.Read g.W.Write.tells g.W.Write.appended
          c.args.reader.now c.loop-piece.reader c.read_retrying.new.reader c.args.writer.now c.loop-piece.writer
          c.read_retrying.new.buf c.in_ok-count.count none before.copied reads some;
      left = tt;
      device = tt;
      why = λ told well quiet. tt;
      named = tt;
      narrows =
          let (given, joined, narrows) = before.given in
          (given, (λ told. omega (arith, joined told, ap length (clean told).bytes)), narrows);
      no_fewer_faults = before.writer_faults;
    }

pub returns : goal.returns
returns g c =
    let before = c.loop-piece.invariant in
    -- no reader that tells its bytes has so many pieces
    let never : IsTrue (g.R.Read.tells c.args.reader.now) → ⊥ = λ told.
    let fits = g.met.R.Read.place_fits c.loop-piece.reader (before.copied.gives.same_tells ∙ told) in
    omega (arith, before.pieces told, fits, c.loop-piece-test.false) in
    record {
      tells = before.writer_tells;
      all = λ told writer_told. tt;
      front = λ told writer_told.
          front-copied g.R.Read g.W.Write.tells g.W.Write.appended
          c.args.reader.now c.loop-piece.reader c.args.writer.now c.loop-piece.writer before.copied told writer_told;
      narrows = tt;
      no_fewer_faults = before.writer_faults;
      stands = tt;
      left =
          left-between g.R.Read g.W.Write.tells g.W.Write.appended (λ _. ⊤)
          c.args.reader.now c.loop-piece.reader c.args.writer.now c.loop-piece.writer before.copied tt;
      device = λ fault. absurd fault;
      why = λ told well quiet. absurd (never told);
      named = inr (refl, never);
    }
