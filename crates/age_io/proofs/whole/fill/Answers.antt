use Rattle.std.proofs.Common.{rules, ◌≡◌, ◌<◌, arith, ◌∙◌, ◌-◌, length, take, length-take-le, le_refl}
use Rattle.std.proofs.lemmas.Slice.{take-put_mid_below}
use Rattle.std.proofs.lemmas.Grind.{common_steps}
use Rattle.age_io.proofs.Delivering.{take-filled}
use Rattle.age_io.proofs.Filled.{filled-more, filled-all, filled-end, filled-refused}
use Rattle.age_io.specs.Reading.{TriedAgain}
use Rattle.age_io.specs.ReadingLemmas.{quiet_from}
use Rattle.age_io.proofs.Appending.{OnErr-of}
use Rattle.age_error.specs.ErrorLemmas.{of_error}
use Rattle.age_io.proofs.Exiting.{OnOk-refused}
use Rattle.age_io.proofs.Keeping.{same-later, same-read, keeps-done}
use Rattle.age_io.proofs.Stopping.{keeps-by-read, gave-front, fault-early, delivers-none, still-clean}
use Rattle.age_io.proofs.whole.fill.Goals as goal

pub reads-preserved : goal.reads-preserved
reads-preserved g c =
    let before = c.reads.invariant in
    let reads = c.in_ok-n.ensures.reads in
    filled-more g.R.Read c.reads.buf _ c.read_retrying.new.buf c.reads.filled c.in_ok-n.n c.args.reader.now c.reads.reader c.read_retrying.new.reader
    (take-filled c.reads.filled (length c.reads.buf - c.reads.filled) c.in_ok-n.n c.reads.buf c.read_retrying.new.buf before.within reads.count)
    (grind (arith, common_steps, before.within, reads.count)) (grind (arith, common_steps, before.within)) before reads

pub returns-in_err-n : goal.returns-in_err-n
returns-in_err-n g c =
    let before = c.reads.invariant in
    let reads = c.in_err-n.ensures.reads in
    let refused = c.from_residual.ensures.0 in
    let is = c.from_residual.ensures.1 in
    let front = take c.reads.filled c.reads.buf in
    record {
      keeps = keeps-by-read g.R.Read (TriedAgain g.R.Read.refuses) _ c.args.reader.now c.reads.reader c.read_retrying.new.reader c.in_err-n.field-0.0
          is before.same before.narrows (λ e h. h) c.in_err-n.ensures.patient reads;
      unspent = λ some. OnOk-refused _ _ refused;
      count = grind (arith, common_steps, before.within);
      moves = λ told. reads.stays (before.same.tells ∙ told) ∙ before.moved told;
      bytes = λ told. OnOk-refused _ _ refused;
      end = λ told. OnOk-refused _ _ refused;
      err = λ told.
          OnErr-of _ (gave-front front (g.R.Read.rest c.args.reader.now) (g.R.Read.rest c.reads.reader) (before.so_far told) _
          (g.R.Read.rest c.read_retrying.new.reader)
          (take-put_mid_below c.reads.filled (length c.reads.buf - c.reads.filled) c.reads.buf c.read_retrying.new.buf c.reads.filled
          (le_refl c.reads.filled)
          before.within) (reads.left (before.same.tells ∙ told)));
      cause = λ told. of_error _ _ _ is (λ other quiet.
          let fault = reads.cause (before.same.tells ∙ told) other (quiet_from before.same.faults reads.no_fewer_faults quiet) in
          let size : length front ≡ c.reads.filled = length-take-le c.reads.filled c.reads.buf before.within in
          fault-early front (g.R.Read.rest c.args.reader.now) (g.R.Read.rest c.reads.reader) (before.so_far told) _
          (grind (arith, common_steps, size)) fault);
      turns = OnOk-refused _ _ refused;
      refused = of_error _ _ _ is (filled-refused g.R.Read c.reads.buf _ c.read_retrying.new.buf c.reads.filled c.in_err-n.field-0.0
          c.args.reader.now c.reads.reader
          c.read_retrying.new.reader
          (take-put_mid_below c.reads.filled (length c.reads.buf - c.reads.filled) c.reads.buf c.read_retrying.new.buf c.reads.filled
          (le_refl c.reads.filled)
          before.within) (grind (arith, common_steps)) before reads);
    }

pub returns-in-0 : goal.returns-in-0
returns-in-0 g c =
    let before = c.reads.invariant in
    let reads = c.in_ok-n.ensures.reads in
    let some : 0 < length c.read_retrying.new.buf = grind (arith, common_steps) in
    let kept =
    take-put_mid_below c.reads.filled (length c.reads.buf - c.reads.filled) c.reads.buf c.read_retrying.new.buf c.reads.filled
    (le_refl c.reads.filled)
    before.within in
    record {
      keeps = keeps-done g.R.Read (TriedAgain g.R.Read.refuses) c.args.reader.now c.read_retrying.new.reader
          (same-later g.R.Read c.args.reader.now c.reads.reader c.read_retrying.new.reader before.same
          (same-read g.R.Read c.reads.reader c.read_retrying.new.reader reads))
          (λ e h. before.narrows e (reads.narrows e h));
      unspent = λ _. reads.unspent some;
      count = grind (arith, common_steps, before.within);
      turns = filled-end g.R.Read c.reads.buf _ c.read_retrying.new.buf c.reads.filled c.in_ok-n.n c.args.reader.now c.reads.reader
          c.read_retrying.new.reader c.in-0.is
          kept (grind (arith, common_steps, before.within)) some before reads;
      refused = tt;
      moves = λ told. omega (arith, reads.moves (before.same.tells ∙ told), before.moved told, c.in-0.is);
      bytes = λ told.
          delivers-none (take c.reads.filled c.reads.buf) (g.R.Read.rest c.args.reader.now) (g.R.Read.rest c.reads.reader) (before.so_far told)
          (g.R.Read.rest c.read_retrying.new.reader) c.read_retrying.new.buf c.in_ok-n.n c.in-0.is
          (reads.bytes (before.same.tells ∙ told)) _ kept;
      end = λ told fewer.
          still-clean (take c.reads.filled c.reads.buf) (g.R.Read.rest c.args.reader.now) (g.R.Read.rest c.reads.reader) (before.so_far told)
          (g.R.Read.rest c.read_retrying.new.reader) c.read_retrying.new.buf c.in_ok-n.n c.in-0.is
          (reads.bytes (before.same.tells ∙ told)) (reads.end (before.same.tells ∙ told) c.in-0.is some);
      err = λ told. tt;
      cause = λ told. tt;
    }

pub returns : goal.returns
returns g c =
    let before = c.reads.invariant in
    record {
      keeps = keeps-done g.R.Read (TriedAgain g.R.Read.refuses) c.args.reader.now c.reads.reader before.same before.narrows;
      unspent = search rules;
      count = grind (arith, common_steps, before.within);
      turns = filled-all g.R.Read c.reads.buf c.reads.filled c.args.reader.now c.reads.reader (grind (arith, common_steps)) before;
      refused = tt;
      moves = before.moved;
      bytes = before.so_far;
      end = λ told fewer. absurd (grind (arith, common_steps, fewer));
      err = λ told. tt;
      cause = λ told. tt;
    }
