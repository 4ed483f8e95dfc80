use Rattle.std.proofs.Common.{◌≡◌, ◌<◌, arith, refl, sym, ◌∙◌, ◌-◌, length, take, length-take-le, inl, inr}
use Rattle.std.proofs.lemmas.Grind.{common_steps}
use Rattle.age_io.proofs.Delivering.{take-filled}
use Rattle.age_io.proofs.Filled.{filled-more}
use Rattle.age_error.specs.declared.io.Error.TheVariants.{UnexpectedEof}
use Rattle.age_io.specs.Keeping.{OrEarly}
use Rattle.age_io.specs.ReadingLemmas.{quiet_from}
use Rattle.age_io.proofs.Appending.{OnErr-of}
use Rattle.age_error.specs.ErrorLemmas.{of_error}
use Rattle.age_io.proofs.Exiting.{OnOk-refused}
use Rattle.age_io.proofs.Keeping.{same-later, same-read, keeps-done, keeps-refused}
use Rattle.age_io.proofs.Stopping.{keeps-by-read, took-front, fault-short, clean-short, delivers-none}
use Rattle.age_io.proofs.whole.read_exact.Goals as goal

pub loop-at-preserved : goal.loop-at-preserved
loop-at-preserved g c =
    let before = c.loop-at.invariant in
    let reads = c.in_ok-n.ensures.reads in
    filled-more g.R.Read c.loop-at.buf _ c.read_retrying.new.buf c.loop-at.at c.in_ok-n.n c.args.reader.now c.loop-at.reader
    c.read_retrying.new.reader
    (take-filled c.loop-at.at (length c.loop-at.buf - c.loop-at.at) c.in_ok-n.n c.loop-at.buf c.read_retrying.new.buf before.within reads.count)
    (grind (arith, common_steps, before.within, reads.count)) (grind (arith, common_steps, before.within)) before reads

pub returns-in_err-n : goal.returns-in_err-n
returns-in_err-n g c =
    let before = c.loop-at.invariant in
    let reads = c.in_err-n.ensures.reads in
    let refused = c.from_residual.ensures.0 in
    let is = c.from_residual.ensures.1 in
    let front = take c.loop-at.at c.loop-at.buf in
    let size : length front ≡ c.loop-at.at = length-take-le c.loop-at.at c.loop-at.buf before.within in
    record {
      keeps = keeps-by-read g.R.Read (OrEarly g.R.Read) _ c.args.reader.now c.loop-at.reader c.read_retrying.new.reader c.in_err-n.field-0.0
          is before.same before.narrows (λ e h. inr h) c.in_err-n.ensures.patient reads;
      unspent = λ some. OnOk-refused _ _ refused;
      bytes = λ told. OnOk-refused _ _ refused;
      moves = λ told. OnOk-refused _ _ refused;
      err = λ told.
          OnErr-of _ (took-front front (g.R.Read.rest c.args.reader.now) (g.R.Read.rest c.loop-at.reader) (before.so_far told) _ _ _
          (g.R.Read.rest c.read_retrying.new.reader) (grind (arith, common_steps, size))
          (omega (arith, reads.stays (before.same.tells ∙ told), before.moved told, size)) (reads.left (before.same.tells ∙ told)));
      early = λ told. of_error _ _ _ is (λ other quiet.
          let fault = reads.cause (before.same.tells ∙ told) other (quiet_from before.same.faults reads.no_fewer_faults quiet) in
          fault-short front (g.R.Read.rest c.args.reader.now) (g.R.Read.rest c.loop-at.reader) (before.so_far told) _ _
          (grind (arith, common_steps, size)) fault);
    }

pub returns-in-0-clause-keeps : goal.returns-in-0-clause-keeps
returns-in-0-clause-keeps g c =
    let before = c.loop-at.invariant in
    let reads = c.in_ok-n.ensures.reads in
    let some : 0 < length c.read_retrying.new.buf = grind (arith, common_steps) in
    keeps-refused g.R.Read (OrEarly g.R.Read) c.args.reader.now c.read_retrying.new.reader UnexpectedEof
    (same-later g.R.Read c.args.reader.now c.loop-at.reader c.read_retrying.new.reader before.same
    (same-read g.R.Read c.loop-at.reader c.read_retrying.new.reader reads)) (λ is. is)
    (inl (refl, λ told. sym (before.so_far told).end ∙ (reads.end (before.same.tells ∙ told) c.in-0.is some).ends_well))

pub returns-in-0-clause-err : goal.returns-in-0-clause-err
returns-in-0-clause-err g c = λ told.
    let before = c.loop-at.invariant in
    let reads = c.in_ok-n.ensures.reads in
    let size : length (take c.loop-at.at c.loop-at.buf) ≡ c.loop-at.at = length-take-le c.loop-at.at c.loop-at.buf before.within in
    took-front (take c.loop-at.at c.loop-at.buf) (g.R.Read.rest c.args.reader.now) (g.R.Read.rest c.read_retrying.new.reader)
    (delivers-none (take c.loop-at.at c.loop-at.buf) (g.R.Read.rest c.args.reader.now) (g.R.Read.rest c.loop-at.reader) (before.so_far told)
    (g.R.Read.rest c.read_retrying.new.reader) c.read_retrying.new.buf c.in_ok-n.n c.in-0.is
    (reads.bytes (before.same.tells ∙ told)) _ refl)
    _ _ _ (g.R.Read.rest c.read_retrying.new.reader) (grind (arith, common_steps, size))
    (omega (arith, reads.moves (before.same.tells ∙ told), before.moved told, c.in-0.is, size)) (inl refl)

pub returns-in-0-clause-early : goal.returns-in-0-clause-early
returns-in-0-clause-early g c = λ told other quiet.
    let before = c.loop-at.invariant in
    let reads = c.in_ok-n.ensures.reads in
    let some : 0 < length c.read_retrying.new.buf = grind (arith, common_steps) in
    let clean = reads.end (before.same.tells ∙ told) c.in-0.is some in
    let size : length (take c.loop-at.at c.loop-at.buf) ≡ c.loop-at.at = length-take-le c.loop-at.at c.loop-at.buf before.within in
    clean-short (take c.loop-at.at c.loop-at.buf) (g.R.Read.rest c.args.reader.now) (g.R.Read.rest c.loop-at.reader) (before.so_far told) _
    (grind (arith, common_steps, size)) clean

pub returns-clause-keeps : goal.returns-clause-keeps
returns-clause-keeps g c =
    let before = c.loop-at.invariant in
    keeps-done g.R.Read (OrEarly g.R.Read) c.args.reader.now c.loop-at.reader before.same before.narrows
