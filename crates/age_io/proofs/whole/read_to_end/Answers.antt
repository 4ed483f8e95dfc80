use Rattle.age_io.proofs.Appending.{OnErr-of}
use Rattle.std.proofs.Common.{◌≡◌, ◌<◌, ◌⊎◌, IsTrue, arith, refl, sym, ap, length, take, ◌++◌, ◌∙◌, inl, inr}
use Rattle.std.proofs.lemmas.Result.{IfOk-from_err}
use Rattle.age_error.specs.declared.io.Error.TheVariants.{OutOfMemory}
use Rattle.age_io.specs.Reading.{TriedAgain}
use Rattle.age_io.specs.ReadingLemmas.{quiet_from}
use Rattle.age_error.specs.ErrorLemmas.{of_error}
use Rattle.age_io.proofs.Exiting.{OnOk-refused}
use Rattle.age_io.proofs.Stopping.{keeps-by-read, keeps-memory, appended-front, grown-all, still-clean}
use Rattle.std.proofs.lemmas.Grind.{common_steps}
use Rattle.age_io.proofs.Delivering.{Appended-none, Grown-more}
use Rattle.age_io.proofs.Keeping.{same-self, same-later, same-read, keeps-done}
use Rattle.age_io.proofs.whole.read_to_end.Given.{Over}
use Rattle.age_io.proofs.whole.read_to_end.Goals as goal

-- what was read has room in the list, so it isn't refused
never : (g : Over) (c : goal.After-drop-room-in_err-extend_from_slice g) → ⊥
never g c =
    grind (
      arith,
      common_steps,
      c.in_err-extend_from_slice.ensures.full,
      c.in_ok-wanted.ensures.items,
      c.in_ok-wanted.ensures.fits,
      c.in_ok-count.ensures.reads.count,
    )

pub returns-in_err-room : goal.returns-in_err-room
returns-in_err-room g c =
    let memory = c.in_err-room.ensures.memory in
    let refused = c.from_residual.ensures.0 in
    let is = c.from_residual.ensures.1 in
    record {
      keeps = keeps-memory g.R.Read (λ r e. (e ≡ OutOfMemory) ⊎ TriedAgain g.R.Read.refuses r e) _ c.args.reader.now c.args.reader.now
          c.in_err-room.field-0.0
          is memory (same-self g.R.Read c.args.reader.now) (inl refl);
      unspent = OnOk-refused _ _ refused;
      bytes = λ told. OnOk-refused _ _ refused;
      count = IfOk-from_err _ _ refused;
      moves = λ told. refl;
      end = λ told. OnOk-refused _ _ refused;
      left = λ told. OnOk-refused _ _ refused;
      err = λ told. OnErr-of _ (Appended-none (g.R.Read.rest c.args.reader.now) c.args.buf.now.items);
      cause = λ told. of_error _ _ _ is (λ other. absurd (other memory));
    }

pub reads-preserved : goal.reads-preserved
reads-preserved g c =
    let before = c.reads.invariant in
    let reads = c.in_ok-count.ensures.reads in
    let spare = c.in_ok-wanted.ensures in
    let extended = c.in_ok-extend_from_slice.ensures in
    record {
      same = same-later g.R.Read c.args.reader.now c.reads.reader c.read_retrying.new.reader before.same
          (same-read g.R.Read c.reads.reader c.read_retrying.new.reader reads);
      narrows = λ e h. before.narrows e (reads.narrows e h);
      some_room = before.some_room;
      start = before.start;
      longer = grind (arith, common_steps, before.longer);
      moved = λ told. grind (arith, common_steps, before.moved told, reads.moves (before.same.tells ∙ told));
      so_far = λ told. Grown-more _ _ _ _ _ _ _ (before.so_far told) (reads.bytes (before.same.tells ∙ told))
          (extended.items ∙ ap (λ l. l ++ take c.in_ok-count.count c.read_retrying.new.buf) spare.items);
    }

pub returns-in_err-wanted : goal.returns-in_err-wanted
returns-in_err-wanted g c =
    let before = c.reads.invariant in
    let spare = c.in_err-wanted.ensures in
    let refused = c.from_residual-in_err-wanted.ensures.0 in
    let is = c.from_residual-in_err-wanted.ensures.1 in
    record {
      keeps = keeps-memory g.R.Read (λ r e. (e ≡ OutOfMemory) ⊎ TriedAgain g.R.Read.refuses r e) _ c.args.reader.now c.reads.reader
          c.in_err-wanted.field-0.0
          is spare.memory before.same (inl refl);
      unspent = OnOk-refused _ _ refused;
      bytes = λ told. OnOk-refused _ _ refused;
      count = IfOk-from_err _ _ refused;
      moves = λ told. grind (arith, common_steps, spare.items, before.moved told);
      end = λ told. OnOk-refused _ _ refused;
      left = λ told. OnOk-refused _ _ refused;
      err = λ told.
          OnErr-of _ (appended-front c.args.buf.now.items c.reads.buf.items c.spare.new.buf.items (g.R.Read.rest c.args.reader.now)
          (g.R.Read.rest c.reads.reader)
          (before.so_far told) spare.items (g.R.Read.rest c.reads.reader) (inl refl));
      cause = λ told. of_error _ _ _ is (λ other. absurd (other spare.memory));
    }

pub returns-in_err-count : goal.returns-in_err-count
returns-in_err-count g c =
    let before = c.reads.invariant in
    let reads = c.in_err-count.ensures.reads in
    let refused = c.from_residual-in_err-count.ensures.0 in
    let is = c.from_residual-in_err-count.ensures.1 in
    record {
      keeps = keeps-by-read g.R.Read (λ r e. (e ≡ OutOfMemory) ⊎ TriedAgain g.R.Read.refuses r e) _ c.args.reader.now c.reads.reader
          c.read_retrying.new.reader
          c.in_err-count.field-0.0 is before.same before.narrows (λ e h. inr h) c.in_err-count.ensures.patient reads;
      unspent = OnOk-refused _ _ refused;
      bytes = λ told. OnOk-refused _ _ refused;
      count = IfOk-from_err _ _ refused;
      moves = λ told.
          let stays = reads.stays (before.same.tells ∙ told) in
          grind (arith, common_steps, c.in_ok-wanted.ensures.items, before.moved told, stays);
      end = λ told. OnOk-refused _ _ refused;
      left = λ told. OnOk-refused _ _ refused;
      err = λ told.
          OnErr-of _ (appended-front c.args.buf.now.items c.reads.buf.items c.spare.new.buf.items (g.R.Read.rest c.args.reader.now)
          (g.R.Read.rest c.reads.reader)
          (before.so_far told) c.in_ok-wanted.ensures.items (g.R.Read.rest c.read_retrying.new.reader) (reads.left (before.same.tells ∙ told)));
      cause = λ told. of_error _ _ _ is (λ other quiet.
          let fault = reads.cause (before.same.tells ∙ told) other (quiet_from before.same.faults reads.no_fewer_faults quiet) in
          sym (before.so_far told).delivered.end ∙ fault.ends_badly);
    }

pub returns-then-count-eq0 : goal.returns-then-count-eq0
returns-then-count-eq0 g c =
    let before = c.reads.invariant in
    let reads = c.in_ok-count.ensures.reads in
    let items = c.in_ok-wanted.ensures.items in
    let some : 0 < length c.read_retrying.new.buf = grind (arith, common_steps, before.some_room, c.in_ok-wanted.ensures.some) in
    let clean = λ (told : IsTrue (g.R.Read.tells c.args.reader.now)). reads.end (before.same.tells ∙ told) c.if-count-eq0.true some in
    record {
      keeps = keeps-done g.R.Read (λ r e. (e ≡ OutOfMemory) ⊎ TriedAgain g.R.Read.refuses r e) c.args.reader.now c.read_retrying.new.reader
          (same-later g.R.Read c.args.reader.now c.reads.reader c.read_retrying.new.reader before.same
          (same-read g.R.Read c.reads.reader c.read_retrying.new.reader reads))
          (λ e h. before.narrows e (reads.narrows e h));
      unspent = reads.unspent some;
      bytes = λ told.
          grown-all c.args.buf.now.items c.reads.buf.items c.spare.new.buf.items (g.R.Read.rest c.args.reader.now) (g.R.Read.rest c.reads.reader)
          (before.so_far told) items (clean told);
      count = grind (arith, common_steps, items, before.longer, before.start);
      moves = λ told. grind (arith, common_steps, items, before.moved told, reads.moves (before.same.tells ∙ told), c.if-count-eq0.true);
      end = λ told. sym (before.so_far told).delivered.end ∙ (clean told).ends_well;
      left = λ told.
          still-clean (before.so_far told).front (g.R.Read.rest c.args.reader.now) (g.R.Read.rest c.reads.reader) (before.so_far told).delivered
          (g.R.Read.rest c.read_retrying.new.reader) c.read_retrying.new.buf c.in_ok-count.count c.if-count-eq0.true
          (reads.bytes (before.same.tells ∙ told)) (clean told);
      err = λ told. tt;
      cause = λ told. tt;
    }

pub returns-in_err-extend_from_slice : goal.returns-in_err-extend_from_slice
returns-in_err-extend_from_slice g c = absurd (never g c)
