use Rattle.std.proofs.Common.{arith, sym, ◌∙◌, ◌-◌, length-take-le, ◌≡◌, ◌≤◌, ◌<◌, ◌++◌, length, take, drop}
use Rattle.std.proofs.lemmas.Bool.{true≢false}
use Rattle.std.proofs.lemmas.Grind.{common_steps}
use Rattle.age_io.proofs.Delivering.{refilled}
use Rattle.age_io.proofs.Holding.{follows-filled}
use Rattle.age_io.specs.Reading.{TriedAgain}
use Rattle.age_io.proofs.Keeping.{keeps-done, same-read, same-self}
use Rattle.age_io.proofs.buffered.BufReader.hold.Goals as goal

pub invariant_of-self : goal.invariant_of-self
invariant_of-self g c =
    let before = c.args.self.now in
    let got = c.in-Ok.ensures.reads in
    let new = c.read_retrying.new in
    let kept : length new.buf ≡ length before.buffer.items = grind (arith, common_steps) in
    let buffer = take before.buffer.len (new.buf ++ drop (length new.buf) before.buffer.items) in
    let filled : buffer ≡ new.buf = refilled before.buffer.items new.buf before.buffer.len (before.buffer.ok.0) kept in
    record {
      order = let h : 0 ≤ c.in-Ok.count = omega arith in h;
      within = let h : c.in-Ok.count ≤ length buffer = rw filled got.count in h;
      room = let h : 0 < length buffer = rw (filled, kept) before.room in h;
      unspent = λ fresh some. got.unspent (rw kept before.room);
      fits = λ told. omega (arith, got.moves (sym got.same_tells ∙ told));
      follows = λ told steady fresh some.
          let told_before = sym got.same_tells ∙ told in
          let steady_before = sym got.same_steady ∙ steady in
          let same : g.R.Read.content new.reader ≡ g.R.Read.content before.inner = got.same_content told_before in
          let front = take c.in-Ok.count new.buf in
          let counted : length front ≡ c.in-Ok.count = length-take-le c.in-Ok.count new.buf got.count in
          let back : g.R.Read.place new.reader - (c.in-Ok.count - 0) ≡ g.R.Read.place before.inner = omega (arith, got.moves told_before) in
          let here = follows-filled (g.R.Read.content before.inner) (g.R.Read.rest before.inner) (g.R.Read.rest new.reader)
          (g.R.Read.place before.inner) front (g.met.R.Read.stands before.inner told_before steady_before)
          (got.bytes told_before) (rw counted some) in
          rw (filled, back, same) here;
    }

pub returns-then-self-clause-keeps : goal.returns-then-self-clause-keeps
returns-then-self-clause-keeps g c =
    let inner = c.args.self.now.inner in
    keeps-done g.R.Read (TriedAgain g.R.Read.refuses) inner inner (same-self g.R.Read inner) (λ e may. may)

pub returns-in-Ok-clause-keeps : goal.returns-in-Ok-clause-keeps
returns-in-Ok-clause-keeps g c =
    let reads = c.in-Ok.ensures.reads in
    let inner = c.args.self.now.inner in
    keeps-done g.R.Read (TriedAgain g.R.Read.refuses) inner c.read_retrying.new.reader
    (same-read g.R.Read inner c.read_retrying.new.reader reads) reads.narrows

pub returns-in-Err-clause-keeps : goal.returns-in-Err-clause-keeps
returns-in-Err-clause-keeps g c =
    let reads = c.in-Err.ensures.reads in
    record {
      same = same-read g.R.Read c.args.self.now.inner c.read_retrying.new.reader reads;
      device = reads.device;
      patient = c.in-Err.ensures.patient;
      why = reads.why;
      narrows = tt;
    }

pub invariant_of-self-in-Err : goal.invariant_of-self-in-Err
invariant_of-self-in-Err g c =
    let before = c.args.self.now in
    let reads = c.in-Err.ensures.reads in
    let new = c.read_retrying.new in
    let kept : length new.buf ≡ length before.buffer.items = grind (arith, common_steps) in
    let filled : take before.buffer.len (new.buf ++ drop (length new.buf) before.buffer.items) ≡ new.buf
    = refilled before.buffer.items new.buf before.buffer.len (before.buffer.ok.0) kept in
    record {
      order = let h : 0 ≤ 0 = omega arith in h;
      within = let h : 0 ≤ length new.buf = omega arith in rw filled h;
      room = rw (filled, kept) before.room;
      unspent = λ fresh. absurd (true≢false fresh);
      fits = λ told. omega arith;
      follows = λ told steady fresh. absurd (true≢false fresh);
    }
