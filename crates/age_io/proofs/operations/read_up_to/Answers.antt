use Rattle.std.proofs.Common.{arith, refl, ◌∙◌, ◌≡◌, ◌+◌, ◌≤◌, ◌++◌, [], take, length, vec_len, sym}
use Rattle.std.proofs.lemmas.List.{append-nil}
use Rattle.std.proofs.lemmas.Grind.{common_steps}
use Rattle.std.proofs.lemmas.Result.{IfOk-from_err}
use Rattle.age_io.specs.ReadingLemmas.{quiet_from}
use Rattle.age_io.proofs.Delivering.{gives-more}
use Rattle.age_io.proofs.Turning.{turns-more, clean-after}
use Rattle.age_io.proofs.Reaching.{Reached-end, Reached-more, Reached-replied, Reached-whole}
use Rattle.age_io.proofs.Keeping.{same-later, same-read}
use Rattle.age_io.proofs.Stopping.{well-no-fault}
use Rattle.age_io.proofs.operations.read_up_to.Goals as goal
use Rattle.age_io.proofs.operations.read_up_to.Goals.{else-reads-test, then-reads-test+in-Ok-eq0}

pub reads-preserved : goal.reads-preserved
reads-preserved g c =
    let got = c.in-Ok.ensures.reads in
    let grown : c.extend_from_slice.new.self.items ≡ c.reads.got.items ++ take c.in-Ok.more c.read.new.buf = grind (arith, common_steps) in
    let longer : vec_len c.extend_from_slice.new.self ≡ vec_len c.reads.got + c.in-Ok.more = grind (arith, common_steps) in
    record {
      same = same-later g.R.Read c.args.reader.now c.reads.reader c.read.new.self c.reads.invariant.same
          (same-read g.R.Read c.reads.reader c.read.new.self got);
      most = grind (arith, common_steps, longer);
      gives =
          rw grown (gives-more g.R.Read.tells g.R.Read.steady g.R.Read.content g.R.Read.place g.R.Read.rest g.R.Read.faults g.R.Read.refuses
          c.args.reader.now c.reads.reader c.read.new.self c.reads.got.items c.read.new.buf c.in-Ok.more c.reads.invariant.gives got);
      turns = turns-more g.R.Read.tells g.R.Read.steady g.R.Read.content g.R.Read.place g.R.Read.rest g.R.Read.faults g.R.Read.refuses
          g.R.Read.read_besides
          c.args.reader.now c.reads.reader c.read.new.self c.reads.got.items c.extend_from_slice.new.self.items _ c.read.new.buf c.in-Ok.more
          c.reads.invariant.turns got c.in-Ok.ensures.besides grown;
      so_far = λ told whole.
          let before = c.reads.invariant.same.tells ∙ told in
          let moved : g.R.Read.place c.read.new.self ≡ g.R.Read.place c.reads.reader + length (take c.in-Ok.more c.read.new.buf) =
          grind (arith, common_steps, got.moves before) in
          rw grown (Reached-more (g.R.Read.content c.args.reader.now) (g.R.Read.rest c.reads.reader) (g.R.Read.rest c.read.new.self)
          (g.R.Read.place c.args.reader.now) (g.R.Read.place c.reads.reader) (g.R.Read.place c.read.new.self)
          c.reads.got.items (take c.in-Ok.more c.read.new.buf)
          (c.reads.invariant.so_far told whole) (got.bytes before) moved);
    }

pub returns-in_err-extend_from_slice-in-Ok-clause-keeps : goal.returns-in_err-extend_from_slice-in-Ok-clause-keeps
returns-in_err-extend_from_slice-in-Ok-clause-keeps g c =
    same-later g.R.Read c.args.reader.now c.reads.reader c.read.new.self c.reads.invariant.same
    (same-read g.R.Read c.reads.reader c.read.new.self c.in-Ok.ensures.reads)

pub returns-in_err-extend_from_slice-in-Ok-clause-device : goal.returns-in_err-extend_from_slice-in-Ok-clause-device
returns-in_err-extend_from_slice-in-Ok-clause-device g c = λ none. IfOk-from_err _ _ c.from_residual.ensures.0

pub returns-in_err-extend_from_slice-in-Ok-clause-came : goal.returns-in_err-extend_from_slice-in-Ok-clause-came
returns-in_err-extend_from_slice-in-Ok-clause-came g c = IfOk-from_err _ _ c.from_residual.ensures.0

pub returns-in_err-extend_from_slice-in-Ok-clause-reply : goal.returns-in_err-extend_from_slice-in-Ok-clause-reply
returns-in_err-extend_from_slice-in-Ok-clause-reply g c = λ told well at quiet. IfOk-from_err _ _ c.from_residual.ensures.0

pub returns-in-Err-clause-keeps : goal.returns-in-Err-clause-keeps
returns-in-Err-clause-keeps g c =
    same-later g.R.Read c.args.reader.now c.reads.reader c.read.new.self c.reads.invariant.same
    (same-read g.R.Read c.reads.reader c.read.new.self c.in-Err.ensures.reads)

pub returns-in-Err-clause-device : goal.returns-in-Err-clause-device
returns-in-Err-clause-device g c = λ none is. absurd (omega (arith, none, c.reads.invariant.same.faults, c.in-Err.ensures.reads.device is))

pub returns-in-Err-clause-came : goal.returns-in-Err-clause-came
returns-in-Err-clause-came g c =
    record {
      fewer = grind (arith, common_steps, c.reads-test.true);
      between = c.reads.reader;
      gives = c.reads.invariant.gives;
      turns = c.reads.invariant.turns;
      buf = c.read.new.buf;
      refused = c.in-Err.ensures.reads;
      room = _;
      own = c.in-Err.ensures.besides;
    }

pub returns-in-Err-clause-reply : goal.returns-in-Err-clause-reply
returns-in-Err-clause-reply g c = λ told well at quiet other.
    let before = c.reads.invariant in
    let reads = c.in-Err.ensures.reads in
    absurd (well-no-fault (g.R.Read.content c.args.reader.now) (g.R.Read.rest c.args.reader.now) (g.R.Read.rest c.reads.reader)
    (g.R.Read.place c.args.reader.now) well at
    (before.gives.bytes told) (reads.cause (before.same.tells ∙ told) other (quiet_from before.same.faults reads.no_fewer_faults quiet)))

-- It came to so many bytes, or a read answered 0.
pub returns-clause-came : goal.returns-clause-came
returns-clause-came g c =
    let r = g.R.Read in
    let before = c.reads.invariant in
    let most : length c.reads.got.items ≤ c.args.count = grind (arith, common_steps, before.most) in
    elim c.reads-test.branch [
      | else-reads-test w ↦ rw w.reader-is record {
        most = most;
        gives = before.gives;
        turns = before.turns;
        end = λ told less. absurd (grind (arith, common_steps, w.reads-test.false, less));
        finds = λ less. absurd (grind (arith, common_steps, w.reads-test.false, less));
      }
      | then-reads-test+in-Ok-eq0 w ↦
          let none : w.in-Ok-eq0.field-0 ≡ 0 = omega (arith, w.in-Ok-eq0.field-0-test) in
          let got = rw none at w.in-Ok-eq0.ensures.reads in
          let own = rw none at w.in-Ok-eq0.ensures.besides in
          let same : c.reads.got.items ≡ c.reads.got.items ++ take 0 w.read.new.buf = sym (append-nil c.reads.got.items) in
          rw w.reader-is record {
            most = most;
            gives = rw same (gives-more r.tells r.steady r.content r.place r.rest r.faults r.refuses
                c.args.reader.now c.reads.reader w.read.new.self c.reads.got.items w.read.new.buf 0 before.gives got);
            turns = turns-more r.tells r.steady r.content r.place r.rest r.faults r.refuses r.read_besides
                c.args.reader.now c.reads.reader w.read.new.self c.reads.got.items c.reads.got.items _ w.read.new.buf 0 before.turns got own same;
            end = λ told less. clean-after r.tells r.steady r.content r.place r.rest r.faults r.refuses c.reads.reader w.read.new.self
                w.read.new.buf got
                (before.same.tells ∙ told) (grind (arith, common_steps, w.reads-test.true));
            finds = λ less. (
              c.reads.reader,
              before.turns.0,
              before.turns.1,
              record { room = _; buf = w.read.new.buf; some = grind (arith, common_steps, w.reads-test.true); reads = got; own = own },
            );
          }
    ]

pub returns-clause-reply : goal.returns-clause-reply
returns-clause-reply g c = λ told well at quiet other.
    let content = g.R.Read.content c.args.reader.now in
    let start = g.R.Read.place c.args.reader.now in
    let got = c.reads.got.items in
    let before = c.reads.invariant in
    let so_far = before.so_far told at in
    let most : length got ≤ c.args.count = grind (arith, common_steps, before.most) in
    elim c.reads-test.branch [
      | else-reads-test w ↦ rw w.reader-is (Reached-replied content _ start _ c.args.count got _ refl so_far
          (Reached-whole content _ start _ c.args.count got so_far (grind (arith, common_steps, w.reads-test.false, most))))
      | then-reads-test+in-Ok-eq0 w ↦
          let none : w.in-Ok-eq0.field-0 ≡ 0 = omega (arith, w.in-Ok-eq0.field-0-test) in
          let reads = rw none at w.in-Ok-eq0.ensures.reads in
          let told_then = before.same.tells ∙ told in
          let reached = rw append-nil at (Reached-more content _ _ start _ _ got [] so_far (reads.bytes told_then) (reads.moves told_then)) in
          let end = clean-after g.R.Read.tells g.R.Read.steady g.R.Read.content g.R.Read.place g.R.Read.rest g.R.Read.faults g.R.Read.refuses
          c.reads.reader w.read.new.self w.read.new.buf reads told_then (grind (arith, common_steps, w.reads-test.true)) in
          rw w.reader-is (Reached-replied content _ start _ c.args.count got _ refl reached
          (Reached-end content _ start _ c.args.count got reached end.bytes most))
    ]
