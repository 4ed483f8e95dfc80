use Rattle.age_stream.proofs.OneChunk.{in-one-end, in-one-full, in-one-more, in-one-opens}
use Rattle.std.proofs.Common.{rules, ◌≡◌, ◌*◌, ◌<◌, ◌≤◌, Err, arith, ◌∙◌, ◌-◌, ◌+◌, length, take, subst, length-take-le, sym}
use Rattle.age_v1.specs.PayloadAnswers.{StandAt, StopsNear, IsGoodEnd}
use Rattle.age_stream.specs.Reader.{payload_of, place_of, plain_rest_of, wanted_of}
use Rattle.age_stream.proofs.Answered.{refuses-near}
use Rattle.age_io.specs.ReadingLemmas.{quiet_from}
use Rattle.age_error.specs.ErrorLemmas.{of_error}
use Rattle.age_stream.specs.PrivateSteps.{FullInOne}
use Rattle.age_stream.proofs.Keeping.{err-is, payload-more, stops-kept, told-later, payload-done, payload-handed, payload-later}
use Rattle.age_v1.proofs.StandingBytes.{stand-given, stand-joined}
use Rattle.std.proofs.lemmas.Grind.{common_steps}
use borrow.Rule.Slice.PartMut.{put_mid}
use Rattle.std.proofs.lemmas.Slice.{take-put_mid_below}
use Rattle.age_io.specs.Reading.{Delivers}
use Rattle.age_io.proofs.Delivering.{Delivers-joined, take-filled}
use Rattle.age_stream.proofs.reader.StreamReader.read_full.Goals as goal

pub reads-preserved : goal.reads-preserved
reads-preserved g c =
    let before = c.reads.invariant in
    let later = told-later g.R.Read c.args.self.now.source.inner c.reads.self.source.inner before.keeps.inner.same in
    let read = c.in_ok-n.ensures in
    let got = read.reads in
    record {
      keeps = payload-done _ _ (payload-later c.args.self.now.source c.reads.self.source _ c.read_on.new.self.source
          before.keeps
          (payload-more _ _ _ (stops-kept c.args.self.now c.reads.self before.keeps before.same_key) read.keeps));
      within = grind (arith, common_steps);
      good = read.moves.good;
      same_key = read.moves.key ∙ before.same_key;
      moved = omega (arith, before.moved, read.moves.placed);
      so_far = λ told.
          let k = length c.reads.buf - c.reads.filled in
          let filled = take-filled c.reads.filled k c.in_ok-n.n c.reads.buf c.read_on.new.buf before.within got.count in
          rw filled (Delivers-joined _ _ _ _ _ (before.so_far told) (got.bytes (later told)));
      spared = omega (arith, before.spared, read.opens.spared);
      stored = λ told.
          let k = length c.reads.buf - c.reads.filled in
          let filled = take-filled c.reads.filled k c.in_ok-n.n c.reads.buf c.read_on.new.buf before.within got.count in
          let long : length (take c.reads.filled c.reads.buf) ≡ c.reads.filled = length-take-le c.reads.filled c.reads.buf before.within in
          let there : place_of c.reads.self ≡ place_of c.args.self.now + length (take c.reads.filled c.reads.buf) =
          omega (arith, before.moved, long) in
          let given = stand-given g.S.Suite.seal_of c.reads.self.key (payload_of c.reads.self) (place_of c.reads.self) _ _
          (read.answers.gives (later told) (omega (arith, c.if-n-eq0.false))) in
          rw filled (stand-joined g.S.Suite.seal_of c.args.self.now.key (payload_of c.args.self.now).bytes (place_of c.args.self.now)
          (take c.reads.filled c.reads.buf) (take c.in_ok-n.n c.read_on.new.buf)
          (before.stored told)
          (subst (λ p. StandAt g.S.Suite.seal_of c.args.self.now.key (payload_of c.args.self.now).bytes p (take c.in_ok-n.n c.read_on.new.buf)) there
          (subst (λ p. StandAt g.S.Suite.seal_of c.args.self.now.key p.bytes (place_of c.reads.self) (take c.in_ok-n.n c.read_on.new.buf))
          (before.keeps.payload told)
          (subst (λ k. StandAt g.S.Suite.seal_of k (payload_of c.reads.self).bytes (place_of c.reads.self) (take c.in_ok-n.n c.read_on.new.buf))
          before.same_key given))));
      inner_end = λ told. read.answers.inner_end (later told) ∙ before.inner_end told;
      counted = omega (arith, before.counted, read.opens.counts);
      one = λ chunk from within.
          let long : length (put_mid c.reads.filled (length c.reads.buf - c.reads.filled) c.reads.buf c.read_on.new.buf) ≡ length c.reads.buf =
          grind (arith, common_steps) in
          let fits : place_of c.args.self.now + length c.reads.buf ≤ 65536 * chunk + 65536 = omega (arith, within, long) in
          in-one-more c.args.self.now c.reads.self c.read_on.new.self chunk c.reads.filled
          (length c.reads.buf) from fits c.reads-test.true before.moved before.good
          (before.one chunk from fits) c.in_ok-n.n read.opens read.chunks (omega (arith, c.if-n-eq0.false));
    }

-- the end was found
pub returns-then-n-eq0 : goal.returns-then-n-eq0
returns-then-n-eq0 g c =
    let self = c.args.self.now in
    let mid = c.reads.self in
    let before = c.reads.invariant in
    let later = told-later g.R.Read self.source.inner mid.source.inner before.keeps.inner.same in
    let read = c.in_ok-n.ensures in
    let k = length c.reads.buf - c.reads.filled in
    let same = take-put_mid_below c.reads.filled k c.reads.buf c.read_on.new.buf c.reads.filled (omega arith) before.within in
    record {
      keeps = payload-done _ _ (payload-later self.source mid.source _ c.read_on.new.self.source before.keeps
          (payload-more _ _ _ (stops-kept self mid before.keeps before.same_key) read.keeps));
      count = grind (arith, common_steps);
      moves = (read.moves.key ∙ before.same_key, omega (arith, before.moved, read.moves.placed, c.if-n-eq0.true));
      reads = record {
        good = read.moves.good;
        bytes = λ told.
            let filled = take-filled c.reads.filled k c.in_ok-n.n c.reads.buf c.read_on.new.buf before.within read.reads.count in
            let none : c.reads.filled + c.in_ok-n.n ≡ c.reads.filled = omega (arith, c.if-n-eq0.true) in
            subst (λ m. Delivers (take m (put_mid c.reads.filled k c.reads.buf c.read_on.new.buf)) (plain_rest_of self)
            (plain_rest_of c.read_on.new.self)) none
            (rw filled (Delivers-joined _ _ _ _ _ (before.so_far told) (read.reads.bytes (later told))));
        stored = λ told. rw same (before.stored told);
        end = search rules;
        ended = λ told less.
            let good = read.answers.ended (later told) (omega (arith, c.if-n-eq0.true)) in
            let there : place_of mid ≡ place_of c.read_on.new.self = omega (arith, read.moves.placed, c.if-n-eq0.true) in
            subst (λ n. IsGoodEnd g.S.Suite.seal_of self.key (payload_of self) n) there
            (subst (λ p. IsGoodEnd g.S.Suite.seal_of self.key p (place_of mid)) (before.keeps.payload told)
            (subst (λ k. IsGoodEnd g.S.Suite.seal_of k (payload_of mid) (place_of mid)) before.same_key good));
        inner_end = λ told. read.answers.inner_end (later told) ∙ before.inner_end told;
      };
      refused = tt;
      opens = (omega (arith, before.counted, read.opens.counts), search rules);
      one = λ told chunk from within.
          let long : length (put_mid c.reads.filled k c.reads.buf c.read_on.new.buf) ≡ length c.reads.buf = grind (arith, common_steps) in
          let fits : place_of self + length c.reads.buf ≤ 65536 * chunk + 65536 = omega (arith, within, long) in
          let some : 0 < length c.read_on.new.buf = grind (arith, common_steps) in
          in-one-end self mid c.read_on.new.self chunk c.reads.filled (length c.reads.buf) from fits c.reads-test.true before.moved before.good
          (before.one chunk from fits) c.in_ok-n.n read.opens read.chunks (read.reads.end (later told) (omega (arith, c.if-n-eq0.true)) some);
    }

-- a read was refused
pub returns-in_err-n-clause-keeps : goal.returns-in_err-n-clause-keeps
returns-in_err-n-clause-keeps g c =
    let self = c.args.self.now in
    let mid = c.reads.self in
    let new = c.read_on.new.self in
    let before = c.reads.invariant in
    let read = c.in_err-n.ensures in
    let e = c.in_err-n.field-0.0 in
    payload-handed self.source new.source c.from_residual.result e c.from_residual.ensures.1
    (payload-later self.source mid.source (Err e) new.source before.keeps
    (payload-more _ _ _ (stops-kept self mid before.keeps before.same_key) read.keeps))

pub returns-in_err-n-clause-refused : goal.returns-in_err-n-clause-refused
returns-in_err-n-clause-refused g c =
    let self = c.args.self.now in
    let mid = c.reads.self in
    let before = c.reads.invariant in
    let later = told-later g.R.Read self.source.inner mid.source.inner before.keeps.inner.same in
    let read = c.in_err-n.ensures in
    let there : place_of c.read_on.new.self ≡ place_of mid = read.moves.stayed in
    of_error _ _ _ c.from_residual.ensures.1 record {
      fails = read.moves.fails;
      short = grind (arith, common_steps);
      cause = λ told memory quiet.
          let calm = quiet_from before.keeps.inner.same.faults read.keeps.inner.same.faults quiet in
          sym (before.so_far told).end ∙ (read.reads.cause (later told) memory calm).ends_badly;
      refused = λ told memory quiet well.
          let calm = quiet_from before.keeps.inner.same.faults read.keeps.inner.same.faults quiet in
          let near = refuses-near g.S.Suite.seal_of mid.key (payload_of mid) (g.R.Read.rest mid.source.inner) (wanted_of mid) (place_of mid)
          c.in_err-n.field-0.0
          (read.answers.refused (later told) memory calm) (before.inner_end told ∙ well) in
          subst (λ n. StopsNear g.S.Suite.seal_of self.key (payload_of self).bytes n c.in_err-n.field-0.0) (sym there)
          (subst (λ p. StopsNear g.S.Suite.seal_of self.key p.bytes (place_of mid) c.in_err-n.field-0.0) (before.keeps.payload told)
          (subst (λ k. StopsNear g.S.Suite.seal_of k (payload_of mid).bytes (place_of mid) c.in_err-n.field-0.0) before.same_key near));
    }

pub returns-in_err-n-clause-one : goal.returns-in_err-n-clause-one
returns-in_err-n-clause-one g c = λ told chunk from within.
    let self = c.args.self.now in
    let mid = c.reads.self in
    let before = c.reads.invariant in
    let read = c.in_err-n.ensures in
    let long : length (put_mid c.reads.filled (length c.reads.buf - c.reads.filled) c.reads.buf c.read_on.new.buf) ≡ length c.reads.buf =
    grind (arith, common_steps) in
    let fits : place_of self + length c.reads.buf ≤ 65536 * chunk + 65536 = omega (arith, within, long) in
    let opens = in-one-opens self mid c.read_on.new.self chunk c.reads.filled
    (length c.reads.buf) from fits c.reads-test.true before.moved before.good
    (before.one chunk from fits) (Err c.in_err-n.field-0.0) read.opens read.chunks in
    subst (λ r. FullInOne self c.read_on.new.self chunk c.reads.filled r) (sym (err-is {T = Unit {0}} c.from_residual.result c.in_err-n.field-0.0
    c.from_residual.ensures.1))
    (record { opens = opens.0; none = opens.1; uses = tt; keeps_last = tt; keeps = λ _. tt })

-- the buffer is full
pub returns-clause-reads : goal.returns-clause-reads
returns-clause-reads g c =
    let before = c.reads.invariant in
    record {
      good = before.good;
      bytes = before.so_far;
      stored = before.stored;
      end = λ told less. absurd (omega (arith, c.reads-test.false, less));
      ended = λ told less. absurd (omega (arith, c.reads-test.false, less));
      inner_end = before.inner_end;
    }

pub returns-clause-opens : goal.returns-clause-opens
returns-clause-opens g c =
    let before = c.reads.invariant in
    (before.counted, omega (arith, before.spared, before.moved, before.within, c.args.self.now.place.offset))

pub returns-clause-one : goal.returns-clause-one
returns-clause-one g c = λ told chunk from within. in-one-full c.args.self.now c.reads.self chunk c.reads.filled
    (c.reads.invariant.one chunk from within)
