use Rattle.std.specs.Prelude.{IfErr}
use Rattle.age_io.specs.ReadingLemmas.{quiet_from}
use Rattle.age_io.proofs.Exiting.{OnOk-refused}
use Rattle.age_stream.specs.Access.{GivesAt, RefusesAt, LeavesAt}
use Rattle.age_stream.proofs.Keeping.{content-kept, err-is, kept-handed, ok_narrows, stream-kept}
use Rattle.std.proofs.lemmas.Bool.{true≢false}
use Rattle.age_io.specs.Reading.{IsQuiet, Delivers}
use Rattle.age_io.specs.Stretch.{from_place}
use Rattle.age_io.proofs.Reaching.{delivered-at}
use Rattle.age_v1.specs.PayloadAnswers.{StopsNear, IsGoodEnd, StandAt}
use Rattle.std.proofs.Common.{◌≡◌, ◌∙◌, ◌+◌, ◌/◌, sym, ap, IsTrue, take, length, length-take-le, subst, inl, inr, arith}
use Rattle.age_stream.specs.Reader.{tells_of, content_of, steady_of, payload_of, place_of, plain_rest_of}
use Rattle.age_stream.specs.ReadingLemmas.{both-true}
use Rattle.age_stream.proofs.Answered.{read-through}
use Rattle.age_stream.proofs.Outside.{outside-inner}
use Rattle.age_stream.specs.Cache.{last_used}
use Rattle.age_v1.specs.Payload.{plain_len}
use Rattle.age_stream.specs.Reader.{HasChunk}
use Rattle.age_stream.proofs.Cached.{used-good, used-there}
use Rattle.age_stream.proofs.OneChunk.{in-chunk-some, same-start}
use Rattle.age_stream.proofs.reader.StreamReader.read_at.Goals as goal

pub returns-in_err-_start-clause-refuses : goal.returns-in_err-_start-clause-refuses
returns-in_err-_start-clause-refuses g c =
    subst (λ r. RefusesAt c.args.self.now c.seek.new.self c.args.to c.args.buf.now r)
    (sym (err-is c.from_residual.result c.in_err-_start.field-0.0 c.from_residual.ensures.1)) (record {
      cause = λ told well memory quiet.
          let seeks = c.in_err-_start.ensures.seeks in
          seeks.refused told well (seeks.cause told well memory quiet);
      refused = λ told well memory quiet. inl (c.in_err-_start.ensures.target.bad told well memory quiet);
      outside = λ told outside _. c.in_err-_start.ensures.target.refused told outside;
    })

pub returns-in_err-_start-clause-leaves : goal.returns-in_err-_start-clause-leaves
returns-in_err-_start-clause-leaves g c =
    subst (λ r. LeavesAt c.args.self.now c.seek.new.self c.args.to c.args.buf.now r)
    (sym (err-is c.from_residual.result c.in_err-_start.field-0.0 c.from_residual.ensures.1)) (record {
      payload = c.in_err-_start.ensures.leaves.payload;
      key = c.in_err-_start.ensures.leaves.key;
      stands = λ told. inl (c.in_err-_start.ensures.seeks.stays told);
      rest = λ _ _. tt;
      inner_end = λ _. tt;
      unmoved = λ told outside _.
          let same = c.in_err-_start.ensures.leaves.unmoved outside in
          (same.0, same.1, same.2, same.3, same.6);
      inner_place = λ told outside _. c.in_err-_start.ensures.leaves.inner_place told outside;
      inner_rest = λ told outside _ apart. c.in_err-_start.ensures.leaves.inner_rest told apart outside;
      good = tt;
      fails = c.in_err-_start.ensures.leaves.fails;
    })

pub returns-in_err-read_full-clause-refuses : goal.returns-in_err-read_full-clause-refuses
returns-in_err-read_full-clause-refuses g c =
    subst (λ r. RefusesAt c.args.self.now c.read_full.new.self c.args.to c.read_full.new.buf r)
    (sym (err-is c.from_residual-in_err-read_full.result c.in_err-read_full.field-0.0 c.from_residual-in_err-read_full.ensures.1)) (record {
      cause = λ told well memory quiet.
          let self = c.args.self.now in
          let seeks = c.in_ok-_start.ensures.seeks in
          let read = c.in_err-read_full.ensures in
          let there = (seeks.moves told (both-true (tells_of self) (content_of self).ends_well told well)).1 in
          let calm = quiet_from seeks.no_fewer_faults read.keeps.inner.same.faults quiet in
          absurd (true≢false (sym (ap (λ s. s.ends_well) there ∙ well) ∙ read.refused.cause (seeks.same_tells ∙ told) memory calm));
      refused = λ told well memory quiet.
          let self = c.args.self.now in
          let mid = c.seek.new.self in
          let seek = c.in_ok-_start.ensures in
          let read = c.in_err-read_full.ensures in
          let calm : IsQuiet (g.R.Read.faults mid.source.inner) (g.R.Read.faults c.read_full.new.self.source.inner) =
          record { same = omega (arith, seek.seeks.no_fewer_faults, read.keeps.inner.same.faults, quiet.same); below = quiet.below } in
          let near = read.refused.refused (seek.seeks.same_tells ∙ told) memory calm (seek.leaves.inner_end told ∙ well) in
          let stops = subst (λ p. StopsNear g.S.Suite.seal_of self.key p.bytes (place_of c.read_full.new.self) c.in_err-read_full.field-0.0)
          (seek.leaves.payload told)
          (subst (λ k. StopsNear g.S.Suite.seal_of k (payload_of mid).bytes (place_of c.read_full.new.self) c.in_err-read_full.field-0.0)
          seek.leaves.key
          near) in
          let there : place_of mid ≡ c.in_ok-_start._start = seek.seeks.arrives told in
          inr (record {
            start = c.in_ok-_start._start;
            leads = seek.target.order told;
            from = omega (arith, there, read.moves.1);
            short = omega (arith, there, read.moves.1, read.refused.short);
            stops = stops;
          });
      outside = λ told outside never.
          let seeks = c.in_ok-_start.ensures.seeks in
          let read = c.in_err-read_full.ensures in
          absurd (never (outside-inner c.args.self.now c.in_err-read_full.field-0.0 outside (seeks.narrows c.in_err-read_full.field-0.0 (inr
          read.keeps.inner.why))));
    })

pub returns-in_err-read_full-clause-leaves : goal.returns-in_err-read_full-clause-leaves
returns-in_err-read_full-clause-leaves g c =
    subst (λ r. LeavesAt c.args.self.now c.read_full.new.self c.args.to c.read_full.new.buf r)
    (sym (err-is c.from_residual-in_err-read_full.result c.in_err-read_full.field-0.0 c.from_residual-in_err-read_full.ensures.1)) (record {
      payload = λ told.
          let seek = c.in_ok-_start.ensures in
          c.in_err-read_full.ensures.keeps.payload (seek.seeks.same_tells ∙ told) ∙ seek.leaves.payload told;
      key = c.in_err-read_full.ensures.moves.0 ∙ c.in_ok-_start.ensures.leaves.key;
      stands = λ told.
          let seek = c.in_ok-_start.ensures in
          let read = c.in_err-read_full.ensures in
          let there : place_of c.seek.new.self ≡ c.in_ok-_start._start = seek.seeks.arrives told in
          inr (
            c.in_ok-_start._start,
            seek.target.order told,
            omega (arith, there, read.moves.1),
            omega (
              arith,
              there,
              read.moves.1,
              read.refused.short,
            ),
          );
      rest = λ _ _. tt;
      inner_end = λ _. tt;
      unmoved = λ told _ is. absurd (subst (λ r. IfErr r (λ _. ⊥)) (sym (c.in_ok-_start.ensures.target.order told) ∙ is) tt);
      inner_place = λ told _ is. absurd (subst (λ r. IfErr r (λ _. ⊥)) (sym (c.in_ok-_start.ensures.target.order told) ∙ is) tt);
      inner_rest = λ told _ is. absurd (subst (λ r. IfErr r (λ _. ⊥)) (sym (c.in_ok-_start.ensures.target.order told) ∙ is) tt);
      good = tt;
      fails = λ _. c.in_err-read_full.ensures.refused.fails;
    })

pub returns-in_err-read_full-clause-chunks : goal.returns-in_err-read_full-clause-chunks
returns-in_err-read_full-clause-chunks g c = λ told chunk inside.
    let self = c.args.self.now in
    let mid = c.seek.new.self in
    let seek = c.in_ok-_start.ensures in
    let there : place_of mid ≡ c.in_ok-_start._start = seek.seeks.arrives told in
    let start : c.in_ok-_start._start ≡ inside.start = same-start _ _ _ (seek.target.order told) inside.leads in
    let full = c.in_err-read_full.ensures.one (seek.seeks.same_tells ∙ told) chunk (omega (arith, inside.from, there, start))
    (omega (arith, inside.within, there, start)) in
    let none = seek.opens.end told inside.before in
    let number : chunk ≡ c.in_ok-_start._start / 65536 = omega (arith, inside.from, inside.within, inside.some, start) in
    let refused = c.from_residual-in_err-read_full.ensures.0 in
    record {
      opens = omega (arith, full.opens, none);
      none = λ has. full.none (seek.chunks.finds told inside.before (subst (λ n. HasChunk self n) number has)) ∙ none;
      has = OnOk-refused _ _ refused;
      uses = OnOk-refused _ _ refused;
      keeps_last = OnOk-refused _ _ refused;
      keeps = λ _. OnOk-refused _ _ refused;
    }

pub returns-clause-keeps : goal.returns-clause-keeps
returns-clause-keeps g c =
    let mid = c.seek.new.self in
    let new = c.read_full.new.self in
    let seeks = c.in_ok-_start.ensures.seeks in
    let read = c.in_ok-read_full.ensures in
    let kept = stream-kept mid new read.keeps read.moves.0 in
    record {
      same = record {
        tells = kept.0 ∙ seeks.same_tells;
        steady = kept.1 ∙ seeks.same_steady;
        faults = omega (arith, seeks.no_fewer_faults, read.keeps.inner.same.faults);
        content = λ told. content-kept mid new read.keeps read.moves.0 (seeks.same_tells ∙ told) ∙ seeks.same_content told;
      };
      device = tt;
      patient = tt;
      why = tt;
      narrows = λ e why. elim why [
        | inl is ↦ inl (is.0, seeks.narrows e (ok_narrows _ mid new read.keeps read.moves.0 read.reads.good e is.1))
        | inr is ↦ inr (is.0, seeks.narrows _ (ok_narrows _ mid new read.keeps read.moves.0 read.reads.good _ is.1))
      ];
    }

pub returns-clause-gives : goal.returns-clause-gives
returns-clause-gives g c =
    record {
      count = c.in_ok-read_full.ensures.count;
      order = λ told.
          let self = c.args.self.now in
          let mid = c.seek.new.self in
          let seek = c.in_ok-_start.ensures in
          let read = c.in_ok-read_full.ensures in
          let came = take c.read_full.new.filled c.read_full.new.buf in
          let there : place_of mid ≡ c.in_ok-_start._start = seek.seeks.arrives told in (
            c.in_ok-_start._start,
            seek.target.order told,
            omega (arith, there, read.moves.1),
            subst (λ n. StandAt g.S.Suite.seal_of self.key (payload_of self).bytes n came) there
                (subst (λ p. StandAt g.S.Suite.seal_of self.key p.bytes (place_of mid) came) (seek.leaves.payload told)
                (subst (λ k. StandAt g.S.Suite.seal_of k (payload_of mid).bytes (place_of mid) came) seek.leaves.key
                (read.reads.stored (seek.seeks.same_tells ∙ told)))),
          );
      cursor = λ told well.
          let self = c.args.self.now in
          let seeks = c.in_ok-_start.ensures.seeks in
          let read = c.in_ok-read_full.ensures in
          let steady : IsTrue (steady_of self) = both-true (tells_of self) (content_of self).ends_well told well in
          let there = seeks.moves told steady in
          let told_mid = seeks.same_tells ∙ told in
          let came = read.reads.bytes told_mid in (
            c.in_ok-_start._start,
            there.0,
            read-through _ (take c.read_full.new.filled c.read_full.new.buf) _ c.read_full.new.filled (length c.read_full.new.buf)
                (sym (ap (λ s. s.bytes) there.1) ∙ came.bytes)
                (length-take-le c.read_full.new.filled c.read_full.new.buf read.count) read.count (λ less. (read.reads.end told_mid less).bytes),
          );
      ended = λ told less.
          let self = c.args.self.now in
          let mid = c.seek.new.self in
          let seek = c.in_ok-_start.ensures in
          let good = c.in_ok-read_full.ensures.reads.ended (seek.seeks.same_tells ∙ told) less in
          subst (λ p. IsGoodEnd g.S.Suite.seal_of self.key p (place_of c.read_full.new.self)) (seek.leaves.payload told)
          (subst (λ k. IsGoodEnd g.S.Suite.seal_of k (payload_of mid) (place_of c.read_full.new.self)) seek.leaves.key good);
    }

pub returns-clause-leaves : goal.returns-clause-leaves
returns-clause-leaves g c =
    record {
      payload = λ told.
          let seek = c.in_ok-_start.ensures in
          c.in_ok-read_full.ensures.keeps.payload (seek.seeks.same_tells ∙ told) ∙ seek.leaves.payload told;
      key = c.in_ok-read_full.ensures.moves.0 ∙ c.in_ok-_start.ensures.leaves.key;
      stands = λ _. tt;
      rest = λ told well.
          let self = c.args.self.now in
          let seeks = c.in_ok-_start.ensures.seeks in
          let read = c.in_ok-read_full.ensures in
          let steady : IsTrue (steady_of self) = both-true (tells_of self) (content_of self).ends_well told well in
          let there = seeks.moves told steady in
          let told_mid = seeks.same_tells ∙ told in
          let front = take c.read_full.new.filled c.read_full.new.buf in
          let came : Delivers front (from_place c.in_ok-_start._start (content_of self)) (plain_rest_of c.read_full.new.self) =
          subst (λ s. Delivers front s (plain_rest_of c.read_full.new.self)) there.1 (read.reads.bytes told_mid) in
          let long = length-take-le c.read_full.new.filled c.read_full.new.buf read.count in
          let place : c.in_ok-_start._start + length front ≡ place_of c.read_full.new.self = omega (arith, seeks.arrives told, read.moves.1, long) in
          (delivered-at (content_of self) (plain_rest_of c.read_full.new.self) c.in_ok-_start._start front came).1
          ∙ ap (λ p. from_place p (content_of self)) place;
      inner_end = λ told.
          let seek = c.in_ok-_start.ensures in
          c.in_ok-read_full.ensures.reads.inner_end (seek.seeks.same_tells ∙ told) ∙ seek.leaves.inner_end told;
      unmoved = λ _. tt;
      inner_place = λ _. tt;
      inner_rest = λ _. tt;
      good = λ is. true≢false (sym is ∙ c.in_ok-read_full.ensures.reads.good);
      fails = tt;
    }

pub returns-clause-opens : goal.returns-clause-opens
returns-clause-opens g c =
    record {
      counts = omega (arith, c.in_ok-_start.ensures.opens.counts, c.in_ok-read_full.ensures.opens.0);
      most = omega (arith, c.in_ok-_start.ensures.opens.most, c.in_ok-read_full.ensures.opens.1);
    }

pub returns-clause-chunks : goal.returns-clause-chunks
returns-clause-chunks g c = λ told chunk inside.
    let self = c.args.self.now in
    let mid = c.seek.new.self in
    let new = c.read_full.new.self in
    let seek = c.in_ok-_start.ensures in
    let read = c.in_ok-read_full.ensures in
    let told_mid = seek.seeks.same_tells ∙ told in
    let there : place_of mid ≡ c.in_ok-_start._start = seek.seeks.arrives told in
    let start : c.in_ok-_start._start ≡ inside.start = same-start _ _ _ (seek.target.order told) inside.leads in
    let full = read.one told_mid chunk (omega (arith, inside.from, there, start)) (omega (arith, inside.within, there, start)) in
    let none = seek.opens.end told inside.before in
    let number : chunk ≡ c.in_ok-_start._start / 65536 = omega (arith, inside.from, inside.within, inside.some, start) in
    let holding = λ (has : HasChunk self chunk). seek.chunks.finds told inside.before (subst (λ n. HasChunk self n) number has) in
    let some = in-chunk-some (length (payload_of self).bytes) c.args.to (place_of self) (length c.read_full.new.buf) chunk c.read_full.new.filled
    (place_of new) inside
    (omega (arith, read.moves.1, there, start))
    (λ less. ap (λ p. plain_len (length p.bytes)) (sym (seek.leaves.payload told)) ∙ (read.reads.ended told_mid less).length_is) in
    let uses = full.uses some in
    record {
      opens = omega (arith, full.opens, none);
      none = λ has. full.none (holding has) ∙ none;
      has = (read.reads.good, used-there new.cache chunk uses);
      uses = rw read.reads.good uses;
      keeps_last = λ b is.
          let used = used-good mid.place.failed (last_used mid.cache) b (seek.chunks.same_last told inside.before b is) in
          (read.reads.good, full.keeps_last b used.1);
      keeps = λ has b was. (read.reads.good, full.keeps (holding has) b (seek.chunks.keeps told (λ end. absurd (inside.before end)) b was).1);
    }

pub returns-in_err-_start-clause-gives : goal.returns-in_err-_start-clause-gives
returns-in_err-_start-clause-gives g c =
    subst (λ r. GivesAt c.args.self.now c.seek.new.self c.args.to c.args.buf.now r) (sym (err-is c.from_residual.result c.in_err-_start.field-0.0
    c.from_residual.ensures.1))
    (record { count = tt; order = λ _. tt; cursor = λ _ _. tt; ended = λ _. tt })

pub returns-in_err-read_full-clause-gives : goal.returns-in_err-read_full-clause-gives
returns-in_err-read_full-clause-gives g c =
    subst (λ r. GivesAt c.args.self.now c.read_full.new.self c.args.to c.read_full.new.buf r) (sym (err-is c.from_residual-in_err-read_full.result
    c.in_err-read_full.field-0.0 c.from_residual-in_err-read_full.ensures.1))
    (record { count = tt; order = λ _. tt; cursor = λ _ _. tt; ended = λ _. tt })

pub returns-in_err-_start-clause-opens : goal.returns-in_err-_start-clause-opens
returns-in_err-_start-clause-opens g c =
    record { counts = c.in_err-_start.ensures.opens.counts; most = omega (arith, c.in_err-_start.ensures.opens.most) }

pub returns-in_err-_start-clause-chunks : goal.returns-in_err-_start-clause-chunks
returns-in_err-_start-clause-chunks g c = λ told chunk inside.
    let seek = c.in_err-_start.ensures in
    let refused = c.from_residual.ensures.0 in
    record {
      opens = omega (arith, seek.opens.most);
      none = λ _. seek.opens.end told inside.before;
      has = OnOk-refused _ _ refused;
      uses = OnOk-refused _ _ refused;
      keeps_last = OnOk-refused _ _ refused;
      keeps = λ _. OnOk-refused _ _ refused;
    }

pub returns-in_err-read_full-clause-opens : goal.returns-in_err-read_full-clause-opens
returns-in_err-read_full-clause-opens g c =
    record {
      counts = omega (arith, c.in_ok-_start.ensures.opens.counts, c.in_err-read_full.ensures.opens.0);
      most = omega (arith, c.in_ok-_start.ensures.opens.most, c.in_err-read_full.ensures.opens.1);
    }

pub returns-clause-refuses : goal.returns-clause-refuses
returns-clause-refuses g c = record { cause = λ _ _. tt; refused = λ _ _. tt; outside = λ _. tt }

pub returns-in_err-_start-clause-keeps : goal.returns-in_err-_start-clause-keeps
returns-in_err-_start-clause-keeps g c =
    let seek = c.in_err-_start.ensures in
    let seeks = seek.seeks in
    kept-handed _ _ c.from_residual.result c.in_err-_start.field-0.0 c.from_residual.ensures.1 (record {
      same = record { tells = seeks.same_tells; steady = seeks.same_steady; faults = seeks.no_fewer_faults; content = seeks.same_content };
      device = seeks.device;
      patient = seek.target.patient;
      why = seeks.why;
      narrows = tt;
    })

pub returns-in_err-read_full-clause-keeps : goal.returns-in_err-read_full-clause-keeps
returns-in_err-read_full-clause-keeps g c =
    let mid = c.seek.new.self in
    let new = c.read_full.new.self in
    let seeks = c.in_ok-_start.ensures.seeks in
    let read = c.in_err-read_full.ensures in
    let kept = stream-kept mid new read.keeps read.moves.0 in
    kept-handed _ _ c.from_residual-in_err-read_full.result c.in_err-read_full.field-0.0 c.from_residual-in_err-read_full.ensures.1 (record {
      same = record {
        tells = kept.0 ∙ seeks.same_tells;
        steady = kept.1 ∙ seeks.same_steady;
        faults = omega (arith, seeks.no_fewer_faults, read.keeps.inner.same.faults);
        content = λ told. content-kept mid new read.keeps read.moves.0 (seeks.same_tells ∙ told) ∙ seeks.same_content told;
      };
      device = λ is. omega (arith, seeks.no_fewer_faults, read.keeps.inner.device is);
      patient = read.keeps.inner.patient;
      why = inr (seeks.narrows c.in_err-read_full.field-0.0 (inr read.keeps.inner.why));
      narrows = tt;
    })
