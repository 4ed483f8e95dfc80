use Rattle.std.proofs.Common.{◌≡◌, Bool, Result, Ok, Err, true, false, arith, inl, inr, refl, sym, ◌∙◌, length}
use Rattle.std.proofs.lemmas.Bool.{true≢false}
use Rattle.std.proofs.lemmas.List.{take_all}
use Rattle.age_error.specs.declared.io.Error.{Error}
use Rattle.age_io.specs.WritingLemmas.{retried-narrows}
use Rattle.age_stream.specs.SendingLemmas.{refuses-chunk-patient}
use Rattle.age_stream.specs.Writing.{Refused}
use Rattle.age_stream.specs.WritingLemmas.{Refused-narrows}
use Rattle.age_stream.proofs.Sent.{sends-none, sends-taken}
use Rattle.age_stream.proofs.writing.StreamWriterWrite.exchange.Goals as goal

-- an answer is one of these
no-exchange : ◌≡◌ {A = Result Bool Error} (Ok true) (Ok false) → ⊥
no-exchange same = cc

refused-false : (e : Error) → ◌≡◌ {A = Result Bool Error} (Err e) (Ok false) → ⊥
refused-false e same = cc

refused-true : (e : Error) → ◌≡◌ {A = Result Bool Error} (Err e) (Ok true) → ⊥
refused-true e same = cc

pub returns-in-Ok-clause-takes : goal.returns-in-Ok-clause-takes
returns-in-Ok-clause-takes g c = λ _.
    let took = c.in-Ok.ensures in
    let writer = c.args.self.now in
    let after = c.exchange_held.new.self in
    let good = c.can_exchange.ensures.good c.if-not-can_exchange.false in
    record {
      same_tells = took.inner.same_tells;
      no_fewer_faults = took.inner.no_fewer_faults;
      device = tt;
      why = tt;
      narrows = retried-narrows (Refused g.W.Write.refuses) writer after _
          (Refused-narrows g.W.Write.refuses writer after _ good (took.failed ∙ good) took.total took.inner.narrows);
      takes_all = λ told. inr (inr (good, took.failed ∙ good, took.took told));
      takes_front = λ told. tt;
    }

-- it failed: a beginning of what is due for the piece went out
pub returns-in-Err-clause-takes : goal.returns-in-Err-clause-takes
returns-in-Err-clause-takes g c = λ _.
    let refused = c.in-Err.ensures in
    let piece = c.args.piece.now.items in
    let good = c.can_exchange.ensures.good c.if-not-can_exchange.false in
    record {
      same_tells = refused.inner.same_tells;
      no_fewer_faults = refused.inner.no_fewer_faults;
      device = refused.inner.device;
      why = inl (refuses-chunk-patient g.W.Write.refuses c.args.self.now.inner _ refused.inner.why, inr (good, inr refused.inner.why));
      narrows = tt;
      takes_all = λ told. tt;
      takes_front = λ told. (
        length piece,
        omega arith,
        rw (take_all (length piece) piece (omega arith)) (inr (inl (record { good = good; failed = refl; sends = refused.front told }))),
      );
    }

pub returns-in-Ok-clause-piece : goal.returns-in-Ok-clause-piece
returns-in-Ok-clause-piece g c =
    let asked = c.if-not-can_exchange.false in
    let can = c.can_exchange.ensures in
    let took = c.in-Ok.ensures in
    let piece : length c.args.piece.now.items ≡ 65536 = rw c.deref.ensures.value at ((can.full asked).1) in
    record {
      can = λ _. (can.good asked, (can.full asked).0, piece, omega (arith, can.room asked, piece));
      must = λ _. no-exchange;
      counts = λ _. (took.total, took.held, took.failed ∙ can.good asked);
      fails = tt;
    }

pub returns-in-Ok-clause-sent : goal.returns-in-Ok-clause-sent
returns-in-Ok-clause-sent g c = λ told.
    sends-taken g.S.Suite.seal_of g.W.Write.appended c.args.self.now c.exchange_held.new.self c.args.piece.now.items (c.in-Ok.ensures.took told)

pub returns-then-not-can_exchange-clause-piece : goal.returns-then-not-can_exchange-clause-piece
returns-then-not-can_exchange-clause-piece g c = record {
  can = λ other. absurd (other refl);
  must = λ can. absurd (true≢false (sym (c.can_exchange.ensures.must (rw c.deref.ensures.value can)) ∙ c.if-not-can_exchange.true));
  counts = λ took. absurd (no-exchange (sym took));
  fails = tt;
}

pub returns-then-not-can_exchange-clause-sent : goal.returns-then-not-can_exchange-clause-sent
returns-then-not-can_exchange-clause-sent g c =
    λ _. sends-none g.S.Suite.seal_of g.W.Write.appended g.met.W.Write.appends_nothing c.args.self.now c.args.piece.now.items

pub returns-in-Err-clause-piece : goal.returns-in-Err-clause-piece
returns-in-Err-clause-piece g c =
    let asked = c.if-not-can_exchange.false in
    let can = c.can_exchange.ensures in
    let piece : length c.args.piece.now.items ≡ 65536 = rw c.deref.ensures.value at ((can.full asked).1) in
    record {
      can = λ _. (can.good asked, (can.full asked).0, piece, omega (arith, can.room asked, piece));
      must = λ _. refused-false c.in-Err.refused;
      counts = λ took. absurd (refused-true c.in-Err.refused took);
      fails = refl;
    }
