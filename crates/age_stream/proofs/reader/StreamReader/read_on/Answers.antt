use Rattle.std.proofs.Common.{◌≡◌, ◌∙◌, ◌+◌, ◌/◌, ◌≤◌, Some, inl, inr, arith, length, ap, sym, subst, take, true}
use Rattle.std.proofs.lemmas.Result.{IfErr-weaker}
use Rattle.age_stream.specs.Reading.{spare}
use Rattle.age_io.specs.Reading.{Reads}
use Rattle.age_stream.specs.Reader.{payload_of, tells_of, steady_of, content_of, place_of, plain_rest_of, faults_of, refuses_of, IsAfterLast}
use Rattle.age_stream.specs.PrivateSteps.{AnswersRead}
use Rattle.age_v1.specs.PayloadAnswers.{Gives}
use Rattle.age_suite.specs.Suite.{one_more}
use Rattle.age_stream.proofs.Cached.{comes}
use Rattle.age_stream.proofs.Keeping.{err-is, payload-done, told-later}
use Rattle.age_stream.proofs.ReadSteps.{answers-end, answers-refused, chunks-end, moves-end, opens-end, reads-end, reads-given, reads-refused}
use Rattle.age_stream.proofs.reader.StreamReader.read_on.Goals as goal

-- after the last chunk
pub returns-then-is_after_last : goal.returns-then-is_after_last
returns-then-is_after_last g c =
    let self = c.args.self.now in
    let new = c.end.new.self in
    let buf = c.args.buf.now in
    let done = c.end.ensures in
    let at_end : IsAfterLast self = c.is_after_last.ensures.yes c.if-is_after_last.true in
    record {
      names = done.names;
      says = IfErr-weaker c.end.result _ _ (λ e why. record { itself = λ apart. absurd (apart at_end); after = λ _. why }) done.says;
      reads = reads-end self new buf at_end done.stays c.end.result done.keeps done.none done.ends done.refused;
      keeps = done.keeps;
      moves = moves-end self new buf at_end done.stays done.sought c.end.result done.none done.ends done.refused;
      answers = answers-end self new buf at_end done.stays c.end.result done.none done.ends done.refused;
      opens = opens-end self new buf at_end done.stays c.end.result;
      chunks = chunks-end self new buf at_end done.stays c.end.result done.none;
    }

-- the chunk at the place is refused
pub returns-in_err-hold-clause-reads : goal.returns-in_err-hold-clause-reads
returns-in_err-hold-clause-reads g c =
    let self = c.args.self.now in
    let new = c.hold.new.self in
    let done = c.in_err-hold.ensures in
    let e = c.in_err-hold.field-0.0 in
    subst (λ r. Reads tells_of steady_of content_of place_of plain_rest_of faults_of refuses_of self new c.args.buf.now r)
    (sym (err-is c.from_residual.result e c.from_residual.ensures.1))
    (reads-refused self new c.args.buf.now e done.keeps done.stays.key done.stays.place done.refused.fails done.refused.cause)

pub returns-in_err-hold-clause-answers : goal.returns-in_err-hold-clause-answers
returns-in_err-hold-clause-answers g c =
    let self = c.args.self.now in
    let buf = c.args.buf.now in
    let e = c.in_err-hold.field-0.0 in
    let apart : IsAfterLast self → ⊥ = c.is_after_last.ensures.no c.if-is_after_last.false in
    subst (λ r. AnswersRead self c.hold.new.self buf buf r) (sym (err-is c.from_residual.result e c.from_residual.ensures.1))
    (answers-refused self c.hold.new.self buf e apart c.in_err-hold.ensures.refused)

-- bytes of the chunk at the place are given
pub returns-clause-reads : goal.returns-clause-reads
returns-clause-reads g c =
    let done = c.in_ok-hold.ensures in
    let given = c.give.ensures in
    reads-given c.args.self.now c.hold.new.self c.give.new.self c.args.buf.now c.give.new.buf c.give.result
    (rw given.held.source (payload-done _ _ done.keeps)) done.stays done.holds given.held given.moves given.bytes
    given.count c.give.auto.buf

pub returns-clause-keeps : goal.returns-clause-keeps
returns-clause-keeps g c = rw c.give.ensures.held.source (payload-done _ _ c.in_ok-hold.ensures.keeps)

pub returns-clause-moves : goal.returns-clause-moves
returns-clause-moves g c =
    let stays = c.in_ok-hold.ensures.stays in
    let given = c.give.ensures in
    record {
      key = given.held.key ∙ stays.key;
      sought = given.held.sought ∙ stays.sought;
      good = given.held.good;
      fails = tt;
      placed = given.moves ∙ ap (λ p. p + c.give.result) stays.place;
      stayed = tt;
    }

pub returns-clause-answers : goal.returns-clause-answers
returns-clause-answers g c =
    let self = c.args.self.now in
    let mid = c.hold.new.self in
    let done = c.in_ok-hold.ensures in
    let given = c.give.ensures in
    record {
      gives = λ told some.
          let long = length c.args.buf.now in
          let came = take c.give.result c.give.new.buf in
          subst (λ n. Gives g.S.Suite.seal_of self.key (payload_of self) n long came) done.stays.place
          (subst (λ p. Gives g.S.Suite.seal_of self.key p (place_of mid) long came) (done.keeps.payload told)
          (subst (λ k. Gives g.S.Suite.seal_of k (payload_of mid) (place_of mid) long came) done.stays.key
          (given.gives (told-later g.R.Read self.source.inner mid.source.inner done.keeps.inner.same told) some)));
      ended = λ told none. done.holds.ended told (omega (arith, given.count, none, c.requires.some, (mid.chunk done.holds.good.1).in_chunk));
      inner_end = λ told. rw given.held.source (done.holds.inner_end told);
      refused = λ _. tt;
      by_itself = λ _ _. tt;
      after_last = λ _ _. tt;
      beyond = given.beyond;
      untouched = tt;
    }

pub returns-clause-opens : goal.returns-clause-opens
returns-clause-opens g c =
    let mid = c.hold.new.self in
    let new = c.give.new.self in
    let few = c.in_ok-hold.ensures.opens in
    let held = c.give.ensures.held in
    let same : spare new.place.held new.cache.first.last ≡ spare mid.place.held mid.cache.first.last =
    ap (λ h. spare h new.cache.first.last) held.held ∙ ap (λ l. spare mid.place.held l) held.last in
    record {
      counts = omega (arith, held.opens, few.counts);
      most = omega (arith, held.opens, few.most);
      none = λ here. held.opens ∙ few.none here;
      spared = omega (arith, held.opens, held.number, same, few.spared);
      spent = omega (arith, held.opens, held.number, few.spent);
    }

pub returns-clause-chunks : goal.returns-clause-chunks
returns-clause-chunks g c =
    let self = c.args.self.now in
    let mid = c.hold.new.self in
    let new = c.give.new.self in
    let done = c.in_ok-hold.ensures in
    let given = c.give.ensures in
    let apart : IsAfterLast self → ⊥ = c.is_after_last.ensures.no c.if-is_after_last.false in
    record {
      held = given.held.held ∙ done.holds.good.1;
      at_end = λ is. absurd (apart is);
      opened = λ none some. subst (λ n. one_more self.opens ≤ n) (sym given.held.opens) (done.holds.opened none);
      uses = λ some.
          let number : mid.place.number ≡ place_of self / 65536 = omega (
            arith,
            given.count,
            some,
            (mid.chunk done.holds.good.1).small,
            done.stays.place,
          ) in
          given.uses some ∙ ap (λ n. Some n) number;
      keeps_last = λ b is. given.held.has b (done.holds.keeps_last b is);
      has = λ here b one. elim here [ inl is ↦ given.held.has b (done.holds.has is b one) | inr is ↦ absurd (apart is) ];
      same_last = λ is. absurd (apart is);
      finds = λ some apart has.
          let held : new.place.held ≡ true = given.held.held ∙ done.holds.good.1 in (
            given.held.good,
            comes new.place.held new.place.number new.place.at new.cache held ((new.chunk held).in_chunk) ((new.chunk held).small)
                ((new.chunk held).full) ((new.chunk held).first) apart has,
          );
    }

pub give-requires-clause-good : goal.give-requires-clause-good
give-requires-clause-good g c = c.in_ok-hold.ensures.holds.good.0

pub give-requires-clause-held : goal.give-requires-clause-held
give-requires-clause-held g c = c.in_ok-hold.ensures.holds.good.1
