use Rattle.std.proofs.Common.{◌≡◌, ◌∙◌, ap, arith, length, ℕ, IsTrue}
use Rattle.age_error.specs.ErrorLemmas.{of_error}
use Rattle.age_io.proofs.Delivering.{refilled}
use Rattle.age_stream.specs.Reading.{tells_from}
use Rattle.age_stream.specs.ReadingLemmas.{and-left}
use Rattle.age_stream.proofs.Holding.{payload-read}
use Rattle.age_stream.proofs.Keeping.{payload-asked, payload-filled, payload-handed}
use Rattle.age_stream.proofs.source.Source.take.Goals as goal

pub invariant_of-self : goal.invariant_of-self
invariant_of-self g c =
    let self = c.args.self.now in
    let read = g.R.Read in
    let after = c.fill_front-answer.new.reader in
    let filled = c.fill_front-answer.ensures in
    let size : length c.fill_front-answer.new.room ≡ 65552 =
    omega (arith, c.fill_front-answer.auto.room, c.deref_mut.ensures.len, self.size, self.room.ok.0) in
    let room = refilled self.room.items c.fill_front-answer.new.room self.room.len self.room.ok.0 (omega (arith, size, self.size)) in
    record {
      size = ap length room ∙ size;
      fits = λ told.
          let t = rw (filled.keeps.same.tells, filled.keeps.same.steady) at told in
          let fits = g.met.R.Read.place_fits after (and-left _ _ told) in
          omega (arith, c.saturating_add-self.ensures, filled.moves (and-left _ _ t), fits, self.fits t);
    }

pub returns-in_err-answer-clause-keeps : goal.returns-in_err-answer-clause-keeps
returns-in_err-answer-clause-keeps g c =
    let self = c.args.self.now in
    let read = g.R.Read in
    let after = c.fill_front-answer.new.reader in
    let filled = c.in_err-answer.ensures in
    let e = c.in_err-answer.field-0.0 in
    payload-handed self _ c.from_residual.result e c.from_residual.ensures.1 (payload-asked self _ {U = ℕ} e
    (λ (told : IsTrue (tells_from self)).
    let t = and-left (read.tells self.inner) (read.steady self.inner) told in
    (payload-read (read.content self.inner) (read.content after) (read.place self.inner)
    (read.place after) self.taken c.saturating_add-self.result c.fill_front-answer.new.filled
    (filled.keeps.same.content t) (filled.moves t) (g.met.R.Read.place_fits after (filled.keeps.same.tells ∙ t)) c.saturating_add-self.ensures
    (self.fits told)).1) filled.keeps)

pub returns : goal.returns
returns g c =
    let self = c.args.self.now in
    let read = g.R.Read in
    let after = c.fill_front-answer.new.reader in
    let filled = c.in_ok-answer.ensures in
    let size : length c.fill_front-answer.new.room ≡ 65552 =
    omega (arith, c.fill_front-answer.auto.room, c.deref_mut.ensures.len, self.size, self.room.ok.0) in
    let room = refilled self.room.items c.fill_front-answer.new.room self.room.len self.room.ok.0 (omega (arith, size, self.size)) in
    let path = λ (told : IsTrue (tells_from self)).
    let t = and-left (read.tells self.inner) (read.steady self.inner) told in
    payload-read (read.content self.inner) (read.content after) (read.place self.inner)
    (read.place after) self.taken c.saturating_add-self.result c.fill_front-answer.new.filled
    (filled.keeps.same.content t) (filled.moves t) (g.met.R.Read.place_fits after (filled.keeps.same.tells ∙ t)) c.saturating_add-self.ensures
    (self.fits told) in
    record {
      keeps = payload-filled self _ (λ told. (path told).1) filled.keeps;
      takes = record {
        unspent = filled.most.0;
        most = filled.most.1;
        turns = rw room filled.turns;
        took = λ told. rw room (filled.took told);
        moves = λ told. (filled.moves (and-left (read.tells self.inner) (read.steady self.inner) told), (path told).0);
      };
      cause = search;
      refused = tt;
    }

pub returns-in_err-answer-clause-refused : goal.returns-in_err-answer-clause-refused
returns-in_err-answer-clause-refused g c = of_error _ _ _ c.from_residual.ensures.1 (_, c.in_err-answer.ensures.refused)
