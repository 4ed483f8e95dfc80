use Rattle.std.proofs.Common.{◌≡◌, ◌∙◌, ◌<◌, IsTrue, arith, false, length, refl, sym}
use Rattle.std.proofs.lemmas.Bool.{eqb-false, eqb-true, true≢false}
use Rattle.age_armor.proofs.Staging.{piece-none, gives-asked, gives-end, gives-none, stops_of, advances_none, cut_line, empty_line, held_full, holds_count, line_ends, line_holds, line_refuses, line_trails}
use Rattle.age_armor.proofs.Refusing.{end-later, kept-later, kept-as, kept-error, kept-refused}
use Rattle.age_armor.proofs.Taking.{counts_once, quiet_after}
use Rattle.age_armor.proofs.stages.any_line.Goals as goal

pub returns-in-Err : goal.returns-in-Err
returns-in-Err g c =
    let now = c.in-Err.ensures in
    record {
      kept = kept-error _ _ _ _ _ c.in-Err.e now.kept;
      counts = (now.counts.counts, omega (arith, now.counts.none_taken));
      piece = piece-none _ _ _;
      gives = gives-asked _ _ _ _ _ (λ told other quiet. cut_line c.args.after_short (g.R.Read.rest c.args.source.now.inner) c.in-Err.e
          (now.cause told other quiet)) now.why;
      lines = tt;
      line = tt;
    }

pub returns-then-is_empty : goal.returns-then-is_empty
returns-then-is_empty g c =
    let line = c.in-Ok.ensures in
    let none : length c.take_line.new.line.items ≡ 0 =
    omega (arith, eqb-true c.take_line.new.line.len 0 (sym c.is_empty.ensures ∙ c.if-is_empty.true)) in
    record {
      kept = kept-refused _ _ _ _ _ _ line.kept (λ is. is) tt;
      counts = counts_once _ _ _ _ line.counts.counts line.counts.lines line.counts.no_line refl;
      piece = piece-none _ _ _;
      gives = gives-end _ _ _ _ _ (λ told.
          empty_line c.args.after_short c.take_line.new.line.items (g.R.Read.rest c.args.source.now.inner)
          (g.R.Read.rest c.take_line.new.self.inner) (line.line told) none);
      lines = tt;
      line = tt;
    }

pub returns-in-Refuses : goal.returns-in-Refuses
returns-in-Refuses g c =
    let line = c.in-Ok.ensures in
    let some : 0 < length c.take_line.new.line.items =
    omega (arith, eqb-false c.take_line.new.line.len 0 (sym c.is_empty.ensures ∙ c.if-is_empty.false)) in
    record {
      kept = kept-refused _ _ _ _ _ _ line.kept (λ is. is) tt;
      counts = counts_once _ _ _ _ line.counts.counts line.counts.lines line.counts.no_line refl;
      piece = piece-none _ _ _;
      gives = gives-end _ _ _ _ _ (λ told.
          line_refuses c.args.after_short c.take_line.new.line.items (g.R.Read.rest c.args.source.now.inner)
          (g.R.Read.rest c.take_line.new.self.inner) _
          (line.line told) some (rw c.deref.ensures.value at (rw c.in-Refuses.is at c.judge.ensures)));
      lines = tt;
      line = tt;
    }

pub returns-in-Ok-take_trailing : goal.returns-in-Ok-take_trailing
returns-in-Ok-take_trailing g c =
    let line = c.in-Ok.ensures in
    let last = c.in-Ok-take_trailing.ensures in
    let some : 0 < length c.take_line.new.line.items =
    omega (arith, eqb-false c.take_line.new.line.len 0 (sym c.is_empty.ensures ∙ c.if-is_empty.false)) in
    let ends = λ (told : IsTrue (g.R.Read.tells c.args.source.now.inner)).
    line_ends c.args.after_short c.take_line.new.line.items (g.R.Read.rest c.args.source.now.inner) (g.R.Read.rest c.take_line.new.self.inner)
    (line.line told) some (rw c.deref.ensures.value at (rw c.in-Ends.is at c.judge.ensures)) (last.clean (line.kept.keeps.same.tells ∙ told)) in
    record {
      kept = kept-as _ _ _ _ _ (kept-later _ _ c.args.source.now.inner c.take_line.new.self.inner _ _ _ _ line.kept last.kept);
      counts = counts_once _ _ _ _ line.counts.counts line.counts.lines line.counts.no_line last.lines;
      piece = record { fits = omega arith; full = λ is. absurd (cc is); ended = λ is. refl; begun = refl; end = λ told none. ends told };
      gives = record {
        taken = λ told. omega (arith, line.kept.more told, last.kept.more (line.kept.keeps.same.tells ∙ told));
        bytes = λ told. advances_none _ _ _ refl (ends told);
        cause = λ told. tt;
        why = λ told. tt;
      };
      lines = refl;
      line = last.lines ∙ line.counts.lines some;
    }

pub returns-in-Err-take_trailing : goal.returns-in-Err-take_trailing
returns-in-Err-take_trailing g c =
    let line = c.in-Ok.ensures in
    let last = c.in-Err-take_trailing.ensures in
    let some : 0 < length c.take_line.new.line.items =
    omega (arith, eqb-false c.take_line.new.line.len 0 (sym c.is_empty.ensures ∙ c.if-is_empty.false)) in
    let trails = λ (told : IsTrue (g.R.Read.tells c.args.source.now.inner)).
    line_trails c.args.after_short c.take_line.new.line.items (g.R.Read.rest c.args.source.now.inner) (g.R.Read.rest c.take_line.new.self.inner)
    (line.line told) some (rw c.deref.ensures.value at (rw c.in-Ends.is at c.judge.ensures)) in
    record {
      kept = kept-error _ _ _ _ _ c.in-Err-take_trailing.e
          (kept-later _ _ c.args.source.now.inner c.take_line.new.self.inner _ _ _ _ line.kept last.kept);
      counts = counts_once _ _ _ _ line.counts.counts line.counts.lines line.counts.no_line last.lines;
      piece = piece-none _ _ _;
      gives = gives-none _ _ _ _ _
          (λ told other quiet. stops_of _ c.in-Err-take_trailing.e _ (trails told)
          (last.cause (line.kept.keeps.same.tells ∙ told) other (quiet_after _ _ _ line.kept.keeps.same.faults last.kept.keeps.same.faults quiet)))
          (λ told. end-later g.R.Read c.args.source.now.inner c.take_line.new.self.inner _ _ c.in-Err-take_trailing.e line.kept.keeps.narrows
          (trails told)
          (last.why (line.kept.keeps.same.tells ∙ told)));
      lines = tt;
      line = tt;
    }

pub returns-in-Holds : goal.returns-in-Holds
returns-in-Holds g c =
    let line = c.in-Ok.ensures in
    let h = rw c.deref.ensures.value at (rw c.in-Holds.is at c.judge.ensures) in
    let raw = c.take_line.new.line.items in
    let some : 0 < length raw = omega (arith, eqb-false c.take_line.new.line.len 0 (sym c.is_empty.ensures ∙ c.if-is_empty.false)) in
    let fits = holds_count c.args.after_short raw c.judge.new.bytes c.in-Holds.count h.0 (omega arith) h.2 in
    record {
      kept = kept-as _ _ _ _ _ line.kept;
      counts = counts_once _ _ _ _ line.counts.counts line.counts.lines line.counts.no_line refl;
      piece = record {
        fits = h.2;
        full = λ full.
            let same : c.in-Holds.short ≡ false = cc full in
            held_full c.args.after_short raw c.judge.new.bytes c.in-Holds.count h.0 (omega arith) h.2 (sym h.1 ∙ same);
        ended = λ is. absurd (true≢false (sym is));
        begun = refl;
        end = λ told none. absurd (omega (arith, none, fits.0));
      };
      gives = record {
        taken = λ told. omega (arith, line.taken told, fits.1);
        bytes = λ told. line_holds c.args.after_short c.in-Holds.short raw _ (g.R.Read.rest c.args.source.now.inner)
            (g.R.Read.rest c.take_line.new.self.inner)
            (line.line told) some h.0 h.1;
        cause = λ told. tt;
        why = λ told. tt;
      };
      lines = refl;
      line = line.counts.lines some;
    }
