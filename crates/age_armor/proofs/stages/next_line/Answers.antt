use Rattle.std.proofs.Common.{◌≡◌, ◌≤◌, ◌∙◌, IsTrue, arith, refl, ap, sym}
use Rattle.std.proofs.lemmas.Bool.{true≢false}
use Rattle.std.proofs.lemmas.List.{take_all}
use Rattle.std.proofs.lemmas.Result.{IfOk-weaker}
use Rattle.age_io.specs.Reading.{AddsNoReason, TriedAgain}
use Rattle.age_armor.specs.PrivateCounting.{one_line_more}
use Rattle.age_armor.specs.declared.stages.Stage.TheVariants.{Lines}
use Rattle.age_armor.specs.Stages.{ahead}
use Rattle.age_armor.proofs.Staging.{piece-none, gives-asked, piece-later, gives-later, no_line, full_step}
use Rattle.age_armor.proofs.Refusing.{kept-later, kept-as, kept-error}
use Rattle.age_armor.proofs.stages.next_line.Given as given
use Rattle.age_armor.proofs.stages.next_line.Goals as goal
use Rattle.age_armor.proofs.stages.next_line.Goals.{then-not-after_short+in-Ok+else-full, else-not-after_short}

pub returns-then-full : goal.returns-then-full
returns-then-full g c =
    let now = c.in-Ok.ensures in
    let full = c.if-full.true in
    record {
      kept = kept-as _ _ _ _ _ now.kept;
      counts = (now.counts, omega (arith, rw full at now.lines));
      piece = record {
        fits = omega arith;
        full = λ is. refl;
        ended = λ is. absurd (true≢false (sym is));
        begun = refl;
        end = λ told none. absurd (omega (arith, none));
      };
      gives = record {
        taken = λ told. omega (arith, now.taken told full);
        bytes = λ told.
            rw (c.if-not-after_short.true, take_all 48 c.take_full.new.bytes (omega arith))
            (full_step c.take_full.new.bytes (g.R.Read.rest c.args.source.now.inner) (g.R.Read.rest c.take_full.new.self.inner) (now.full told full));
        cause = λ told. tt;
        why = λ told. tt;
      };
      lines = refl;
      line = rw full at now.lines;
    }

pub returns-in-Err : goal.returns-in-Err
returns-in-Err g c =
    let now = c.in-Err.ensures in
    record {
      kept = kept-error _ _ _ _ _ c.in-Err.e now.kept;
      counts = (now.counts, omega (arith, now.none_taken));
      piece = piece-none _ _ _;
      gives = gives-asked _ _ _ _ _ (λ told other quiet. no_line c.args.after_short (g.R.Read.rest c.args.source.now.inner) c.in-Err.e
          (now.cause told other quiet)) now.why;
      lines = tt;
      line = tt;
    }

-- where no full line was taken, the reader is as it was
stays : (g : given.Over) (c : goal.After-any_line g) → (c.if-not-after_short.source.lines ≡ c.args.source.now.lines)
    × (g.R.Read.tells c.if-not-after_short.source.inner ≡ g.R.Read.tells c.args.source.now.inner)
    × (g.R.Read.faults c.args.source.now.inner ≤ g.R.Read.faults c.if-not-after_short.source.inner)
    × (IsTrue (g.R.Read.tells c.args.source.now.inner) → (g.R.Read.rest c.if-not-after_short.source.inner ≡ g.R.Read.rest c.args.source.now.inner)
    × (c.args.source.now.taken ≤ c.if-not-after_short.source.taken))
    × AddsNoReason (TriedAgain g.R.Read.refuses) c.args.source.now.inner c.if-not-after_short.source.inner
stays g c = elim c.if-not-after_short.branch [
  | then-not-after_short+in-Ok+else-full w ↦ rw w.source-is (
    rw w.if-full.false at w.in-Ok.ensures.lines,
    w.in-Ok.ensures.kept.keeps.same.tells,
    w.in-Ok.ensures.kept.keeps.same.faults,
    λ told. (w.in-Ok.ensures.none told w.if-full.false, w.in-Ok.ensures.kept.more told),
    w.in-Ok.ensures.kept.keeps.narrows,
  )
  | else-not-after_short w ↦ rw w.source-is (refl, refl, omega arith, λ told. (refl, omega arith), λ e h. h)
]

pub returns : goal.returns
returns g c =
    let reader = g.R.Read in
    let old = c.args.source.now in
    let middle = c.if-not-after_short.source in
    let now = c.any_line.ensures in
    let on = stays g c in
    let stage = Lines c.args.after_short in
    let same : (IsTrue (reader.tells old.inner) → ahead stage (reader.rest old.inner) ≡ ahead stage (reader.rest middle.inner)) =
    λ told. ap (ahead stage) (sym (on.3 told).0) in
    record {
      kept = elim c.if-not-after_short.branch [
        | then-not-after_short+in-Ok+else-full w ↦
            kept-later _ _ old.inner w.take_full.new.self.inner _ _ w.take_full.new.self.taken _ w.in-Ok.ensures.kept (rw w.source-is at now.kept)
        | else-not-after_short w ↦ rw w.source-is at now.kept
      ];
      counts = (omega (arith, on.0, now.counts.0), omega (arith, on.0, now.counts.1));
      piece = piece-later stage stage old middle c.any_line.result (λ told. on.1 ∙ told) same now.piece;
      gives = gives-later stage stage old middle c.any_line.new.source c.any_line.new.bytes c.any_line.result
          (λ told. on.1 ∙ told) on.2 now.kept.keeps.same.faults
          (λ told. (on.3 told).1) same on.4 now.gives;
      lines = now.lines;
      line = IfOk-weaker c.any_line.result _ _ (λ piece is. is ∙ ap (λ n. one_line_more n) on.0) now.line;
    }
