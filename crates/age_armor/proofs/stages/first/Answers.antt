use Rattle.std.proofs.Common.{◌≡◌, ◌∙◌, IsTrue, ap, arith, sym, subst}
use Rattle.std.proofs.lemmas.Bool.{true≢false}
use Rattle.std.proofs.lemmas.Result.{IfOk-weaker}
use Rattle.age_armor.specs.declared.stages.Stage.TheVariants.{Start, Lines}
use Rattle.age_armor.specs.Stages.{ahead}
use Rattle.age_armor.specs.PrivateCounting.{one_line_more}
use Rattle.age_armor.specs.PrivateStages.{FindsForm}
use Rattle.age_armor.proofs.Staging.{piece-later, gives-later, found_none}
use Rattle.age_armor.proofs.Refusing.{kept-later}
use Rattle.age_armor.proofs.stages.first.Goals as goal

pub returns-in-Lines : goal.returns-in-Lines
returns-in-Lines g c =
    let reader = g.R.Read in
    let old = c.args.source.now in
    let middle = c.detect.new.source in
    let before = c.in-Ok.ensures in
    let now = c.next_line.ensures in
    let tells : (IsTrue (reader.tells old.inner) → IsTrue (reader.tells middle.inner)) = λ told. before.kept.keeps.same.tells ∙ told in
    let same : (IsTrue (reader.tells old.inner)
    → ahead Start (reader.rest old.inner) ≡ ahead (Lines c.in-Lines.after_short) (reader.rest middle.inner)) = λ told.
    found_none _ _ _ _ (rw c.in-Lines.is at (before.gives.bytes told)) (rw c.in-Lines.is at before.found) in
    record {
      kept = kept-later _ _ old.inner middle.inner _ _ middle.taken _ before.kept now.kept;
      counts = (omega (arith, before.counts, now.counts.0), omega (arith, before.counts, now.counts.1));
      piece = piece-later Start (Lines c.in-Lines.after_short) old middle c.next_line.result tells same now.piece;
      gives = gives-later Start (Lines c.in-Lines.after_short) old middle c.next_line.new.source c.next_line.new.bytes c.next_line.result tells
          before.kept.keeps.same.faults now.kept.keeps.same.faults before.kept.more same before.kept.keeps.narrows now.gives;
      bare = IfOk-weaker c.next_line.result _ _ (λ piece is no. absurd (true≢false (sym is ∙ no))) now.lines;
      line = IfOk-weaker c.next_line.result _ _ (λ piece is armored. is ∙ ap (λ n. one_line_more n) before.counts) now.line;
      binary = λ told plain. absurd (true≢false ((rw c.in-Lines.is at (before.form told)).same ∙ plain));
      form = λ told.
          let found = rw c.in-Lines.is at (before.form told) in
          IfOk-weaker c.next_line.result _ _ (λ piece is. subst (λ b. FindsForm b (reader.rest old.inner).bytes) (sym is) found) now.lines;
    }
