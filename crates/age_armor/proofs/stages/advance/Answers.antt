use Rattle.std.proofs.Common.{rules, ◌∙◌, arith, ap, sym}
use Rattle.age_armor.specs.Stages.{is_start}
use Rattle.std.proofs.lemmas.Bool.{true≢false}
use Rattle.std.proofs.lemmas.Result.{IfOk-weaker}
use Rattle.age_armor.proofs.stages.advance.Goals as goal

pub returns-in-Start : goal.returns-in-Start
returns-in-Start g c =
    let now = c.first.ensures in
    record {
      kept = now.kept;
      counts = now.counts;
      piece = rw c.in-Start.is now.piece;
      gives = rw c.in-Start.is now.gives;
      bare = now.bare;
      line = now.line;
      binary = λ told plain start. now.binary told (start (ap is_start c.in-Start.is));
      form = λ told start. now.form told;
      kept_form = λ no. absurd (true≢false (rw c.in-Start.is at no));
      size = search rules;
    }

pub returns-in-Binary : goal.returns-in-Binary
returns-in-Binary g c =
    let now = c.next_bytes.ensures in
    record {
      kept = now.kept;
      counts = (omega (arith, now.counts), omega (arith, now.counts));
      piece = rw c.in-Binary.is now.piece;
      gives = rw c.in-Binary.is now.gives;
      bare = IfOk-weaker c.next_bytes.result _ _ (λ piece is no. now.counts) now.binary;
      line = IfOk-weaker c.next_bytes.result _ _ (λ piece is armored. absurd (true≢false (sym armored ∙ is))) now.binary;
      binary = λ told plain start. now.counts;
      form = λ told start. absurd (true≢false (sym (rw c.in-Binary.is at start)));
      kept_form = λ no. rw c.in-Binary.is now.binary;
      size = search rules;
    }

pub returns-in-Lines : goal.returns-in-Lines
returns-in-Lines g c =
    let now = c.next_line.ensures in
    record {
      kept = now.kept;
      counts = now.counts;
      piece = rw c.in-Lines.is now.piece;
      gives = rw c.in-Lines.is now.gives;
      bare = IfOk-weaker c.next_line.result _ _ (λ piece is no. absurd (true≢false (sym is ∙ no))) now.lines;
      line = IfOk-weaker c.next_line.result _ _ (λ piece is armored. is) now.line;
      binary = λ told plain start. absurd (true≢false (rw c.in-Lines.is at plain));
      form = λ told start. absurd (true≢false (sym (rw c.in-Lines.is at start)));
      kept_form = λ no. rw c.in-Lines.is now.lines;
      size = search rules;
    }
