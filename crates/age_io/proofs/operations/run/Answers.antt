use Rattle.std.proofs.Common.{arith, ◌∙◌, ◌≡◌, ◌++◌, ◌∷◌, [], take, Some, get_or}
use Rattle.std.proofs.lemmas.List.{drop_more, take_more}
use Rattle.std.proofs.lemmas.List.Elements.{All-push, All-pop, All-same}
use Rattle.age_io.specs.declared.operations.Op.TheVariants.{Read}
use Rattle.std.proofs.lemmas.Grind.{common_steps}
use Rattle.age_io.proofs.Replying.{Answered-more}
use Rattle.age_io.specs.Reading.{IsQuiet}
use Rattle.age_io.specs.Replies.{IsNoWant, IsDeviceFault}
use Rattle.age_io.proofs.InTurn.{came-more}
use Rattle.age_io.specs.declared.operations.Answer.{Answer}
use Rattle.age_io.proofs.Keeping.{same-later}
use Rattle.age_io.proofs.operations.run.Goals as goal

pub loop-op-preserved : goal.loop-op-preserved
loop-op-preserved g c =
    record {
      same = same-later g.R.Read c.args.reader.now c.loop-op.reader c.answer_of.new.reader c.loop-op.invariant.same c.in_ok-answer_of.ensures.keeps;
      so_many = grind (arith, common_steps);
      came =
          let loop = c.loop-op in
          let read = g.R.Read in
          let a = c.in_ok-answer_of.field-0 in
          let more = came-more read.tells read.steady read.content read.place read.rest read.faults read.refuses read.read_besides
          g.R.Seek.seek_refuses g.R.Seek.seek_besides
          (take loop.op-index c.args.ops.now) loop.answers.items (get_or c.args.ops.now loop.op-index (Read 0)) a
          c.args.reader.now loop.reader c.answer_of.new.reader loop.invariant.came c.in_ok-answer_of.ensures.came in
          rw (c.in_ok-push.ensures.items, take_more c.args.ops.now loop.op-index (Read 0) (omega arith)) more;
      no_device = λ same.
          let loop = c.loop-op in
          let rose = c.in_ok-answer_of.ensures.keeps.faults in
          let before : g.R.Read.faults loop.reader ≡ g.R.Read.faults c.args.reader.now = omega (arith, rose, loop.invariant.same.faults) in
          let now : g.R.Read.faults c.answer_of.new.reader ≡ g.R.Read.faults loop.reader = omega (arith, rose, loop.invariant.same.faults) in
          let no_fault : Answer → Type 0 = λ d. IsDeviceFault d → ⊥ in
          All-same no_fault _ (loop.answers.items ++ c.in_ok-answer_of.field-0 ∷ []) c.in_ok-push.ensures.items
          (All-push no_fault loop.answers.items c.in_ok-answer_of.field-0 (loop.invariant.no_device before) (c.in_ok-answer_of.ensures.device now));
      told = λ told well whole quiet wanted.
          let loop = c.loop-op in
          let a = c.in_ok-answer_of.field-0 in
          let before = loop.invariant.same.tells ∙ told in
          let same = loop.invariant.same.content told in
          let pushed = c.in_ok-push.ensures.items in
          let rose = c.in_ok-answer_of.ensures.keeps.faults in
          let calm : IsQuiet (g.R.Read.faults c.args.reader.now) (g.R.Read.faults loop.reader) =
          record { same = omega (arith, rose); below = omega (arith, rose) } in
          let calm_now : IsQuiet (g.R.Read.faults loop.reader) (g.R.Read.faults c.answer_of.new.reader) =
          record { same = omega (arith, rose); below = omega (arith, rose) } in
          let no_want = All-pop IsNoWant _ loop.answers.items (Some a) pushed wanted in
          let so_far = loop.invariant.told told well whole calm no_want.0 in
          let answered = c.in_ok-answer_of.ensures.reply before (rw same well) (rw same so_far.stands) calm_now no_want.1 in
          let here = drop_more c.args.ops.now loop.op-index (Read 0) (omega arith) in
          rw pushed (Answered-more c.args.ops.now loop.op-index (get_or c.args.ops.now loop.op-index (Read 0))
          (g.R.Read.content c.args.reader.now) (g.R.Read.place c.args.reader.now) loop.answers.items a
          (g.R.Read.place loop.reader) (g.R.Read.place c.answer_of.new.reader)
          (g.R.Read.rest loop.reader) (g.R.Read.rest c.answer_of.new.reader)
          here so_far (rw same at answered));
    }
