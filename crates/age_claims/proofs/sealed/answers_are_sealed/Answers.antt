use Rattle.std.proofs.lemmas.Result.{IfOk-weaker}
use Rattle.age_claims.proofs.InTurn.{on_ok, run_answers}
use Rattle.age_claims.proofs.sealed.answers_are_sealed.Goals as goal

pub returns-clause-each : goal.returns-clause-each
returns-clause-each g c = λ told.
    IfOk-weaker c.run.result _ _
    (λ answers came. (run_answers g.R.Seek.seek_refuses c.args.ops.now answers.items c.args.reader.now c.run.new.reader told came).each)
    c.run.ensures.each

pub returns-clause-same : goal.returns-clause-same
returns-clause-same g c = λ told.
    on_ok _ c.run.result c.run.ensures.each
    (λ answers came.
    let keeps = (run_answers g.R.Seek.seek_refuses c.args.ops.now answers.items c.args.reader.now c.run.new.reader told came).keeps in
    (keeps.tells, keeps.payload, keeps.key))
