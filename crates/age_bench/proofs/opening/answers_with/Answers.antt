use Rattle.age_bench.proofs.Answered.{file_for}
use Rattle.age_bench.proofs.opening.answers_with.Goals as goal

pub returns-clause-cursor : goal.returns-clause-cursor
returns-clause-cursor g c = λ told well never file plain carries for.
    c.answers.ensures.cursor told well never file plain carries (file_for c.args.with plain file for)

pub returns-clause-opened : goal.returns-clause-opened
returns-clause-opened g c = (c.answers.new.identities, c.answers.ensures.opened)

pub returns-clause-refused : goal.returns-clause-refused
returns-clause-refused g c = (c.answers.new.identities, c.answers.ensures.refused)
