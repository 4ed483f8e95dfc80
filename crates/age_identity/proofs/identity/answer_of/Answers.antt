use Rattle.std.proofs.Common.{arith, rules}
use Rattle.age_format.specs.Unwrapping.{key_answer}
use Rattle.age_v1.specs.X25519.{UnwrapsBy}
use Rattle.age_identity.proofs.Asked.{none_answers, first_answers, others_answer}
use Rattle.age_identity.proofs.identity.answer_of.Goals as goal

pub returns-in-Some-ask : goal.returns-in-Some-ask
returns-in-Some-ask g c =
    let suite = g.S.Suite in
    c.loop-entry.invariant _ (first_answers (UnwrapsBy suite.opened suite.shared_of suite.public_of) c.args.stanzas.now c.loop-entry.rest.now
    c.in-Some.tail.now c.in-Some.entry.now
    (key_answer c.in-Some-ask.answer) (search rules) c.in-Some-ask.ensures)

pub loop-entry-preserved : goal.loop-entry-preserved
loop-entry-preserved g c = λ answer next.
    let suite = g.S.Suite in
    c.loop-entry.invariant answer (others_answer
    (UnwrapsBy suite.opened suite.shared_of suite.public_of) c.args.stanzas.now c.loop-entry.rest.now c.in-Some.tail.now c.in-Some.entry.now
    answer (search rules) (search rules) next)

pub returns : goal.returns
returns g c =
    let suite = g.S.Suite in
    c.loop-entry.invariant _ (none_answers (UnwrapsBy suite.opened suite.shared_of suite.public_of) c.args.stanzas.now c.loop-entry.rest.now
    (omega (arith, c.in_default.ensures, c.in_default.is)))
