use Rattle.std.proofs.Common.{arith}
use Rattle.std.proofs.lemmas.Bool.{eqb-false}
use Rattle.age_identity.proofs.Characters.{pending_bad}
use Rattle.age_identity.proofs.comment.Utf8Check.is_utf8.Goals as goal

pub returns-clause-no : goal.returns-clause-no
returns-clause-no c = λ some text h.
    let check = c.args.self.now in
    let other = eqb-false check.count 0 some in
    pending_bad check.pending check.count text check.size check.few (omega (arith, other)) h
