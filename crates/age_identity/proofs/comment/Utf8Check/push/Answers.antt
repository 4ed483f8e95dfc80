use Rattle.std.proofs.Common.{arith}
use Rattle.age_identity.proofs.Characters.{checked_ended, checked_more}
use Rattle.age_identity.proofs.comment.Utf8Check.push.Goals as goal

pub returns-then-is_text : goal.returns-then-is_text
returns-then-is_text c = λ text h.
    let check = c.args.self in
    checked_ended check.pending check.count c.args.byte text check.size (omega (arith, check.few, c.if-count-eq4.false))
    (c.is_text.ensures.yes c.if-is_text.true) h

pub returns : goal.returns
returns c = λ text h.
    let check = c.args.self in
    checked_more check.pending check.count c.args.byte text check.size (omega (arith, check.few, c.if-count-eq4.false))
    (c.is_text.ensures.no c.if-is_text.false) h
