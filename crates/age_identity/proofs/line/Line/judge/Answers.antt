use Rattle.age_identity.proofs.Commented.{comment_passed, comment_bad}
use Rattle.age_identity.proofs.line.Line.judge.Goals as goal

pub returns-then-is_utf8 : goal.returns-then-is_utf8
returns-then-is_utf8 g c = λ last is.
    let of = rw c.in-Comment.is at is in
    comment_passed c.args.ended last of.0 (c.is_utf8.ensures.yes c.if-is_utf8.true last of.1)

pub returns : goal.returns
returns g c = λ last is.
    let of = rw c.in-Comment.is at is in
    comment_bad c.args.ended last (c.is_utf8.ensures.no c.if-is_utf8.false last of.1)
