use Rattle.std.proofs.Common.{ap, ◌++◌, ◌∷◌, []}
use Rattle.age_identity.proofs.line.Line.push.Goals as goal

pub returns-in-Comment : goal.returns-in-Comment
returns-in-Comment c = λ last is.
    let of = rw c.in-Comment.is at is in
    ((of.0.0 ++ c.args.byte ∷ [], ap (λ l. l ++ c.args.byte ∷ []) of.0.1), c.push-in-Comment.ensures last of.1)
