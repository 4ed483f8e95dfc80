use Rattle.age_identity.proofs.parser.Parser.push.Goals as goal

pub returns-then-byte-eq10 : goal.returns-then-byte-eq10
returns-then-byte-eq10 g c = λ text short here. rw c.if-byte-eq10.true (c.end_line.ensures text short here)
