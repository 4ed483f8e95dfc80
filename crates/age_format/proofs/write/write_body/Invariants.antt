use Rattle.std.proofs.Common.{◌≡◌, ◌++◌, ℕ, List, length}
use Rattle.age_v1.specs.Stanza.{body_text}
use Rattle.age_format.proofs.write.write_body.Given as goal

abbrev pub invariant-loop-rest : goal.invariant-loop-rest
invariant-loop-rest g l = (done : List ℕ) × g.T.Sink.took l.fn.out done l.out × (done ++ body_text l.rest ≡ body_text l.fn.body)

abbrev pub decreases-loop-rest : goal.decreases-loop-rest
decreases-loop-rest g l = length l.rest
