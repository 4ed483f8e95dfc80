use Rattle.age.specs.Identities.{Unwraps}
use Rattle.age_slices.proofs.Asking.{AreAsked}
use Rattle.age_slices.proofs.opening.first_answer.Given as goal

abbrev pub invariant-loop-identity : goal.invariant-loop-identity
invariant-loop-identity g l =
    AreAsked (λ identity answer after. Unwraps g.I.Identity.unwraps identity l.stanzas answer after) l.fn.identities l.identities l.identity-index
