use Rattle.std.proofs.Common.{◌≡◌}
use Rattle.age.specs.Identities.{Unwraps}
use Rattle.sazh_core.specs.Opening.{WereAsked}
use Rattle.sazh_core.proofs.opening.first_answer.Given as goal

-- those before this one were asked, and so many they are
abbrev pub invariant-loop-identity : goal.invariant-loop-identity
invariant-loop-identity g l = record {
  asked : WereAsked (λ identity answer after. Unwraps g.I.Identity.unwraps identity l.fn.header.stanzas answer after) l.fn.identities l.identities
      l.identity-index;
  counted : l.number ≡ l.identity-index;
}
