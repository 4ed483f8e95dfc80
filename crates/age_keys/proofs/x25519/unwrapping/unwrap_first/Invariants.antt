use Rattle.std.proofs.Common.{length}
use Rattle.age_v1.specs.Identities.{UnwrapAnswer, FirstOf, Steady}
use Rattle.age_v1.specs.X25519.{UnwrapsBy}
use Rattle.age_keys.proofs.x25519.unwrapping.unwrap_first.Given as goal

-- what decides for the rest decides for all
abbrev pub invariant-loop-stanza : goal.invariant-loop-stanza
invariant-loop-stanza g l =
    let asks = Steady (UnwrapsBy g.S.Suite.opened g.S.Suite.shared_of g.S.Suite.public_of) in
    (answer : UnwrapAnswer) → FirstOf asks l.fn.secret l.rest answer l.fn.secret → FirstOf asks l.fn.secret l.fn.stanzas answer l.fn.secret

abbrev pub decreases-loop-stanza : goal.decreases-loop-stanza
decreases-loop-stanza g l = length l.rest
