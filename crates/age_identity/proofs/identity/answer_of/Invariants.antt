use Rattle.std.proofs.Common.{length, map}
use Rattle.age_v1.specs.Identities.{UnwrapAnswer}
use Rattle.age_v1.specs.X25519.{UnwrapsBy}
use Rattle.age_identity.specs.Asking.{EntriesAnswer}
use Rattle.age_identity.specs.Entries.{entry_of}
use Rattle.age_identity.specs.IdentityFile.{entries_of}
use Rattle.age_identity.proofs.identity.answer_of.Given as goal

-- what decides for the rest decides for all
abbrev pub invariant-loop-entry : goal.invariant-loop-entry
invariant-loop-entry g l =
    let suite = g.S.Suite in
    let asks = UnwrapsBy suite.opened suite.shared_of suite.public_of in
    (answer : UnwrapAnswer) → EntriesAnswer asks (map (λ e. entry_of e) l.rest) l.stanzas answer
    → EntriesAnswer asks (entries_of l.fn.file) l.stanzas answer

abbrev pub decreases-loop-entry : goal.decreases-loop-entry
decreases-loop-entry g l = length l.rest
