use Rattle.std.proofs.Common.{◌≡◌, MatchOption, subst, []}
use Rattle.age_identity.specs.Converting.{IsLeast}
use Rattle.age_identity.proofs.Named.{names_seen}
use Rattle.age_identity.proofs.identity.least_plugin.Goals as goal

pub loop-entry-preserved : goal.loop-entry-preserved
loop-entry-preserved g c =
    subst (λ names. MatchOption c.least_with-least.result (names ≡ []) (λ name. IsLeast name.now names))
    (names_seen c.args.entries.now c.loop-entry.entry-index c.entry-item.result c.loop-entry-test.true c.entry-item.is)
    (c.least_with-least.ensures _ c.loop-entry.invariant)
