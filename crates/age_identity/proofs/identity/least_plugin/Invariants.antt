use Rattle.std.proofs.Common.{◌≡◌, [], map, take, MatchOption}
use Rattle.age_identity.specs.Entries.{entry_of}
use Rattle.age_identity.specs.Converting.{plugin_names, IsLeast}
use Rattle.age_identity.proofs.identity.least_plugin.Given as goal

abbrev pub invariant-loop-entry : goal.invariant-loop-entry
invariant-loop-entry g l =
    let names = plugin_names (map (λ e. entry_of e) (take l.entry-index l.entries)) in
    MatchOption l.least (names ≡ []) (λ name. IsLeast name.now names)
